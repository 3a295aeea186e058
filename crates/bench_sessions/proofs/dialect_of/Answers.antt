-- `bench_sessions::dialect_of` meets its contract: each way is one side of the choice.
use mathlib.Core.Path.{sym}
use borrow.Author.Tests.{eq-eqb, ne_eqb}
use Rattle.words.proofs.Choice.{chosen, passed}
use Rattle.bench_sessions.specs.rules.Numbers.{dialect_of}
use Rattle.bench_sessions.proofs.dialect_of.Goals as goal

pub returns-then-dialect-eq0 : goal.returns-then-dialect-eq0
unfolding dialect_of
returns-then-dialect-eq0 c = sym (chosen _ _ _ (eq-eqb _ _ c.if-dialect-eq0.true))

pub returns : goal.returns
unfolding dialect_of
returns c = sym (passed _ _ _ (ne_eqb _ _ c.if-dialect-eq0.false))

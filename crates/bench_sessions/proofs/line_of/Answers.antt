-- `bench_sessions::line_of` meets its contract: each way is one side of the choice.
use mathlib.Core.Path.{sym}
use borrow.Author.Tests.{eq-eqb, ne_eqb}
use Rattle.words.proofs.Choice.{chosen, passed}
use Rattle.bench_sessions.specs.rules.Numbers.{line_of}
use Rattle.bench_sessions.proofs.line_of.Goals as goal

pub returns-then-line-eq0 : goal.returns-then-line-eq0
unfolding line_of
returns-then-line-eq0 c = sym (chosen _ _ _ (eq-eqb _ _ c.if-line-eq0.true))

pub returns : goal.returns
unfolding line_of
returns c = sym (passed _ _ _ (ne_eqb _ _ c.if-line-eq0.false))

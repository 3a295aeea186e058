-- `bench_sessions::first_of` meets its contract: each way is one side of the choice.
use mathlib.Core.Path.{sym, ◌∙◌}
use borrow.Author.Tests.{eq-eqb, ne_eqb}
use Rattle.words.proofs.Choice.{chosen, passed}
use Rattle.sent.specs.rules.Feeding.{first_of}
use Rattle.bench_sessions.proofs.first_of.Goals as goal

pub returns-then-first-eq0 : goal.returns-then-first-eq0
unfolding first_of
returns-then-first-eq0 c = c.code_of.ensures ∙ sym (chosen _ _ _ (eq-eqb _ _ c.if-first-eq0.true))

pub returns : goal.returns
unfolding first_of
returns c = sym (passed _ _ _ (ne_eqb _ _ c.if-first-eq0.false))

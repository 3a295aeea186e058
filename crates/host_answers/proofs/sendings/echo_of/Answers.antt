-- `host_answers::sendings::echo_of` meets its contract: its test is that of the definition.
use mathlib.Core.Path.{sym}
use borrow.Author.Tests.{eq-eqb, ne_eqb}
use Rattle.words.proofs.Choice.{chosen, passed}
use Rattle.host_answers.proofs.sendings.echo_of.Goals as goal

pub returns-then-k-eq0 : goal.returns-then-k-eq0
returns-then-k-eq0 c = sym (chosen _ _ _ (eq-eqb _ _ c.if-k-eq0.true))

pub returns-else-k-eq0 : goal.returns-else-k-eq0
returns-else-k-eq0 c = sym (passed _ _ _ (ne_eqb _ _ c.if-k-eq0.false))

-- `host_answers::sendings::is_part` meets its contract: its tests are those of the definition.
use borrow.Author.Tests.{le-leb, lt-leb}
use Rattle.host_answers.specs.rules.Sendings.{is_part}
use Rattle.host_answers.proofs.sendings.is_part.Goals as goal

pub returns-then-from-to : goal.returns-then-from-to
unfolding is_part
returns-then-from-to c = simp (le-leb _ _ c.if-from-to.true)

pub returns-else-from-to : goal.returns-else-from-to
unfolding is_part
returns-else-from-to c = simp (lt-leb _ _ c.if-from-to.false)

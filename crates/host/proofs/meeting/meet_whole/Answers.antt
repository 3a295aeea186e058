-- `host::meeting::meet_whole` meets its contract: the data are tested as in the definition.
use mathlib.Core.Path.{sym, ◌∙◌}
use borrow.Author.Tests.{lt-ltb, le-ltb}
use Rattle.words.proofs.Choice.{chosen, passed}
use Rattle.host.proofs.meeting.meet_whole.Goals as goal

pub returns-then-image-end : goal.returns-then-image-end
returns-then-image-end c = c.refuse.ensures ∙ sym (chosen _ _ _ (lt-ltb _ _ (rw c.end_of-end.ensures at c.if-image-end.true)))

pub returns : goal.returns
returns c =
    rw (c.meet_to.ensures, c.end_of-end.ensures)
    (sym (passed _ _ _ (le-ltb _ _ (rw c.end_of-end.ensures at c.if-image-end.false))))

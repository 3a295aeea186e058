-- `host::turn` meets its contract: 14 and 3 are tested in the definition's order, and what is left is the wait.
use mathlib.Core.Bool.{not}
use mathlib.Core.Path.{ap, sym, ◌∙◌}
use lib.ListN.{length}
use Rattle.words.proofs.Choice.{chosen, passed}
use Rattle.flash_session.proofs.Lengths.{image_small}
use Rattle.host.specs.rules.Turn.{turned}
use Rattle.host.proofs.turn.Goals as goal

pub returns-then-host : goal.returns-then-host
unfolding turned
returns-then-host c = c.keep.ensures ∙ sym (chosen _ _ _ c.if-host.true)

pub returns-then-not-is_image : goal.returns-then-not-is_image
unfolding turned
returns-then-not-is_image c =
    c.keep-then-not-is_image.ensures
    ∙ sym (passed _ _ _ c.if-host.false
    ∙ chosen _ _ _ (ap not (rw c.is_image.ensures at c.if-not-is_image.true)))

pub take_turn-requires : goal.take_turn-requires
take_turn-requires c =
    let a = c.args in
    image_small (length a.image.now) a.host.length (sym c.is_image.ensures ∙ c.if-not-is_image.false)

pub returns : goal.returns
unfolding turned
returns c =
    c.take_turn.ensures
    ∙ sym (passed _ _ _ c.if-host.false
    ∙ passed _ _ _ (ap not (rw c.is_image.ensures at c.if-not-is_image.false)))

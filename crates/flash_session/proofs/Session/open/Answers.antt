-- `flash_session::Session::open` meets its contract: map, image length and first word are tested in the definition's order.
use mathlib.Core.Bool.{not}
use mathlib.Core.Path.{sym, ap, ◌∙◌}
use native.Mathlib.Omega.{arith}
use borrow.Author.Tests.{eq-eqb, ne_eqb}
use Rattle.words.proofs.Choice.{chosen, passed}
use Rattle.flash_session.specs.rules.Opening.{opened_by}
use lib.ListN.{length}
use Rattle.flash_session.proofs.Lengths.{length_small}
use Rattle.flash_session.proofs.Session.open.Goals as goal

pub returns-then-not-is_good : goal.returns-then-not-is_good
unfolding opened_by
returns-then-not-is_good c = c.shut.ensures ∙ sym (chosen _ _ _ (ap not (rw c.is_good.ensures at c.if-not-is_good.true)))

pub returns-then-not-is_length : goal.returns-then-not-is_length
unfolding opened_by
returns-then-not-is_length c =
    c.shut-then-not-is_length.ensures
    ∙ sym (passed _ _ _ (ap not (rw c.is_good.ensures at c.if-not-is_good.false))
    ∙ chosen _ _ _ (ap not (rw c.is_length.ensures at c.if-not-is_length.true)))

pub returns-then-word_at-ne-MAGIC : goal.returns-then-word_at-ne-MAGIC
unfolding opened_by
returns-then-word_at-ne-MAGIC c =
    c.shut-then-word_at-ne-MAGIC.ensures
    ∙ sym (passed _ _ _ (ap not (rw c.is_good.ensures at c.if-not-is_good.false))
    ∙ passed _ _ _ (ap not (rw c.is_length.ensures at c.if-not-is_length.false))
    ∙ chosen _ _ _ (ap not (ne_eqb _ _ (rw c.word_at.ensures at c.if-word_at-ne-MAGIC.true))))

pub overflow_cast-image : goal.overflow_cast-image
overflow_cast-image c =
    omega (
      arith,
      length_small (length c.args.image.now)
          (sym c.is_length.ensures ∙ c.if-not-is_length.false),
    )

pub returns : goal.returns
unfolding opened_by
returns c =
    rw (c.begin.ensures, c.kept.ensures)
    (sym (passed _ _ _ (ap not (rw c.is_good.ensures at c.if-not-is_good.false))
    ∙ passed _ _ _ (ap not (rw c.is_length.ensures at c.if-not-is_length.false))
    ∙ passed _ _ _ (ap not (eq-eqb _ _ (sym c.word_at.ensures ∙ c.if-word_at-ne-MAGIC.false)))))

-- `host_answers::Host::open` meets its contract: length, first word and tries are tested in the definition's order.
use mathlib.Core.Bool.{not}
use mathlib.Core.Path.{sym, ap, ◌∙◌}
use native.Mathlib.Omega.{arith}
use lib.ListN.{length}
use borrow.Author.Tests.{eq-eqb, ne_eqb}
use Rattle.words.proofs.Choice.{chosen, passed}
use Rattle.flash_session.proofs.Lengths.{length_small}
use Rattle.host_answers.specs.rules.Hosts.{opened_by}
use Rattle.host_answers.proofs.Host.open.Goals as goal

pub returns-then-not-is_length : goal.returns-then-not-is_length
unfolding opened_by
returns-then-not-is_length c = c.shut.ensures ∙ sym (chosen _ _ _ (ap not (rw c.is_length.ensures at c.if-not-is_length.true)))

pub returns-then-word_at-ne-MAGIC : goal.returns-then-word_at-ne-MAGIC
unfolding opened_by
returns-then-word_at-ne-MAGIC c =
    c.shut-then-word_at-ne-MAGIC.ensures
    ∙ sym (passed _ _ _ (ap not (rw c.is_length.ensures at c.if-not-is_length.false))
    ∙ chosen _ _ _ (ap not (ne_eqb _ _ (rw c.word_at.ensures at c.if-word_at-ne-MAGIC.true))))

pub returns-then-not-is_allowed : goal.returns-then-not-is_allowed
unfolding opened_by
returns-then-not-is_allowed c =
    c.shut-then-not-is_allowed.ensures
    ∙ sym (passed _ _ _ (ap not (rw c.is_length.ensures at c.if-not-is_length.false))
    ∙ passed _ _ _ (ap not (eq-eqb _ _ (sym c.word_at.ensures ∙ c.if-word_at-ne-MAGIC.false)))
    ∙ chosen _ _ _ (ap not (rw c.is_allowed.ensures at c.if-not-is_allowed.true)))

pub overflow_cast-length : goal.overflow_cast-length
overflow_cast-length c =
    omega (
      arith,
      length_small (length c.args.image.now)
          (sym c.is_length.ensures ∙ c.if-not-is_length.false),
    )

pub returns : goal.returns
unfolding opened_by
returns c =
    rw c.at_start.ensures
    (sym (passed _ _ _ (ap not (rw c.is_length.ensures at c.if-not-is_length.false))
    ∙ passed _ _ _ (ap not (eq-eqb _ _ (sym c.word_at.ensures ∙ c.if-word_at-ne-MAGIC.false)))
    ∙ passed _ _ _ (ap not (rw c.is_allowed.ensures at c.if-not-is_allowed.false))))

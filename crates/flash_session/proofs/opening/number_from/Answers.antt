-- `flash_session::opening::number_from` meets its contract: it is accepted exactly where nothing is refused.
use mathlib.Core.Path.{sym}
use Rattle.words.proofs.Choice.{chosen, passed}
use Rattle.opcodes.proofs.Verdicts.{accepted_by}
use Rattle.flash_session.specs.rules.Opening.{numbering_from}
use Rattle.flash_session.proofs.opening.number_from.Goals as goal

pub returns-then-is_none : goal.returns-then-is_none
unfolding numbering_from
returns-then-is_none c = rw c.from_one-first.ensures
    (sym (chosen _ _ _ (accepted_by _ c.is_none.ensures c.if-is_none.true)))

pub returns : goal.returns
unfolding numbering_from
returns c = sym (passed _ _ _ (accepted_by _ c.is_none.ensures c.if-is_none.false))

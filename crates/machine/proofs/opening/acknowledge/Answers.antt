-- `machine::opening::acknowledge` meets its contract: it is accepted exactly where nothing is refused.
use mathlib.Core.Path.{sym}
use Rattle.words.proofs.Choice.{chosen, passed}
use Rattle.opcodes.proofs.Verdicts.{accepted_by}
use Rattle.machine.specs.rules.Machine.{acknowledging}
use Rattle.machine.proofs.opening.acknowledge.Goals as goal

pub returns-then-is_none : goal.returns-then-is_none
unfolding acknowledging
returns-then-is_none c =
    rw (c.reply_before-reply.ensures, c.acknowledgement.ensures)
    (sym (chosen _ _ _ (accepted_by _ c.is_none.ensures c.if-is_none.true)))

pub returns : goal.returns
unfolding acknowledging
returns c = sym (passed _ _ _ (accepted_by _ c.is_none.ensures c.if-is_none.false))

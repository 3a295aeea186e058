-- `machine_answers::enter` meets its contract: a word is accepted exactly where nothing is refused.
use mathlib.Core.Path.{sym}
use Rattle.words.proofs.Choice.{chosen, passed}
use Rattle.opcodes.proofs.Verdicts.{accepted_by}
use Rattle.machine_answers.specs.rules.Answers.{entered}
use Rattle.machine_answers.proofs.enter.Goals as goal

pub returns-then-is_none : goal.returns-then-is_none
unfolding entered
returns-then-is_none c =
    rw (c.stopped-last.ensures, c.last_reply-last.ensures)
    (sym (chosen _ _ _ (accepted_by _ c.is_none.ensures c.if-is_none.true)))

pub returns : goal.returns
unfolding entered
returns c = sym (passed _ _ _ (accepted_by _ c.is_none.ensures c.if-is_none.false))

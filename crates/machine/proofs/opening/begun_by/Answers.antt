-- `machine::opening::begun_by` meets its contract: each arm is one side of the choice, and the totals turn where it is an opcode.
use mathlib.Core.Path.{sym}
use Rattle.words.proofs.Choice.{chosen, passed}
use Rattle.machine.proofs.opening.begun_by.Goals as goal

pub returns-then-opens : goal.returns-then-opens
returns-then-opens c = rw c.turn.ensures (sym (chosen _ _ _ c.if-opens.true))

pub returns : goal.returns
returns c = sym (passed _ _ _ c.if-opens.false)

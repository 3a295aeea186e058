-- What each turn keeps.
use mathlib.Core.Path.{◌≡◌}
use lib.ListN.{drop}
use Rattle.opcodes.specs.rules.Opcodes.{rows, found_in}
use Rattle.opcodes.proofs.look_up.Given as goal

abbrev pub invariant-loop-row : goal.invariant-loop-row
invariant-loop-row l = found_in rows l.opcode l.mode l.dialect ≡ found_in (drop l.row-index rows) l.opcode l.mode l.dialect

-- What each turn keeps.
use Prim.Native.Nat.{◌-◌}
use Rattle.field_register.proofs.ReadingOn.{SoFar}
use Rattle.field_register.proofs.read.Given as goal

abbrev pub invariant-loop-at : goal.invariant-loop-at
invariant-loop-at l = SoFar l.text l.lines l.count l.at

abbrev pub decreases-loop-at : goal.decreases-loop-at
decreases-loop-at l = 200 - l.count

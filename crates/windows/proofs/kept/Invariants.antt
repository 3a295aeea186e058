-- What each turn keeps.
use mathlib.Core.Path.{◌≡◌}
use Prim.Native.Nat.{max}
use lib.ListN.{length}
use Rattle.windows.specs.rules.Map.{kept_of}
use Rattle.windows.proofs.kept.Given as goal

abbrev pub invariant-loop-i : goal.invariant-loop-i
invariant-loop-i l = (length l.left ≡ 8) × (kept_of (max l.i l.count) l.left ≡ kept_of l.count l.initial.left)

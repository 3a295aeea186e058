-- What each turn keeps.
use mathlib.Core.Path.{◌≡◌}
use Prim.Native.Nat.{◌*◌, ◌^◌, ◌≤◌}
use lib.ListN.{drop}
use Rattle.windows.specs.rules.Window.{place_from, place_of}
use Rattle.windows.proofs.go_through.Given as goal

abbrev pub invariant-loop-i : goal.invariant-loop-i
invariant-loop-i l =
    (l.base ≤ l.i * 2 ^ 32) × (place_from l.base (drop l.i l.fn.windows) l.right l.address l.size ≡ place_of l.fn.windows l.right l.address l.size)

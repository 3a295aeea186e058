-- What each turn keeps.
use mathlib.Core.Path.{◌≡◌}
use lib.ListN.{drop}
use Rattle.windows.specs.rules.Window.{carries_on}
use Rattle.windows.proofs.carries_on.Given as goal

abbrev pub invariant-loop-window : goal.invariant-loop-window
invariant-loop-window l = carries_on (drop l.window-index l.windows) l.right l.reached l.end ≡ carries_on l.windows l.right l.from l.end

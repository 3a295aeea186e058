-- What each turn keeps.
use mathlib.Core.Path.{◌≡◌}
use lib.ListN.{drop}
use Rattle.windows.specs.rules.Map.{sound_and_rising}
use Rattle.windows.proofs.sound_and_rising.Given as goal

abbrev pub invariant-loop-window : goal.invariant-loop-window
invariant-loop-window l = sound_and_rising l.end (drop l.window-index l.windows) ≡ sound_and_rising 0 l.windows

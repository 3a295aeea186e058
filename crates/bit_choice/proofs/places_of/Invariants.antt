-- What each turn keeps.
use mathlib.Core.List.{map}
use mathlib.Core.Path.{◌≡◌}
use lib.ListN.{length}
use lib.Seq.{sets}
use Rattle.bit_choice.specs.rules.Chosen.{addresses_from, word_place, places_of}
use Rattle.bit_choice.proofs.Choosing.{left}
use Rattle.bit_choice.proofs.places_of.Given as goal

abbrev pub invariant-loop-i : goal.invariant-loop-i
invariant-loop-i l =
    (length l.places ≡ 64)
    × (sets l.places l.i (map (word_place l.windows) (left l.bytes l.count l.i)) ≡ places_of l.windows (addresses_from l.bytes 0 l.count))

-- What each turn keeps.
use mathlib.Core.Path.{◌≡◌}
use lib.ListN.{take}
use Rattle.bit_stamps.specs.rules.Stamps.{stamped}
use Rattle.bit_stamps.proofs.stamp_words.Given as goal

abbrev pub invariant-loop-i : goal.invariant-loop-i
invariant-loop-i l = l.entries ≡ stamped l.initial.entries (take l.i l.places) l.wrote

-- What each turn keeps.
use mathlib.Core.Path.{◌≡◌}
use Prim.Native.Nat.{◌+◌}
use Rattle.bit_report.specs.rules.Lowest.{lowest_in}
use Rattle.bit_report.specs.rules.Parts.{unlike_at}
use Rattle.bit_report.proofs.part_end.Given as goal

abbrev pub invariant-loop-i : goal.invariant-loop-i
invariant-loop-i l =
    lowest_in (unlike_at l.numbers l.offsets l.names l.word l.bit) l.i 32 ≡ lowest_in (unlike_at l.numbers l.offsets l.names l.word l.bit) (l.bit + 1) 32

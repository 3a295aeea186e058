-- What each turn keeps.
use mathlib.Core.Path.{◌≡◌}
use Rattle.bit_report.specs.rules.Lowest.{lowest_in}
use Rattle.bit_report.specs.rules.Parts.{by_one}
use Rattle.bit_report.proofs.is_first.Given as goal

abbrev pub invariant-loop-i : goal.invariant-loop-i
invariant-loop-i l = lowest_in (by_one l.numbers l.offsets l.index l.bit) l.i l.bit ≡ lowest_in (by_one l.numbers l.offsets l.index l.bit) 0 l.bit

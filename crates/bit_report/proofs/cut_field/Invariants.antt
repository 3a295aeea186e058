-- What each turn keeps.
use mathlib.Core.Path.{◌≡◌}
use Rattle.bit_report.specs.rules.Fields.{has_cut}
use Rattle.bit_report.specs.rules.Lowest.{lowest_in}
use Rattle.bit_report.proofs.cut_field.Given as goal

abbrev pub invariant-loop-i : goal.invariant-loop-i
invariant-loop-i l = lowest_in (has_cut l.names l.word l.from l.to) l.i l.to ≡ lowest_in (has_cut l.names l.word l.from l.to) l.from l.to

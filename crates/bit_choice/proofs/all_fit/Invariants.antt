-- What each turn keeps.
use mathlib.Core.Path.{◌≡◌}
use Rattle.bit_choice.specs.rules.Chosen.{addresses_from, all_fit}
use Rattle.bit_choice.proofs.Choosing.{left}
use Rattle.bit_choice.proofs.all_fit.Given as goal

abbrev pub invariant-loop-i : goal.invariant-loop-i
invariant-loop-i l = all_fit l.windows (left l.bytes l.count l.i) ≡ all_fit l.windows (addresses_from l.bytes 0 l.count)

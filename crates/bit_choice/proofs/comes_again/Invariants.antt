-- What each turn keeps.
use mathlib.Core.Path.{◌≡◌}
use Rattle.bit_choice.specs.rules.Chosen.{among}
use Rattle.bit_choice.proofs.Choosing.{left}
use Rattle.bit_choice.proofs.comes_again.Given as goal

abbrev pub invariant-loop-i : goal.invariant-loop-i
invariant-loop-i l = among l.address (left l.bytes l.count l.i) ≡ among l.address (left l.bytes l.count l.next)

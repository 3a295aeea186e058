-- What each turn keeps.
use mathlib.Core.Path.{◌≡◌}
use Prim.Native.Nat.{◌≤◌}
use lib.ListN.{drop}
use Rattle.digits.specs.rules.Numbers.{number_up_to}
use Rattle.digits.proofs.Reading.{read_behind}
use Rattle.digits.proofs.number_of.Given as goal

abbrev pub invariant-loop-byte : goal.invariant-loop-byte
invariant-loop-byte l =
    (l.value ≤ l.most) × (read_behind l.base l.most l.value (drop l.byte-index l.text) ≡ number_up_to l.base l.most l.text)

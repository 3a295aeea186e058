-- `sent::last_unit` meets its contract: a word has four bytes or two halves.
use Prim.Native.Nat.{◌-◌}
use mathlib.Core.Path.{sym, ap}
use Rattle.sent.specs.rules.Bus.{units_in_word}
use Rattle.sent.specs.declared.Bus.{Bus}
use Rattle.sent.proofs.last_unit.Goals as goal

pub returns-in-Bytes : goal.returns-in-Bytes
returns-in-Bytes c = sym (ap (λ (bus : Bus). units_in_word bus - 1) c.in-Bytes.is)

pub returns-in-Halves : goal.returns-in-Halves
returns-in-Halves c = sym (ap (λ (bus : Bus). units_in_word bus - 1) c.in-Halves.is)

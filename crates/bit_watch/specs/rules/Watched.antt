-- The entries beside a sent session (02, request 6): after each unit those of the bits that it tells that it wrote have its number, all others are kept.
use Rattle.std.specs.Prelude.{ℕ, List, [], ◌∷◌}
use Rattle.bit_stamps.specs.rules.Stamps.{stamped}
use Rattle.sent.specs.rules.Feeding.{State, next}
use Rattle.sent.specs.rules.Line.{unit_step}
use Rattle.sent.specs.declared.Bus.{Bus}
use Rattle.sent.specs.declared.Session.{Session}

-- after a unit
abbrev pub unit_entries : List ℕ → List ℕ → Bus → Session → List ℕ → ℕ → List ℕ
unit_entries places entries bus s m u = stamped entries places (unit_step bus s m u).answer.wrote

-- after some units, one after the other
unfoldable pub entries_after : Bus → List ℕ → List ℕ → State → List ℕ → List ℕ
entries_after bus places entries x [] = entries
entries_after bus places entries x (u ∷ us) = entries_after bus places (unit_entries places entries bus x.session x.memory u) (next bus x u) us

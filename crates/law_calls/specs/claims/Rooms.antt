-- How much more room a call needs that is fed an attempt: eight bytes a word of it, on either line; all else that may stop a call is the same for both.
use Rattle.std.specs.Prelude.{ℕ, ◌+◌, ◌*◌, ◌/◌, ◌≤◌, List, ◌++◌, ◌≡◌, length}
use Rattle.sent.specs.declared.Bus.{Bus}
use Rattle.bench_sessions.specs.rules.Feeding.{unit_bytes, most_fed, opening_room, unit_room}
use Rattle.law_calls.specs.claims.Calls.{Call, bus_of, Feeds}
use Rattle.law_calls.specs.claims.Traceless.{Lent, fed_around}

-- the units that some bytes are, and the least room that they need
abbrev pub units_in : Bus → List ℕ → ℕ
units_in bus bytes = length bytes / unit_bytes bus

abbrev pub least_room : Bus → List ℕ → ℕ
least_room bus bytes = opening_room bus + unit_room bus * units_in bus bytes

pub record MoreRoom (call : Call) (lent : Lent) (attempt following : List ℕ) : Type 0 where
  -- so much more
  pub more : least_room (bus_of call) (fed_around lent (attempt ++ following)) ≡ least_room (bus_of call) (fed_around lent following) + 8 * length attempt
  -- a call that feeds has that room; where the longer one feeds, the shorter one does in its least room, so in the same
  pub least : (words room : List ℕ) → Feeds call lent.map lent.memory (fed_around lent words) room
      → least_room (bus_of call) (fed_around lent words) ≤ length room
  pub shorter_feeds : (longer shorter : List ℕ) → Feeds call lent.map lent.memory (fed_around lent (attempt ++ following)) longer
      → least_room (bus_of call) (fed_around lent following) ≤ length shorter
      → Feeds call lent.map lent.memory (fed_around lent following) shorter
  -- and where the shorter one feeds, the longer one does in its own, if its units are not too many
  pub longer_feeds : (longer shorter : List ℕ) → Feeds call lent.map lent.memory (fed_around lent following) shorter
      → units_in (bus_of call) (fed_around lent (attempt ++ following)) ≤ most_fed
      → least_room (bus_of call) (fed_around lent (attempt ++ following)) ≤ length longer
      → Feeds call lent.map lent.memory (fed_around lent (attempt ++ following)) longer

abbrev pub LongerNeedsMoreRoom : Type 0
LongerNeedsMoreRoom = (call : Call) (lent : Lent) (attempt following : List ℕ) → MoreRoom call lent attempt following

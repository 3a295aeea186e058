-- What events leave in a room: piece by piece the same as all at once, and where all of them fit their bytes one after the other.
use Rattle.std.specs.Prelude.{ℕ, ◌+◌, ◌*◌, ◌≤◌, List, ◌++◌, ◌≡◌, length}
use Rattle.std.proofs.lemmas.List.Edits.{sets}
use Rattle.opcodes.specs.declared.Event.{Event}
use Rattle.event_room.specs.rules.Room.{event_bytes, place_after, room_after}

pub record EventsInRoom : Type 0 where
  -- the room's length stays
  pub same_length : (room : List ℕ) (place : ℕ) (es : List Event) → length (room_after room place es) ≡ length room
  -- some events and then others
  pub place_joined : (size place : ℕ) (es fs : List Event) → place_after size place (es ++ fs) ≡ place_after size (place_after size place es) fs
  pub room_joined : (room : List ℕ) (place : ℕ) (es fs : List Event)
      → room_after room place (es ++ fs) ≡ room_after (room_after room place es) (place_after (length room) place es) fs
  -- events that all fit
  pub place_whole : (size place : ℕ) (es : List Event) → place + 8 * length es ≤ size → place_after size place es ≡ place + 8 * length es
  pub room_whole : (room : List ℕ) (place : ℕ) (es : List Event) → place + 8 * length es ≤ length room
      → room_after room place es ≡ sets room place (event_bytes es)

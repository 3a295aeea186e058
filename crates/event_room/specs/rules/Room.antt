-- Events written into lent room: each as two words, kind and value, little-endian, one after the other while there is room.
use Rattle.std.specs.Prelude.{ℕ, ◌+◌, Bool, List, [], ◌∷◌, leb, length}
use Rattle.std.proofs.lemmas.List.Edits.{sets}
use Rattle.words.specs.rules.Bytes.{words_bytes}
use Rattle.words.specs.rules.Choice.{pick}
use Rattle.opcodes.specs.rules.Answers.{kind_of, value_of}
use Rattle.opcodes.specs.declared.Event.{Event}

-- events as words, kind and value of each
abbrev pub event_words : List Event → List ℕ
event_words [] = []
event_words (event ∷ events) = kind_of event ∷ value_of event ∷ event_words events

-- and as bytes
abbrev pub event_bytes : List Event → List ℕ
event_bytes events = words_bytes (event_words events)

-- do the eight bytes of an event fit at a place of a room of so many bytes?
abbrev pub event_fits : ℕ → ℕ → Bool
event_fits size place = leb (place + 8) size

-- the place after an event: past its bytes where they fit, else the same
unfoldable pub past_event : ℕ → ℕ → ℕ
past_event size place = pick (event_fits size place) (place + 8) place

-- the room after an event: with its bytes at the place where they fit, else as it was
unfoldable pub with_event : List ℕ → ℕ → Event → List ℕ
with_event room place event = pick (event_fits (length room) place) (sets room place (event_bytes (event ∷ []))) room

-- the place and the room after some events, each in turn
unfoldable pub place_after : ℕ → ℕ → List Event → ℕ
place_after size place [] = place
place_after size place (event ∷ events) = place_after size (past_event size place) events

unfoldable pub room_after : List ℕ → ℕ → List Event → List ℕ
room_after room place [] = room
room_after room place (event ∷ events) = room_after (with_event room place event) (past_event (length room) place) events

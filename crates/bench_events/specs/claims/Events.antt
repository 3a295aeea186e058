-- What the room holds: all events of a flash run, whatever the image, and their count is in the number.
use Rattle.std.specs.Prelude.{ℕ, ◌+◌, ◌*◌, ◌^◌, ◌≤◌, ◌<◌, List, ◌≡◌, length}
use Rattle.std.proofs.lemmas.List.Edits.{sets}
use Rattle.opcodes.specs.rules.Answers.{code_of}
use Rattle.opcodes.specs.declared.Event.{Event}
use Rattle.event_room.specs.rules.Room.{event_bytes}
use Rattle.flash_session.specs.rules.Opening.{opened_by}
use Rattle.flash_runs.specs.rules.Events.{events_from, most_events}
use Rattle.flash_runs.specs.rules.Run.{ran_from}
use Rattle.bench_sessions.specs.rules.Feeding.{SessionOutcome, outcome}
use Rattle.bench_sessions.specs.rules.Map.{windows_of, count_of}
use Rattle.bench_sessions.specs.rules.Numbers.{dialect_of}
use Rattle.bench_events.specs.rules.Events.{telling, flash_events}

-- every event in the room, one after the other from its front, and their count in the number
abbrev pub whole : ℕ → List Event → List ℕ → List ℕ → SessionOutcome
whole code events memory room = outcome (code * 2 ^ 56 + length events) memory (sets room 0 (event_bytes events))

pub record EventsAreWhole : Type 0 where
  -- events that fit are told whole
  pub fitting : (code : ℕ) (events : List Event) (memory room : List ℕ) → 8 * length events ≤ length room → length events < 2 ^ 56
      → telling code events memory room ≡ whole code events memory room
  -- those of a flash run that is not refused with 19 or 23 do, for a limit that is a byte
  pub flash : (dialect : ℕ) (map memory image : List ℕ) (limit : ℕ) (room : List ℕ) → dialect ≤ 1 → limit < 256
      → 8 * most_events limit (length image) ≤ length room
      → flash_events dialect map memory image limit room
      ≡ whole (code_of (ran_from (opened_by (dialect_of dialect) (count_of map) (windows_of map) image limit) memory image).answer.refusal)
      (events_from (opened_by (dialect_of dialect) (count_of map) (windows_of map) image limit) memory image)
      (ran_from (opened_by (dialect_of dialect) (count_of map) (windows_of map) image limit) memory image).memory room

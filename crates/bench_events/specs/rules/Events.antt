-- A flash run and an exchange for C, each with its events: one number, the memory, and the room with two words an event.
use Rattle.std.specs.Prelude.{ℕ, ◌+◌, ◌*◌, ◌/◌, ◌%◌, ◌^◌, Bool, not, List, ltb, eqb, length}
use Rattle.words.specs.rules.Choice.{pick}
use Rattle.opcodes.specs.rules.Answers.{code_of}
use Rattle.opcodes.specs.declared.Event.{Event}
use Rattle.opcodes.specs.rules.Refusals.{Verdict}
use Rattle.opcodes.specs.rules.Refusals as refusal
use Rattle.event_room.specs.rules.Room.{place_after, room_after}
use Rattle.flash_session.specs.rules.Opening.{opened_by}
use Rattle.flash_session.specs.declared.Opened.{Opened}
use Rattle.flash_runs.specs.rules.Events.{events_from, most_events}
use Rattle.flash_runs.specs.rules.Run.{ran_from}
use Rattle.exchange.specs.rules.Exchange.{Talk, meeting, exchanged}
use Rattle.bench_sessions.specs.rules.Feeding.{SessionOutcome, outcome}
use Rattle.bench_sessions.specs.rules.Map.{windows_of, count_of}
use Rattle.bench_sessions.specs.rules.Numbers.{line_of, dialect_of}
use Rattle.bench_hosts.specs.rules.HostCalls.{are_named, exchange_refused}

-- is a room of so many bytes too short for the most events of a run with this limit, of an image of so many bytes?
unfoldable pub is_short : ℕ → ℕ → ℕ → Bool
is_short lent limit n = ltb lent (8 * most_events limit n)

-- a refusal's code above the count of events, of which so many bytes of the room hold words
unfoldable pub told_value : ℕ → ℕ → ℕ
told_value code bytes = code * 2 ^ 56 + bytes / 8 % 2 ^ 56

-- refused before the first command, nothing is touched
abbrev pub unrun : Verdict → List ℕ → List ℕ → SessionOutcome
unrun q memory room = outcome (code_of q * 2 ^ 56) memory room

-- what is left with these events told in the room
abbrev pub telling : ℕ → List Event → List ℕ → List ℕ → SessionOutcome
telling code events memory room = outcome (told_value code (place_after (length room) 0 events)) memory (room_after room 0 events)

-- a run from its opening, its events told
abbrev pub run_told : Opened → List ℕ → List ℕ → List ℕ → SessionOutcome
run_told o memory image room = telling (code_of (ran_from o memory image).answer.refusal) (events_from o memory image) (ran_from o memory image).memory room

-- a flash run: 19 for another dialect than 0 and 1, 23 for the room, else as the run ends
unfoldable pub flash_events : ℕ → List ℕ → List ℕ → List ℕ → ℕ → List ℕ → SessionOutcome
flash_events dialect map memory image limit room =
    pick (ltb 1 dialect) (unrun refusal.Call memory room)
    (pick (is_short (length room) limit (length image)) (unrun refusal.Room memory room)
    (run_told (opened_by (dialect_of dialect) (count_of map) (windows_of map) image limit) memory image room))

-- what a talk comes to, its events told
abbrev pub talk_told : Talk → List ℕ → SessionOutcome
talk_told t room = telling (code_of t.host_refused) t.events t.loader.memory room

-- an exchange: 19 for a line or a dialect, 23 for the room, 1 for the map, 2 for the memory, else as the host ends
unfoldable pub host_events : ℕ → ℕ → List ℕ → List ℕ → List ℕ → ℕ → ℕ → ℕ → List ℕ → SessionOutcome
host_events line dialect map memory image tries limit pings room =
    let q : Verdict = exchange_refused line dialect map (length memory) in
    pick (not (are_named line dialect)) (unrun refusal.Call memory room)
    (pick (is_short (length room) limit (length image)) (unrun refusal.Room memory room)
    (pick (eqb (code_of q) 0)
    (talk_told (exchanged (meeting (line_of line) (dialect_of dialect) (count_of map) (windows_of map) memory image tries limit pings) image) room)
    (unrun q memory room)))

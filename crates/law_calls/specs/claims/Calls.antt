-- The session calls that C makes, as one kind of value: what each comes to, and when its units are fed.
use Rattle.std.specs.Prelude.{ℕ, ◌/◌, ◌%◌, ◌^◌, ◌≤◌, Bool, true, false, ◌||◌, List, [], ◌≡◌, eqb, length}
use Rattle.windows.specs.rules.Window.{sum_of}
use Rattle.opcodes.specs.rules.Answers.{accepted}
use Rattle.opcodes.specs.declared.Dialect.{Dialect}
use Rattle.sent.specs.rules.Bus.{units_fed}
use Rattle.sent.specs.rules.Feeding.{State, fed}
use Rattle.sent.specs.rules.Opening.{opened_by}
use Rattle.sent.specs.declared.Bus.{Bus}
use Rattle.sent.specs.declared.Opened.{Opened}
use Rattle.bench_sessions.specs.rules.Feeding.{SessionOutcome, begun, refused_before, sent_session, line_session}
use Rattle.bench_sessions.specs.rules.Map.{windows_of, count_of}
use Rattle.bench_sessions.specs.rules.Numbers.{Watched, choice_on, barred, line_of, numbered_opening, bits_session}

-- ais_sent_session and ais_half_session; ais_dm648_session; ais_bits_session with the words chosen and the numbers lent
pub data Call : Type 0 where
  plain : (bus : Bus) (dialect : Dialect) → Call
  on_line : (line : ℕ) (dialect : Dialect) → Call
  numbering : (line dialect : ℕ) (chosen numbers : List ℕ) → Call

-- what a call comes to on a map, a memory, the bytes to feed and a room; one without numbers leaves none
abbrev pub result_of : Call → List ℕ → List ℕ → List ℕ → List ℕ → Watched
result_of (plain bus dialect) map memory bytes room = record { session = sent_session bus dialect map memory bytes room; numbers = [] }
result_of (on_line line dialect) map memory bytes room = record { session = line_session line dialect map memory bytes room; numbers = [] }
result_of (numbering line dialect chosen numbers) map memory bytes room = bits_session line dialect map chosen memory numbers bytes room

-- its line, and its opening
abbrev pub bus_of : Call → Bus
bus_of (plain bus dialect) = bus
bus_of (on_line line dialect) = line_of line
bus_of (numbering line dialect chosen numbers) = line_of line

abbrev pub opening_of : Call → List ℕ → Opened
opening_of (plain bus dialect) map = opened_by bus dialect (count_of map) (windows_of map)
opening_of (on_line line dialect) map = opened_by (line_of line) dialect (count_of map) (windows_of map)
opening_of (numbering line dialect chosen numbers) map = numbered_opening line dialect map

-- its session after some bytes
abbrev pub state_after : Call → List ℕ → List ℕ → List ℕ → State
state_after call map memory bytes = fed (bus_of call) (begun (opening_of call map) memory) (units_fed (bus_of call) bytes)

-- its line, its dialect and its chosen words are taken: 19, 1, 24, 2
abbrev pub Taken : Call → List ℕ → List ℕ → Type 0
Taken (plain bus dialect) map memory = Unit {0}
Taken (on_line line dialect) map memory = line ≤ 1
Taken (numbering line dialect chosen numbers) map memory =
    (line ≤ 1) × (dialect ≤ 1)
    × (accepted (barred (numbered_opening line dialect map).refusal (choice_on map chosen) (length numbers) (length memory)
    (sum_of (numbered_opening line dialect map).session.core.windows)) ≡ true)

-- its units are fed: none of 1, 2, 19 and 24 stops it before
pub record Feeds (call : Call) (map memory bytes room : List ℕ) : Type 0 where
  pub taken : Taken call map memory
  pub begins : accepted (refused_before (bus_of call) (opening_of call map) (length memory) (length bytes) (length room)) ≡ true

-- what C reads in a call's number: the first refusal, and the count of reply bytes
abbrev pub refusal_in : SessionOutcome → ℕ
refusal_in o = o.value / 2 ^ 32

abbrev pub count_in : SessionOutcome → ℕ
count_in o = o.value % 2 ^ 32

-- the refusals that are given before anything is fed
abbrev pub is_before : ℕ → Bool
is_before code = eqb code 1 || (eqb code 2 || (eqb code 19 || eqb code 24))

-- C sees by the number that the units of a call were fed
abbrev pub FedByNumber : Type 0
FedByNumber =
    (call : Call) (map memory bytes room : List ℕ) → is_before (refusal_in (result_of call map memory bytes room).session) ≡ false
    → Feeds call map memory bytes room

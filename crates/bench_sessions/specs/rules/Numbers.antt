-- The numbers beside a session (02, request 6): cleared where it begins, stamped after each unit, and untouched where it is refused before.
use Rattle.std.specs.Prelude.{ℕ, ◌*◌, ◌^◌, not, List, eqb, ltb, length, replicate}
use Rattle.words.specs.rules.Choice.{pick}
use Rattle.windows.specs.rules.Map.{kept_of}
use Rattle.windows.specs.rules.Window.{sum_of}
use Rattle.opcodes.specs.rules.Answers.{accepted, code_of}
use Rattle.opcodes.specs.declared.Dialect.{Dialect}
use Rattle.opcodes.specs.declared.Dialect.TheVariants.{Am17xx, Dm648}
use Rattle.opcodes.specs.rules.Refusals.{Verdict}
use Rattle.opcodes.specs.rules.Refusals as refusal
use Rattle.sent.specs.rules.Bus.{units_fed}
use Rattle.sent.specs.rules.Feeding.{State}
use Rattle.sent.specs.rules.Opening.{opened_by, numbering_from}
use Rattle.machine_answers.specs.declared.Reply.{Reply}
use Rattle.sent.specs.declared.Bus.{Bus}
use Rattle.sent.specs.declared.Bus.TheVariants.{Bytes, Halves}
use Rattle.sent.specs.declared.Opened.{Opened}
use Rattle.bit_choice.specs.rules.Chosen.{choice_of, chosen_places}
use Rattle.bit_choice.specs.declared.Choice.{Choice}
use Rattle.bit_watch.specs.rules.Watched.{entries_after}
use Rattle.bench_sessions.specs.rules.Map.{windows_of, count_of}
use Rattle.bench_sessions.specs.rules.Feeding.{SessionOutcome, outcome, fed_from, refused_before, begun, session_from}

-- what a session comes to, and the numbers that are left
pub record Watched : Type 0 where
  pub session : SessionOutcome
  pub numbers : List ℕ

abbrev pub watched : ℕ → List ℕ → List ℕ → List ℕ → Watched
watched value memory numbers room = record { session = outcome value memory room; numbers = numbers }

-- refused before anything is fed: nothing is touched
abbrev pub unwatched : Verdict → List ℕ → List ℕ → List ℕ → Watched
unwatched q memory numbers room = watched (code_of q * 2 ^ 32) memory numbers room

-- units fed after an opening's reply, and the numbers of the words at these places after them
abbrev pub watched_fed : Bus → Reply → State → List ℕ → List ℕ → List ℕ → List ℕ → Watched
watched_fed bus opening x units places numbers room =
    record { session = fed_from bus opening x units room; numbers = entries_after bus places numbers x units }

-- as many numbers, each 0
abbrev pub cleared : List ℕ → List ℕ
cleared numbers = replicate (length numbers) 0

-- the numbers that a session from its opening leaves
unfoldable pub numbers_from : Bus → Opened → List ℕ → List ℕ → List ℕ → List ℕ → List ℕ → List ℕ
numbers_from bus o places memory numbers bytes room =
    pick (accepted (refused_before bus o (length memory) (length bytes) (length room)))
    (entries_after bus places (cleared numbers) (begun o memory) (units_fed bus bytes))
    numbers

-- a session from its opening with the numbers of the words at these places beside it
abbrev pub session_watched : Bus → Opened → List ℕ → List ℕ → List ℕ → List ℕ → List ℕ → Watched
session_watched bus o places memory numbers bytes room =
    record { session = session_from bus o memory bytes room; numbers = numbers_from bus o places memory numbers bytes room }

-- the words that a list chooses on a map's bytes
abbrev pub choice_on : List ℕ → List ℕ → Choice
choice_on map chosen = choice_of (kept_of (count_of map) (windows_of map)) chosen

-- why a session with numbers does not begin: 1, 24, what the opening refuses after 1, 2 for the numbers' length, 2 for the memory's
unfoldable pub barred : Verdict → Choice → ℕ → ℕ → ℕ → Verdict
barred opening choice numbers memory sum =
    pick (eqb (code_of opening) (code_of refusal.Map)) opening
    (pick (not (accepted choice.refusal)) choice.refusal
    (pick (not (accepted opening)) opening
    (pick (not (eqb numbers (64 * choice.chosen.count))) refusal.Memory
    (pick (not (eqb memory sum)) refusal.Memory refusal.None))))

-- a session with numbers from its opening and its choice: 1, 24, 2, then 19, else the units are fed
unfoldable pub watched_from : Bus → Opened → Choice → List ℕ → List ℕ → List ℕ → List ℕ → Watched
watched_from bus o choice memory numbers bytes room =
    let q = barred o.refusal choice (length numbers) (length memory) (sum_of o.session.core.windows) in
    pick (not (accepted q)) (unwatched q memory numbers room) (session_watched bus o (chosen_places choice.chosen) memory numbers bytes room)

-- the line and the dialect of a number: bytes and AM17xx are 0
unfoldable pub line_of : ℕ → Bus
line_of line = pick (eqb line 0) Bytes Halves

unfoldable pub dialect_of : ℕ → Dialect
dialect_of dialect = pick (eqb dialect 0) Am17xx Dm648

-- the opening on a line and in a dialect by number, on a map's bytes, whose commands are numbered
abbrev pub numbered_opening : ℕ → ℕ → List ℕ → Opened
numbered_opening line dialect map = numbering_from (opened_by (line_of line) (dialect_of dialect) (count_of map) (windows_of map))

-- on a line and in a dialect by number, on a map's bytes: 19 for another line or dialect than 0 and 1 before anything else is judged
unfoldable pub bits_session : ℕ → ℕ → List ℕ → List ℕ → List ℕ → List ℕ → List ℕ → List ℕ → Watched
bits_session line dialect map chosen memory numbers bytes room =
    pick (ltb 1 line) (unwatched refusal.Call memory numbers room)
    (pick (ltb 1 dialect) (unwatched refusal.Call memory numbers room)
    (watched_from (line_of line) (numbered_opening line dialect map) (choice_on map chosen) memory numbers bytes room))

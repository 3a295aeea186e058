-- One whole sent session for the bench, on either line: from the map's bytes and the bytes of the units fed to one number, the memory and the room for replies.
use Rattle.std.specs.Prelude.{ℕ, ◌+◌, ◌*◌, ◌/◌, ◌%◌, ◌^◌, Bool, not, ◌&&◌, List, ◌++◌, eqb, leb, length, drop}
use Rattle.words.specs.rules.Choice.{pick}
use Rattle.windows.specs.rules.Window.{sum_of}
use Rattle.opcodes.specs.rules.Answers.{accepted, code_of}
use Rattle.opcodes.specs.declared.Dialect.{Dialect}
use Rattle.opcodes.specs.rules.Refusals.{Verdict}
use Rattle.opcodes.specs.rules.Refusals as refusal
use Rattle.sent.specs.rules.Bus.{unit_bits, units_fed}
use Rattle.sent.specs.rules.Feeding.{State, fed, answers, replied, first_refused}
use Rattle.sent.specs.rules.Opening.{opened_by}
use Rattle.machine_answers.specs.rules.Replies.{sent_bytes}
use Rattle.sent.specs.declared.Bus.{Bus}
use Rattle.sent.specs.declared.Bus.TheVariants.{Bytes, Halves}
use Rattle.sent.specs.declared.Opened.{Opened}
use Rattle.machine_answers.specs.declared.Reply.{Reply}
use Rattle.bench_sessions.specs.rules.Map.{windows_of, count_of}

-- what a session comes to: the number that C gets, the memory and the room that are left
pub record SessionOutcome : Type 0 where
  pub value : ℕ
  pub memory : List ℕ
  pub room : List ℕ

abbrev pub outcome : ℕ → List ℕ → List ℕ → SessionOutcome
outcome value memory room = record { value = value; memory = memory; room = room }

-- refused before anything is fed: nothing is touched
abbrev pub unfed : Verdict → List ℕ → List ℕ → SessionOutcome
unfed q memory room = outcome (code_of q * 2 ^ 32) memory room

-- units fed after an opening's reply: the first refusal's code and the count of reply bytes in one number; the memory after them; all replies at the front of
-- the room, what is past them unchanged
unfoldable pub fed_from : Bus → Reply → State → List ℕ → List ℕ → SessionOutcome
fed_from bus opening x units room =
    let heard = answers bus x units in
    let replies = sent_bytes opening ++ replied heard in
    outcome (first_refused heard * 2 ^ 32 + length replies) (fed bus x units).memory (replies ++ drop (length replies) room)

-- the bytes of a unit
abbrev pub unit_bytes : Bus → ℕ
unit_bytes bus = unit_bits bus / 8

-- the most units that are fed
abbrev pub most_fed : ℕ
most_fed = 65536

-- the room that the replies need: for the opening's, and for those to each unit
abbrev pub opening_room : Bus → ℕ
opening_room Bytes = 6
opening_room Halves = 0

abbrev pub unit_room : Bus → ℕ
unit_room Bytes = 2
unit_room Halves = 4

-- so many lent bytes are whole units, no more units are fed, and the room is not shorter
unfoldable pub roomy : Bus → ℕ → ℕ → Bool
roomy bus lent room =
    eqb (lent % unit_bytes bus) 0 && (leb (lent / unit_bytes bus) most_fed && leb (opening_room bus + unit_room bus * (lent / unit_bytes bus)) room)

-- why a session does not begin, by its opening and the lengths lent: 1, 2, 19
unfoldable pub refused_before : Bus → Opened → ℕ → ℕ → ℕ → Verdict
refused_before bus o memory lent room =
    pick (not (accepted o.refusal)) o.refusal
    (pick (not (eqb memory (sum_of o.session.core.windows))) refusal.Memory
    (pick (not (roomy bus lent room)) refusal.Call refusal.None))

-- an opened session with the memory lent to it
abbrev pub begun : Opened → List ℕ → State
begun o memory = record { session = o.session; memory = memory }

-- a session from its opening: the units that the bytes are, fed
unfoldable pub session_from : Bus → Opened → List ℕ → List ℕ → List ℕ → SessionOutcome
session_from bus o memory bytes room =
    let q = refused_before bus o (length memory) (length bytes) (length room) in
    pick (accepted q) (fed_from bus o.reply (begun o memory) (units_fed bus bytes) room) (unfed q memory room)

-- a session on a line, in a dialect, on a map's bytes
abbrev pub sent_session : Bus → Dialect → List ℕ → List ℕ → List ℕ → List ℕ → SessionOutcome
sent_session bus dialect map memory bytes room = session_from bus (opened_by bus dialect (count_of map) (windows_of map)) memory bytes room

-- the same on the line of a number: 0 bytes, 1 halves; any other is 19 before anything else is judged
unfoldable pub line_session : ℕ → Dialect → List ℕ → List ℕ → List ℕ → List ℕ → SessionOutcome
line_session line dialect map memory bytes room =
    pick (eqb line 0) (sent_session Bytes dialect map memory bytes room)
    (pick (eqb line 1) (sent_session Halves dialect map memory bytes room) (unfed refusal.Call memory room))

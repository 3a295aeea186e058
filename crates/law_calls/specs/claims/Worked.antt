-- The worked instance of demand 3 as C makes it, by each of the session calls on both lines and in both dialects: a start unit and an Enable, the attempt, the
-- repeat and a Request.
use Rattle.std.specs.Prelude.{ℕ, ◌-◌, List, [], ◌∷◌, ◌++◌, ◌≡◌, take, drop, replicate}
use Rattle.opcodes.specs.declared.Dialect.TheVariants.{Am17xx, Dm648}
use Rattle.bit_stamps.specs.rules.Stamps.{entry_at}
use Rattle.words.specs.rules.Bytes.{words_bytes}
use Rattle.sent.specs.declared.Bus.{Bus}
use Rattle.sent.specs.declared.Bus.TheVariants.{Bytes, Halves}
use Rattle.bench_sessions.specs.rules.Feeding.{SessionOutcome}
use Rattle.bench_sessions.specs.rules.Numbers.{Watched}
use Rattle.law_retries.specs.claims.Example.{before, abandoned, repeated, meant}
use Rattle.law_retries.specs.claims.Pieces.{all_words, enable_opcode, request_opcode}
use Rattle.law_retries.specs.claims.Retries.{attempt_words, Retried}
use Rattle.law_calls.specs.claims.Calls.{Call, plain, on_line, numbering, result_of, bus_of, Feeds}
use Rattle.law_calls.specs.claims.Rooms.{least_room}
use Rattle.law_calls.specs.claims.Traceless.{Lent, fed_around, state_there, NoTraceInCall}

-- the start unit as bytes
abbrev pub start_bytes : Bus → List ℕ
start_bytes Bytes = 0x58 ∷ []
start_bytes Halves = 0x53 ∷ 0x58 ∷ []

-- one window of eight bytes from 0x80000000 on with all rights; and its first word, to be chosen, with numbers as an earlier call may have left them
abbrev pub map : List ℕ
map = words_bytes (0x80000000 ∷ 8 ∷ 7 ∷ [])

abbrev pub first_word : List ℕ
first_word = words_bytes (0x80000000 ∷ [])

abbrev pub earlier : List ℕ
earlier = replicate 64 0xFF

-- what is lent beside a room
abbrev pub lent_to : Bus → Lent
lent_to bus =
    record {
      map = map;
      memory = before;
      before = start_bytes bus ++ words_bytes (enable_opcode ∷ []);
      after = words_bytes (request_opcode ∷ []);
    }

-- a room that is just long enough for these words
abbrev pub room_for : Bus → List ℕ → List ℕ
room_for bus words = replicate (least_room bus (fed_around (lent_to bus) words)) 0

-- what a call comes to
abbrev pub worked_of : Call → List ℕ → Watched
worked_of call words =
    result_of call map before (fed_around (lent_to (bus_of call)) words) (room_for (bus_of call) words)

-- the words with the attempt, and without it
abbrev pub trying_first : List ℕ
trying_first = attempt_words abandoned ++ all_words repeated

abbrev pub at_once : List ℕ
at_once = all_words repeated

-- the replies from the attempt's close on: three commands and the Request acknowledged, and the checksum
abbrev pub said : List ℕ
said = words_bytes (0x52535907 ∷ 0x52535907 ∷ 0x52535901 ∷ 0x52535902 ∷ 0x52168071 ∷ [])

-- the last of so many reply bytes
abbrev pub last_said : ℕ → SessionOutcome → List ℕ
last_said count o = drop (count - 20) (take count o.room)

-- the premises are met and both calls feed; with the attempt and without it nothing is refused, memory is as it was meant, so many bytes are replied, the last
-- of them the same, and bit 6 of the chosen word has this number
pub record CallWorked (call : Call) (with without number : ℕ) : Type 0 where
  pub retried : Retried (bus_of call) (state_there call (lent_to (bus_of call))) (attempt_words abandoned) abandoned.pieces repeated
  pub feeds : Feeds call map before (fed_around (lent_to (bus_of call)) trying_first) (room_for (bus_of call) trying_first)
  pub feeds_at_once : Feeds call map before (fed_around (lent_to (bus_of call)) at_once) (room_for (bus_of call) at_once)
  pub no_trace : NoTraceInCall call (lent_to (bus_of call)) (attempt_words abandoned) (all_words repeated)
  pub value : (worked_of call trying_first).session.value ≡ with
  pub value_at_once : (worked_of call at_once).session.value ≡ without
  pub memory : (worked_of call trying_first).session.memory ≡ meant
  pub memory_at_once : (worked_of call at_once).session.memory ≡ meant
  pub replies : last_said with (worked_of call trying_first).session ≡ said
  pub replies_at_once : last_said without (worked_of call at_once).session ≡ said
  pub numbered : entry_at (worked_of call trying_first).numbers 0 6 ≡ number
  pub numbered_at_once : entry_at (worked_of call at_once).numbers 0 6 ≡ number

-- the call with numbers
abbrev pub with_numbers : ℕ → ℕ → Call
with_numbers line dialect = numbering line dialect first_word earlier

-- each call of the bench; the plain ones are AM17xx sessions
pub record CallsWorked : Type 0 where
  pub by_bytes : CallWorked (plain Bytes Am17xx) 55 31 0
  pub by_halves : CallWorked (plain Halves Am17xx) 50 26 0
  pub dm648_by_bytes : CallWorked (on_line 0 Dm648) 55 31 0
  pub dm648_by_halves : CallWorked (on_line 1 Dm648) 50 26 0
  pub numbers_by_bytes : CallWorked (with_numbers 0 0) 55 31 1
  pub numbers_by_halves : CallWorked (with_numbers 1 0) 50 26 1
  pub dm648_numbers_by_bytes : CallWorked (with_numbers 0 1) 55 31 1
  pub dm648_numbers_by_halves : CallWorked (with_numbers 1 1) 50 26 1

-- a stray byte before the commands, and one after them so that all are whole halves; all else is met: each half is cut, and the attempt is not acknowledged
abbrev pub stray : Lent
stray =
    record {
      map = map;
      memory = before;
      before = start_bytes Halves ++ (words_bytes (enable_opcode ∷ []) ++ (0 ∷ []));
      after = 0 ∷ [];
    }

abbrev pub stray_room : List ℕ → List ℕ
stray_room words = replicate (least_room Halves (fed_around stray words)) 0

pub record StrayByte : Type 0 where
  pub retried : Retried Halves (state_there (plain Halves Am17xx) stray) (attempt_words abandoned) abandoned.pieces repeated
  pub feeds : Feeds (plain Halves Am17xx) map before (fed_around stray trying_first) (stray_room trying_first)
  pub feeds_at_once : Feeds (plain Halves Am17xx) map before (fed_around stray at_once) (stray_room at_once)
  pub trace : NoTraceInCall (plain Halves Am17xx) stray (attempt_words abandoned) (all_words repeated) → ⊥

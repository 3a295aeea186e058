-- A worked instance on either line, in either dialect, with numbers and without: two fields of one word and a load, tried, asked about and abandoned, then
-- sent again with other data, after one attempt and after two; and counterexamples on the line of bytes.
use Rattle.std.specs.Prelude.{ℕ, Bool, true, false, List, [], ◌∷◌, ◌++◌, ◌≢◌, ◌≡◌, replicate}
use Rattle.words.specs.rules.Choice.{pick}
use Rattle.windows.specs.rules.Map.{zero_window}
use Rattle.windows.specs.declared.Window.{Window}
use Rattle.opcodes.specs.declared.Dialect.{Dialect}
use Rattle.opcodes.specs.declared.Dialect.TheVariants.{Am17xx, Dm648}
use Rattle.opcodes.specs.declared.Event.TheVariants.{Nothing}
use Rattle.opcodes.specs.rules.Refusals.{Memory}
use Rattle.ledger.specs.claims.Attempts.{Level}
use Rattle.ledger.specs.rules.Totals.{standing, nothing as zero}
use Rattle.ledger.specs.declared.Standing.{Standing}
use Rattle.sent.specs.rules.Bus.{start_unit, units_of}
use Rattle.sent.specs.rules.Feeding.{State, checksum, totals, next, heard, fed}
use Rattle.machine_answers.specs.rules.Replies.{silence}
use Rattle.sent.specs.declared.Bus.{Bus}
use Rattle.sent.specs.declared.Bus.TheVariants.{Bytes}
use Rattle.sent_laws.specs.claims.Reached.{opened_to, Reached}
use Rattle.law_retries.specs.claims.Pieces.{Piece, load, setting, enable_opcode, request_opcode, words_of, all_words, Covers}
use Rattle.law_retries.specs.claims.Retries.{after, Awaits, Begins, LentWhole, AtStart, JustAfter, Attempt, attempt_words, NoTrace, Accepted}
use Rattle.law_retries.specs.claims.Retries.{attempts_words, attempts_pieces, NotAlone, Retried}

-- a window of eight bytes, and what they hold
abbrev pub windows : List Window
windows = record { first = 0x80000000; length = 8; rights = 7 } ∷ replicate 7 zero_window

abbrev pub before : List ℕ
before = 0x7F ∷ 0 ∷ 0 ∷ 0 ∷ 0xAA ∷ 0xAA ∷ 0xAA ∷ 0xAA ∷ []

-- a session on them after its opening and some units, all lent one memory; it numbers its commands, or does not
abbrev pub since_opening : Bool → Bus → Dialect → List ℕ → List ℕ → State
since_opening numbers bus dialect memory units = fed bus (record { session = (opened_to numbers bus dialect 1 windows).session; memory = memory }) units

-- opened and started
unfoldable pub started_to : Bool → Bus → Dialect → State
started_to numbers bus dialect = since_opening numbers bus dialect before (start_unit bus ∷ [])

-- with the checksum on
unfoldable pub start_to : Bool → Bus → Dialect → State
start_to numbers bus dialect = since_opening numbers bus dialect before (start_unit bus ∷ units_of bus enable_opcode)

-- those that number
abbrev pub started : Bus → Dialect → State
started bus dialect = started_to true bus dialect

abbrev pub start : Bus → Dialect → State
start bus dialect = start_to true bus dialect

-- a field of the first word, bits 8 to 11 of it, and three bytes from the second word on; the top byte of their word is a pad byte
abbrev pub sent : ℕ → ℕ → ℕ → ℕ → List Piece
sent field low high word = setting field 0x80000000 low 0 ∷ setting 0x000B0803 0x80000000 high 0 ∷ load 0x80000004 3 (word ∷ []) ∷ []

-- the attempt, with bits 4 to 6, and the same with the data that were meant
abbrev pub abandoned : Attempt
abandoned = record { pieces = sent 0x00060403 2 0xF 0xEE030201; asked = true }

abbrev pub repeated : List Piece
repeated = sent 0x00060403 1 2 0xEE332211

-- the totals after a load of three bytes
abbrev pub one_load : Dialect → Standing
one_load Am17xx = zero
one_load Dm648 = standing 1 3

-- the number of the command after three, where commands are numbered
abbrev pub fourth : Bool → ℕ
fourth numbers = pick numbers 4 0

-- what memory holds after the attempt, and what it is meant to hold
abbrev pub tried : List ℕ
tried = 0x2F ∷ 0x0F ∷ 0 ∷ 0 ∷ 1 ∷ 2 ∷ 3 ∷ 0xAA ∷ []

abbrev pub meant : List ℕ
meant = 0x1F ∷ 0x02 ∷ 0 ∷ 0 ∷ 0x11 ∷ 0x22 ∷ 0x33 ∷ 0xAA ∷ []

-- the premises are met, from the opening on; the attempt changes memory; after the repeat nothing is left of it, one load is counted, and the next command is
-- the fourth
pub record Worked (numbers : Bool) (bus : Bus) (dialect : Dialect) : Type 0 where
  pub just_after : JustAfter bus (start_to numbers bus dialect).session
  pub whole : LentWhole (start_to numbers bus dialect)
  pub retried : Retried bus (start_to numbers bus dialect) (attempt_words abandoned) abandoned.pieces repeated
  pub no_trace : NoTrace bus (start_to numbers bus dialect) (attempt_words abandoned) (all_words repeated)
  pub after_attempt : (after bus (start_to numbers bus dialect) (attempt_words abandoned)).memory ≡ tried
  pub after_repeat : (after bus (start_to numbers bus dialect) (attempt_words abandoned ++ all_words repeated)).memory ≡ meant
  pub never_tried : (after bus (start_to numbers bus dialect) (all_words repeated)).memory ≡ meant
  pub counted : (totals (after bus (start_to numbers bus dialect) (attempt_words abandoned ++ all_words repeated))).now ≡ one_load dialect
  pub numbered : (totals (after bus (start_to numbers bus dialect) (attempt_words abandoned ++ all_words repeated))).next ≡ fourth numbers

-- two attempts in a row: that one, and a second that sets the first field alone and is given up unasked
abbrev pub twice : List Attempt
twice = abandoned ∷ record { pieces = setting 0x00060403 0x80000000 4 0 ∷ []; asked = false } ∷ []

pub record WorkedTwice (bus : Bus) (dialect : Dialect) : Type 0 where
  pub retried : Retried bus (start bus dialect) (attempts_words twice) (attempts_pieces twice) repeated
  pub no_trace : NoTrace bus (start bus dialect) (attempts_words twice) (all_words repeated)
  pub after_attempts : (after bus (start bus dialect) (attempts_words twice)).memory ≡ 0x4F ∷ 0x0F ∷ 0 ∷ 0 ∷ 1 ∷ 2 ∷ 3 ∷ 0xAA ∷ []
  pub after_repeat : (after bus (start bus dialect) (attempts_words twice ++ all_words repeated)).memory ≡ meant
  pub counted : (totals (after bus (start bus dialect) (attempts_words twice ++ all_words repeated))).now ≡ one_load dialect
  pub numbered : (totals (after bus (start bus dialect) (attempts_words twice ++ all_words repeated))).next ≡ 4

-- what follows misses bit 6 of the attempt's first field, and all else is met: the bit stays
abbrev pub missing : List Piece
missing = sent 0x00050403 1 2 0xEE332211

pub record OneBitMissed : Type 0 where
  pub begins : Begins (start Bytes Am17xx)
  pub not_alone : NotAlone (start Bytes Am17xx) (attempt_words abandoned)
  pub accepted : Accepted Bytes (start Bytes Am17xx) (attempt_words abandoned) abandoned.pieces missing
  pub trace : NoTrace Bytes (start Bytes Am17xx) (attempt_words abandoned) (all_words missing) → ⊥

-- an attempt begins after a load, so that the checksum is not 0, and all else is met (in AM17xx with no numbers kept, where the totals are level): Start-Over
-- takes the load back from the checksum
unfoldable pub middle : State
middle = after Bytes (start_to false Bytes Am17xx) (words_of (load 0x80000004 3 (0xEE030201 ∷ [])))

abbrev pub nothing : Attempt
nothing = record { pieces = []; asked = false }

pub record InTheMiddle : Type 0 where
  pub awaits : Awaits middle
  pub not_rewound : checksum middle ≢ 0
  pub level : Level (totals middle)
  pub unnumbered : (totals middle).next ≡ 0
  pub not_alone : NotAlone middle (attempt_words nothing)
  pub accepted : Accepted Bytes middle (attempt_words nothing) [] repeated
  pub covered : Covers windows [] repeated
  pub trace : NoTrace Bytes middle (attempt_words nothing) (all_words repeated) → ⊥

-- a Start-Over alone directly after a Request, and all else is met: it takes the load before that Request back from the totals
unfoldable pub requested : State
requested = after Bytes (start_to false Bytes Dm648) (words_of (load 0x80000004 3 (0xEE030201 ∷ [])) ++ (request_opcode ∷ []))

pub record StartOverAlone : Type 0 where
  pub begins : Begins requested
  pub accepted : Accepted Bytes requested (attempt_words nothing) [] repeated
  pub covered : Covers windows [] repeated
  pub trace : NoTrace Bytes requested (attempt_words nothing) (all_words repeated) → ⊥

-- an attempt begins after a load with the checksum off, so that the totals are not the mark, no numbers are kept, and all else is met: Start-Over takes the
-- load back from them
unfoldable pub unmarked : State
unmarked = after Bytes (started_to false Bytes Dm648) (words_of (load 0x80000004 3 (0xEE030201 ∷ [])))

pub record NotLevel : Type 0 where
  pub awaits : Awaits unmarked
  pub rewound : checksum unmarked ≡ 0
  pub settled : (totals unmarked).asked ≡ false
  pub accepted : Accepted Bytes unmarked (attempt_words nothing) [] repeated
  pub covered : Covers windows [] repeated
  pub trace : NoTrace Bytes unmarked (attempt_words nothing) (all_words repeated) → ⊥

-- an attempt begins after a setting with the checksum off, in AM17xx, so that the totals are the mark and the next number alone is not, and all else is met:
-- Start-Over takes the setting's number back
unfoldable pub set_once : State
set_once = after Bytes (started_to true Bytes Am17xx) (words_of (setting 0x00060403 0x80000000 2 0))

pub record NumberNotLevel : Type 0 where
  pub awaits : Awaits set_once
  pub rewound : checksum set_once ≡ 0
  pub settled : (totals set_once).asked ≡ false
  pub marked : (totals set_once).now ≡ (totals set_once).mark
  pub accepted : Accepted Bytes set_once (attempt_words nothing) [] repeated
  pub covered : Covers windows [] repeated
  pub trace : NoTrace Bytes set_once (attempt_words nothing) (all_words repeated) → ⊥

-- nothing follows an attempt that begins at the start unit: that an opcode has been acknowledged is a trace
pub record NothingFollows : Type 0 where
  pub just_after : JustAfter Bytes (started Bytes Am17xx).session
  pub begins : Begins (started Bytes Am17xx)
  pub not_alone : NotAlone (started Bytes Am17xx) (attempt_words nothing)
  pub accepted : Accepted Bytes (started Bytes Am17xx) (attempt_words nothing) [] []
  pub covered : Covers windows [] []
  pub trace : NoTrace Bytes (started Bytes Am17xx) (attempt_words nothing) [] → ⊥

-- a byte of memory is missing, and all else is met: the start unit is refused with 2, not answered
abbrev pub shorter : List ℕ
shorter = 0x7F ∷ 0 ∷ 0 ∷ 0 ∷ 0xAA ∷ 0xAA ∷ 0xAA ∷ []

unfoldable pub short : State
short = since_opening true Bytes Am17xx shorter []

pub record MemoryTooShort : Type 0 where
  pub reached : Reached Bytes short.session
  pub at-start : AtStart short
  pub refused : heard Bytes short (start_unit Bytes) ≡ record { refusal = Memory; reply = silence; event = Nothing }

-- before the attempt any memory may be lent: here too short a one, which is refused, and then zeros; the session is that of the worked instance, and so is the
-- attempt on its memory
unfoldable pub elsewhere : State
elsewhere = fed Bytes (record { session = (next Bytes short (start_unit Bytes)).session; memory = replicate 8 0 })
    (start_unit Bytes ∷ units_of Bytes enable_opcode)

pub record LentOtherwise : Type 0 where
  pub just_after : JustAfter Bytes elsewhere.session
  pub same_session : elsewhere.session ≡ (start Bytes Am17xx).session
  pub other_memory : elsewhere.memory ≡ replicate 8 0

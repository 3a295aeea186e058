-- Demand 3, for either line: an abandoned attempt, once what follows writes every bit that it wrote, leaves no trace. Attempts and what follows are words,
-- sent by the units of the line.
use Rattle.std.specs.Prelude.{ℕ, ◌-◌, Bool, true, false, List, [], ◌∷◌, ◌++◌, map, ◌≢◌, ◌≡◌, length, get_or, replicate}
use Rattle.words.specs.rules.Choice.{pick}
use Rattle.windows.specs.rules.Window.{sum_of}
use Rattle.ledger.specs.claims.Attempts.{Level}
use Rattle.sent.specs.rules.Bus.{units_in_word, start_unit, units_of, all_units, pushed}
use Rattle.sent.specs.rules.Feeding.{State, Heard, checksum, totals, heard, fed, answers, NoneRefused}
use Rattle.words.specs.rules.Bytes.{AreBytes}
use Rattle.sent.specs.rules.Line.{start_answer, unit_step}
use Rattle.machine_answers.specs.rules.Replies.{silence, one_word, word_then, acknowledged}
use Rattle.sent.specs.declared.Bus.{Bus}
use Rattle.sent.specs.declared.Session.{Session}
use Rattle.sent_laws.specs.claims.Reached.{Reached}
use Rattle.machine_answers.specs.declared.Phase.TheVariants.{Opcode}
use Rattle.law_retries.specs.claims.Pieces.{Piece, all_words, AllSendable, Covers, enable_opcode, request_opcode, start_over_opcode}

-- the state after some words, on a line
abbrev pub after : Bus → State → List ℕ → State
after bus x words = fed bus x (all_units bus words)

-- a running session on its own memory that awaits an opcode, at a word's beginning
pub record Awaits (x : State) : Type 0 where
  pub running : x.session.core.ended ≡ false
  pub lent : length x.memory ≡ sum_of x.session.core.windows
  pub bytes : AreBytes x.memory
  pub started : x.session.line.started ≡ true
  pub fresh : (x.session.line.have ≡ 0) × (x.session.line.word ≡ 0)
  pub opcode : x.session.core.stage.phase ≡ Opcode

-- where an attempt may begin: there, with nothing that Start-Over would take back once a Request that stands is settled
pub record Begins (x : State) : Type 0 where
  pub awaits : Awaits x
  pub rewound : checksum x ≡ 0
  pub level : Level (totals x)

-- memory as it must be lent to a session: bytes, as many as its map has
pub record LentWhole (x : State) : Type 0 where
  pub lent : length x.memory ≡ sum_of x.session.core.windows
  pub bytes : AreBytes x.memory

-- what is seen of a session that awaits an opcode: it runs, has been started and has nothing gathered
pub record Idle (x : State) : Type 0 where
  pub running : x.session.core.ended ≡ false
  pub started : x.session.line.started ≡ true
  pub fresh : x.session.line.have ≡ 0
  pub opcode : x.session.core.stage.phase ≡ Opcode

-- and of one at a word's beginning before an opcode is acknowledged, started or not
pub record AtStart (x : State) : Type 0 where
  pub running : x.session.core.ended ≡ false
  pub before : x.session.core.begun ≡ false
  pub fresh : x.session.line.have ≡ 0

-- a unit that ends the word of an opcode where one is awaited: the opcode is taken
pub record Takes (bus : Bus) (s : Session) (memory : List ℕ) (u opcode : ℕ) : Type 0 where
  pub running : s.core.ended ≡ false
  pub lent : length memory ≡ sum_of s.core.windows
  pub awaited : s.core.stage.phase ≡ Opcode
  pub last : s.line.have ≡ units_in_word bus - 1
  pub whole : pushed bus s.line.word u ≡ opcode

-- just after the answered start unit, or after an Enable, a Request or a Start-Over that was taken as an opcode, whatever memory was lent up to there
pub data JustAfter (bus : Bus) : Session → Type 0 where
  after-start : {s : Session} (memory : List ℕ) (u : ℕ) → Reached bus s → (unit_step bus s memory u).answer.reply ≡ start_answer bus
      → JustAfter bus (unit_step bus s memory u).answer.session
  after_enable : {s : Session} (memory : List ℕ) (u : ℕ) → Reached bus s → Takes bus s memory u enable_opcode
      → JustAfter bus (unit_step bus s memory u).answer.session
  after-request : {s : Session} (memory : List ℕ) (u : ℕ) → Reached bus s → Takes bus s memory u request_opcode
      → JustAfter bus (unit_step bus s memory u).answer.session
  after_start_over : {s : Session} (memory : List ℕ) (u : ℕ) → Reached bus s → Takes bus s memory u start_over_opcode
      → JustAfter bus (unit_step bus s memory u).answer.session

-- was it a Request?
abbrev pub after_request : {bus : Bus} {s : Session} → JustAfter bus s → Bool
after_request (after-start memory u reached answered) = false
after_request (after_enable memory u reached takes) = false
after_request (after-request memory u reached takes) = true
after_request (after_start_over memory u reached takes) = false

-- where attempts begin, of every session that an opening and units of a line lead to, whatever memory was lent to each
pub record Beginnings (bus : Bus) : Type 0 where
  -- just after each of the four, on any memory of bytes as long as the map
  pub begins : (x : State) → JustAfter bus x.session → LentWhole x → Begins x
  -- each of the three opcodes, sent whole on its memory to a session that is seen to await one, is such a place
  pub sent_whole : (x : State) → Reached bus x.session → LentWhole x → Idle x
      → JustAfter bus (fed bus x (units_of bus enable_opcode)).session × JustAfter bus (fed bus x (units_of bus request_opcode)).session
      × JustAfter bus (fed bus x (units_of bus start_over_opcode)).session
  -- a Request stands unsettled just after it alone
  pub unsettled : (s : Session) (j : JustAfter bus s) → s.core.tally.totals.asked ≡ after_request j
  -- a session that is seen to await an opcode does so with nothing left of a word
  pub awaits : (x : State) → Reached bus x.session → LentWhole x → Idle x → Awaits x
  -- the start unit is answered before an opcode is acknowledged, where a word would begin; no other unit is answered so, and nowhere else
  pub answered : (x : State) → Reached bus x.session → length x.memory ≡ sum_of x.session.core.windows → AtStart x
      → (heard bus x (start_unit bus)).reply ≡ start_answer bus
  pub only_there : (x : State) (u : ℕ) → Reached bus x.session → (heard bus x u).reply ≡ start_answer bus
      → (u ≡ start_unit bus) × (length x.memory ≡ sum_of x.session.core.windows) × AtStart x

-- an abandoned attempt: loads, fills and settings, none or more; perhaps a Request; a Start-Over
pub record Attempt : Type 0 where
  pub pieces : List Piece
  pub asked : Bool

-- what it may hold before its Start-Over
abbrev pub asking_opcode : ℕ
asking_opcode = request_opcode

-- its words
abbrev pub attempt_words : Attempt → List ℕ
attempt_words a = all_words a.pieces ++ (pick a.asked (asking_opcode ∷ []) [] ++ (start_over_opcode ∷ []))

-- the words and the commands of any number of attempts in a row
unfoldable pub attempts_words : List Attempt → List ℕ
attempts_words [] = []
attempts_words (a ∷ rest) = attempt_words a ++ attempts_words rest

unfoldable pub attempts_pieces : List Attempt → List Piece
attempts_pieces [] = []
attempts_pieces (a ∷ rest) = a.pieces ++ attempts_pieces rest

-- a Request is answered by its acknowledgement and a number, at its last unit
abbrev pub Reports : Bus → State → ℕ → Type 0
Reports bus x number =
    map (λ (h : Heard). h.reply) (answers bus x (units_of bus request_opcode))
    ≡ replicate (units_in_word bus - 1) silence ++ (word_then (acknowledged request_opcode) (one_word number) ∷ [])

-- some words leave no trace once others follow: memory, checksum, totals, next number and the whole session are those of the others alone, and so is every
-- answer from there on, also to any further units; a Request that comes next reports that checksum
pub record NoTrace (bus : Bus) (x : State) (attempt following : List ℕ) : Type 0 where
  pub same_state : after bus x (attempt ++ following) ≡ after bus x following
  pub same_answers : (further : List ℕ)
      → answers bus (after bus x attempt) (all_units bus following ++ further) ≡ answers bus x (all_units bus following ++ further)
  pub same_report : Reports bus (after bus x (attempt ++ following)) (checksum (after bus x following))

-- an attempt and the commands directly after it that are really sent, none of their units refused
pub record Accepted (bus : Bus) (x : State) (attempt : List ℕ) (attempted following : List Piece) : Type 0 where
  pub sendable : AllSendable attempted × AllSendable following
  pub attempt_accepted : NoneRefused bus x (all_units bus attempt)
  pub following_accepted : NoneRefused bus (after bus x attempt) (all_units bus (all_words following))

-- directly after a Request a Start-Over alone is no attempt, in either dialect: it takes back what stands before that Request
abbrev pub NotAlone : State → List ℕ → Type 0
NotAlone x attempt = (totals x).asked ≡ true → get_or attempt 0 0 ≢ start_over_opcode

-- the attempt begins where one may, and what follows writes every bit that it wrote; of several in a row only the first may not be a Start-Over alone
pub record Retried (bus : Bus) (x : State) (attempt : List ℕ) (attempted following : List Piece) : Type 0 where
  pub begins : Begins x
  pub not_alone : NotAlone x attempt
  pub accepted : Accepted bus x attempt attempted following
  pub covered : Covers x.session.core.windows attempted following

-- demand 3, for either line; at least one command follows
abbrev pub RetriesLeaveNoTrace : Type 0
RetriesLeaveNoTrace =
    (bus : Bus) (x : State) (a : Attempt) (c : Piece) (cs : List Piece)
    → Retried bus x (attempt_words a) a.pieces (c ∷ cs) → NoTrace bus x (attempt_words a) (all_words (c ∷ cs))

-- the same of any number of abandoned attempts in a row
abbrev pub ManyRetriesLeaveNoTrace : Type 0
ManyRetriesLeaveNoTrace =
    (bus : Bus) (x : State) (attempts : List Attempt) (c : Piece) (cs : List Piece)
    → Retried bus x (attempts_words attempts) (attempts_pieces attempts) (c ∷ cs) → NoTrace bus x (attempts_words attempts) (all_words (c ∷ cs))

-- demand 3 from an opening on: of the session nothing is assumed but that the attempt comes just after one of the four, and of the memory nothing but that
-- it is the session's to write from there on
abbrev pub RetriesSinceOpening : Type 0
RetriesSinceOpening =
    (bus : Bus) (x : State) (a : Attempt) (c : Piece) (cs : List Piece)
    → JustAfter bus x.session → LentWhole x → NotAlone x (attempt_words a) → Accepted bus x (attempt_words a) a.pieces (c ∷ cs)
    → Covers x.session.core.windows a.pieces (c ∷ cs) → NoTrace bus x (attempt_words a) (all_words (c ∷ cs))

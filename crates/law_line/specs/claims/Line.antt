-- The units of a command of an image, sent on either line to a loader that is like a flash session, do what the flash call does: `both-modes` of law_modes,
-- lifted from words to units.
use Rattle.std.specs.Prelude.{ℕ, ◌+◌, ◌-◌, ◌*◌, ◌^◌, ◌≤◌, ◌<◌, true, false, ◌&&◌, List, [], ◌≢◌, ◌≡◌, eqb, length, Ok, Err}
use Rattle.words.specs.rules.Bytes.{bytes_at, word_at, AreBytes}
use Rattle.windows.specs.rules.Window.{sum_of}
use Rattle.opcodes.specs.rules.Answers.{code_of, kind_of, told}
use Rattle.opcodes.specs.rules.Opcodes.{looked_up, with_words}
use Rattle.opcodes.specs.declared.Command.{Command}
use Rattle.opcodes.specs.declared.Command.TheVariants.{Load, Request, SequentialRead}
use Rattle.opcodes.specs.declared.Dialect.{Dialect}
use Rattle.opcodes.specs.declared.Event.{Event}
use Rattle.opcodes.specs.declared.Event.TheVariants.{Nothing}
use Rattle.opcodes.specs.declared.Mode.TheVariants.{Flash, Sent}
use Rattle.opcodes.specs.declared.Refusal.{Refusal}
use Rattle.reading.specs.rules.Reading.{past_data, argument, read_at, unread}
use Rattle.commands.specs.rules.Commands.{sought_from}
use Rattle.flash_session.specs.rules.Opening.{good_length}
use Rattle.flash_session.specs.rules.Sessions as flash
use Rattle.flash.specs.rules.Step.{step_of}
use Rattle.flash_session.specs.declared.Session.{Session}
use Rattle.flash_runs.specs.rules.Run.{goes_on}
use Rattle.machine_answers.specs.rules.Replies.{one_word, word_then, acknowledged, farewell, sent_bytes}
use Rattle.machine_answers.specs.declared.Core.{Core}
use Rattle.machine_answers.specs.declared.Phase.TheVariants.{Opcode}
use Rattle.sent.specs.rules.Bus.{units_of, units_fed, all_units}
use Rattle.sent.specs.rules.Feeding.{State, fed, answers, replied, events_heard}
use Rattle.sent.specs.claims.Lift.{at_word}
use Rattle.sent.specs.declared.Bus.{Bus}
use Rattle.law_modes.specs.claims.Modes.{Alike, words_at}

-- a running flash session at a command, lent its memory and its image of bytes, its checksum a word; and a loader's core like it, which has begun and awaits an
-- opcode
pub record Standing (s : Session) (m image : List ℕ) (k : Core) : Type 0 where
  pub alike : Alike s k
  pub running : s.ended ≡ false
  pub lent : length m ≡ sum_of s.windows
  pub sound : (good_length (length image) && eqb (length image) s.length) ≡ true
  pub bytes : AreBytes image
  pub awaits : k.stage.phase ≡ Opcode
  pub begun : k.begun ≡ true
  pub small : s.checksum < 2 ^ 32

-- units lead from one state to another, with these bytes replied and these events told
pub record Carries (bus : Bus) (x : State) (units : List ℕ) (y : State) (bytes : List ℕ) (events : List Event) : Type 0 where
  pub leads : fed bus x units ≡ y
  pub replies : replied (answers bus x units) ≡ bytes
  pub tells : events_heard (answers bus x units) ≡ events

-- where the loader stands once a call of flash is done: at the next command where the call goes on, and ended where it does not; the memory is the call's
pub record After (o : flash.CallOutcome) (image : List ℕ) (y : State) : Type 0 where
  pub goes : goes_on o.answer ≡ true → (k : Core) × (y ≡ at_word k o.memory) × Standing o.answer.session o.memory image k
  pub stops : goes_on o.answer ≡ false → y.session.core.ended ≡ true
  pub memory : y.memory ≡ o.memory

-- a call that does not go on, and tells and writes nothing
pub record Stopped (m : List ℕ) (o : flash.CallOutcome) : Type 0 where
  pub stops : goes_on o.answer ≡ false
  pub no_event : o.answer.event ≡ Nothing
  pub memory : o.memory ≡ m

-- a call that goes on at an offset with so many retries counted, and tells and writes nothing; a core that stands with the session after it
pub record GoesOnAt (m image : List ℕ) (o : flash.CallOutcome) (offset retries : ℕ) (k : Core) : Type 0 where
  pub goes : goes_on o.answer ≡ true
  pub no_event : o.answer.event ≡ Nothing
  pub memory : o.memory ≡ m
  pub offset_is : o.answer.session.offset ≡ offset
  pub retries_are : o.answer.session.retries ≡ retries
  pub standing : Standing o.answer.session m image k

module _ (bus : Bus) (s : Session) (m image : List ℕ) (k : Core) where
  -- the opcode at the session's offset, and the call there
  abbrev pub opcode_here : ℕ
  opcode_here = word_at image s.offset

  abbrev pub call_here : flash.CallOutcome
  call_here = step_of s m image

  -- the bytes after the opcode up to the command's end, its data among them
  abbrev pub rest_here : Command → ℕ → List ℕ
  rest_here command words = bytes_at image (s.offset + 4) (past_data command words image s.offset - (s.offset + 4))

  -- (1) a command and its words: the opcode is acknowledged, and the rest does what the call does. A range that is refused at a load's size word leaves the
  -- loader ended, which absorbs the data
  pub record CommandSent (command : Command) (words : ℕ) : Type 0 where
    pub between : State
    pub opcode : Carries bus (at_word k m) (units_of bus opcode_here) between (sent_bytes (one_word (acknowledged opcode_here))) []
    pub end : State
    pub leads : fed bus between (units_fed bus (rest_here command words)) ≡ end
    pub after : After call_here image end
    pub tells : events_heard (answers bus between (units_fed bus (rest_here command words))) ≡ told call_here.answer.event
    -- replies: nothing where the call goes on or is refused, the farewell where it enters
    pub silent : goes_on call_here.answer ≡ true → replied (answers bus between (units_fed bus (rest_here command words))) ≡ []
    pub refused : code_of call_here.answer.refusal ≢ 0 → replied (answers bus between (units_fed bus (rest_here command words))) ≡ []
    pub enters : kind_of call_here.answer.event ≡ 3
        → replied (answers bus between (units_fed bus (rest_here command words))) ≡ sent_bytes (farewell s.dialect)
    -- where the call goes on, it does so past the command and its data, its retries as before
    pub offset : goes_on call_here.answer ≡ true → call_here.answer.session.offset ≡ past_data command words image s.offset
    pub retries : goes_on call_here.answer ≡ true → call_here.answer.session.retries ≡ s.retries

  -- (2) a Request: its opcode alone is sent, and answered with the checksum; the loader goes on
  pub record RequestSent : Type 0 where
    pub asked : Core
    pub running : asked.ended ≡ false
    pub awaits : asked.stage.phase ≡ Opcode
    pub begun : asked.begun ≡ true
    pub opcode : Carries bus (at_word k m) (units_of bus opcode_here) (at_word asked m)
        (sent_bytes (word_then (acknowledged opcode_here) (one_word s.checksum))) []
    -- a match: the call goes on past its two words, and the loader is there already
    pub match : argument image s.offset 0 ≡ s.checksum → GoesOnAt m image call_here (s.offset + 12) s.retries asked
    -- a mismatch with no retry left, or one that leads nowhere: the call is refused
    pub spent : argument image s.offset 0 ≢ s.checksum → s.limit ≤ s.retries → Stopped m call_here
    pub astray : argument image s.offset 0 ≢ s.checksum → (q : Refusal) → sought_from s.offset (argument image s.offset 1) ≡ Err q
        → Stopped m call_here
    -- else the call goes back, one retry more, and Start-Over takes the loader there
    pub back : argument image s.offset 0 ≢ s.checksum → s.retries < s.limit
        → (offset : ℕ) → sought_from s.offset (argument image s.offset 1) ≡ Ok offset
        → (over : Core)
        × Carries bus (at_word asked m) (units_of bus 0x58535908) (at_word over m) (sent_bytes (one_word (acknowledged 0x58535908))) []
        × GoesOnAt m image call_here offset (s.retries + 1) over

  -- (3) Sequential Read, which has no words: nothing is sent, and the loader is there already
  pub record PassedOver (words : ℕ) : Type 0 where
    pub no_words : words ≡ 0
    pub goes : GoesOnAt m image call_here (s.offset + 4) s.retries k

-- a call keeps what no command changes
pub record Keeps (s t : Session) : Type 0 where
  pub windows : t.windows ≡ s.windows
  pub length : t.length ≡ s.length
  pub limit : t.limit ≡ s.limit
  pub dialect : t.dialect ≡ s.dialect

-- what stands at the session's offset decides which of these holds
pub record OnTheLine : Type 0 where
  pub commands : (bus : Bus) (s : Session) (m image : List ℕ) (k : Core) → Standing s m image k → (command : Command) (words : ℕ)
      → read_at image s.offset s.dialect ≡ Ok (with_words command words) → command ≢ Request → command ≢ SequentialRead
      → past_data command words image s.offset ≤ length image → CommandSent bus s m image k command words
  pub requests : (bus : Bus) (s : Session) (m image : List ℕ) (k : Core) → Standing s m image k → (words : ℕ)
      → read_at image s.offset s.dialect ≡ Ok (with_words Request words) → RequestSent bus s m image k
  pub passed_over : (bus : Bus) (s : Session) (m image : List ℕ) (k : Core) → Standing s m image k → (words : ℕ)
      → read_at image s.offset s.dialect ≡ Ok (with_words SequentialRead words) → PassedOver bus s m image k words
  -- (4) nothing to send: the call is refused
  pub not_read : (s : Session) (m image : List ℕ) (k : Core) → Standing s m image k → (q : Refusal) (fetched : ℕ)
      → read_at image s.offset s.dialect ≡ Err (unread q fetched) → Stopped m (step_of s m image)
  pub data_missing : (s : Session) (m image : List ℕ) (k : Core) → Standing s m image k → (words : ℕ)
      → read_at image s.offset s.dialect ≡ Ok (with_words Load words) → length image < past_data Load words image s.offset
      → Stopped m (step_of s m image)
  -- (5) (6) whatever stands there
  pub keeps : (s : Session) (m image : List ℕ) → Keeps s (step_of s m image).answer.session
  pub checksum : (s : Session) (m image : List ℕ) → s.checksum < 2 ^ 32 → (step_of s m image).answer.session.checksum < 2 ^ 32

-- of images and rows
pub record Stretches : Type 0 where
  -- a stretch of an image is the units of its words
  pub units : (bus : Bus) (image : List ℕ) (at n : ℕ) → AreBytes image → at + 4 * n ≤ length image
      → units_fed bus (bytes_at image at (4 * n)) ≡ all_units bus (words_at image at n)
  pub word : (image : List ℕ) (at : ℕ) → AreBytes image → word_at image at < 2 ^ 32
  -- a row of flash mode is one of sent mode too
  pub row : (dialect : Dialect) (opcode : ℕ) (command : Command) (words : ℕ) → command ≢ Request → command ≢ SequentialRead
      → looked_up opcode Flash dialect ≡ Ok (with_words command words) → looked_up opcode Sent dialect ≡ Ok (with_words command words)

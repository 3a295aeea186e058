-- Both modes do the same with the same words: one call on a command in an image, and the words of that command sent.
use Rattle.std.specs.Prelude.{ℕ, zero, suc, ◌+◌, ◌*◌, ◌≤◌, ◌<◌, true, false, ◌&&◌, List, [], ◌∷◌, ◌++◌, ◌≡◌, eqb, length, get_or, Ok, Err}
use Rattle.words.specs.rules.Bytes.{word_at}
use Rattle.windows.specs.rules.Window.{sum_of}
use Rattle.opcodes.specs.rules.Opcodes.{looked_up, with_words}
use Rattle.opcodes.specs.declared.Command.{Command}
use Rattle.opcodes.specs.declared.Command.TheVariants.{Load, Fill, BootTable, Enable, Disable, Request, JumpAndClose}
use Rattle.opcodes.specs.declared.Dialect.{Dialect}
use Rattle.opcodes.specs.declared.Dialect.TheVariants.{Am17xx, Dm648}
use Rattle.opcodes.specs.declared.Mode.TheVariants.{Flash, Sent}
use Rattle.opcodes.specs.declared.Refusal.{Refusal}
use Rattle.ledger.specs.rules.Totals.{is_spent, settled}
use Rattle.reading.specs.rules.Reading.{past_words, argument, data_words}
use Rattle.commands.specs.rules.Commands.{load_judged, Judged}
use Rattle.flash_session.specs.rules.Opening.{good_length}
use Rattle.flash_session.specs.rules.Sessions as flash
use Rattle.flash_commands.specs.rules.Commands.{overflowing, requested}
use Rattle.flash.specs.rules.Step.{step_of}
use Rattle.flash_session.specs.declared.Session.{Session}
use Rattle.machine_answers.specs.rules.Answers as machine
use Rattle.machine_answers.specs.rules.Answers.{said, ◌leaving◌, with_checksum, await}
use Rattle.machine.specs.rules.Machine.{begun, word_step}
use Rattle.machine_answers.specs.rules.Replies.{one_word, word_then, acknowledged}
use Rattle.machine.specs.claims.Words.{after_words}
use Rattle.machine_answers.specs.declared.Core.{Core}
use Rattle.machine_answers.specs.declared.Phase.TheVariants.{Opcode}

-- a flash session and a sent one agree in all that both have: the windows, the dialect, the end, the switch, the checksum, and the totals once a Request that
-- stands is settled
pub record Alike (s : Session) (k : Core) : Type 0 where
  pub windows : s.windows ≡ k.windows
  pub dialect : s.dialect ≡ k.dialect
  pub ended : s.ended ≡ k.ended
  pub on : s.on ≡ k.on
  pub checksum : s.checksum ≡ k.tally.checksum
  pub totals : s.totals ≡ settled k.tally.totals

-- a call, and the last of some words sent, came to the same
pub record Same (called : flash.CallOutcome) (taken : machine.WordOutcome) : Type 0 where
  pub refusal : called.answer.refusal ≡ taken.answer.refusal
  pub event : called.answer.event ≡ taken.answer.event
  pub memory : called.memory ≡ taken.memory
  pub alike : Alike called.answer.session taken.answer.core

-- n words of an image from an offset on
unfoldable pub words_at : List ℕ → ℕ → ℕ → List ℕ
words_at image at zero = []
words_at image at (suc n) = word_at image at ∷ words_at image (at + 4) n

-- a running flash session, lent its memory and an image of bytes that has an opcode at its offset, and a sent one like it that awaits an opcode
pub record Before (s : Session) (m image : List ℕ) (k : Core) : Type 0 where
  pub alike : Alike s k
  pub running : s.ended ≡ false
  pub lent : length m ≡ sum_of s.windows
  pub sound : (good_length (length image) && eqb (length image) s.length) ≡ true
  pub bytes : (i : ℕ) → get_or image i 0 < 256
  pub present : s.offset + 4 ≤ length image
  pub awaits : k.stage.phase ≡ Opcode

module _ (s : Session) (m image : List ℕ) (k : Core) where
  -- the opcode, and so many words after it, sent
  abbrev pub opcode_at : ℕ
  opcode_at = word_at image s.offset

  abbrev pub sent_with : List ℕ → machine.WordOutcome
  sent_with words = after_words (word_step k m opcode_at) words

  -- Load: refused at its size word; or granted, with its data
  abbrev pub load_size : ℕ
  load_size = argument image s.offset 1

  abbrev pub load_is : Judged
  load_is = overflowing s load_size (load_judged s.windows (argument image s.offset 0) load_size)

  pub record SameLoad : Type 0 where
    pub refused : (q : Refusal) → load_is ≡ Err q → Same (step_of s m image) (sent_with (words_at image (s.offset + 4) 2))
    -- or without a number, its data there
    pub spent : (place : ℕ) → load_is ≡ Ok place → is_spent s.totals ≡ true → past_words s.offset 2 + 4 * data_words load_size ≤ length image
        → Same (step_of s m image) (sent_with (words_at image (s.offset + 4) 2))
    pub granted : (place : ℕ) → load_is ≡ Ok place → is_spent s.totals ≡ false → past_words s.offset 2 + 4 * data_words load_size ≤ length image
        → Same (step_of s m image) (sent_with (words_at image (s.offset + 4) 2 ++ words_at image (past_words s.offset 2) (data_words load_size)))

  -- Request differs. Sent, it has no argument: the checksum is said and becomes 0, the Request stands unsettled, and the session goes on
  abbrev pub request_sent : machine.WordOutcome
  request_sent =
      said (word_then (acknowledged opcode_at) (one_word k.tally.checksum)) (await (begun Request k) (with_checksum (begun Request k) 0) Opcode) leaving m

  -- in flash mode it has two, the expected value and the seek, and so three words are fetched. A match comes to the same; a mismatch goes back or ends the
  -- session, as `requested` says, and differs in nothing else: memory, event, switch, and the checksum, which is 0 either way
  pub record RequestByMode : Type 0 where
    pub sent : word_step k m opcode_at ≡ request_sent
    pub answer : (step_of s m image).answer ≡ requested (flash.fetching 3 s) (past_words s.offset 2) (argument image s.offset 0)
        (argument image s.offset 1)
    pub match : argument image s.offset 0 ≡ s.checksum → Same (step_of s m image) request_sent
    pub memory : (step_of s m image).memory ≡ request_sent.memory
    pub event : (step_of s m image).answer.event ≡ request_sent.answer.event
    pub on : (step_of s m image).answer.session.on ≡ request_sent.answer.core.on
    pub checksum : (step_of s m image).answer.session.checksum ≡ request_sent.answer.core.tally.checksum

-- an opcode's rows in both modes, in a dialect
pub record RowsOf (dialect : Dialect) (opcode : ℕ) (command : Command) (flash sent : ℕ) : Type 0 where
  pub in-flash : looked_up opcode Flash dialect ≡ Ok (with_words command flash)
  pub in_sent : looked_up opcode Sent dialect ≡ Ok (with_words command sent)

-- both modes, at any command that both have
pub record BothModes : Type 0 where
  pub commands : (s : Session) (m image : List ℕ) (k : Core) → Before s m image k
      → (command : Command) (words : ℕ) → (command ≡ Load → ⊥) → RowsOf k.dialect (opcode_at s m image k) command words words
      → past_words s.offset words ≤ length image
      → Same (step_of s m image) (sent_with s m image k (words_at image (s.offset + 4) words))
  pub load : (s : Session) (m image : List ℕ) (k : Core) → Before s m image k
      → RowsOf k.dialect (opcode_at s m image k) Load 2 2 → past_words s.offset 2 ≤ length image → SameLoad s m image k
  pub request : (s : Session) (m image : List ℕ) (k : Core) → Before s m image k
      → RowsOf k.dialect (opcode_at s m image k) Request 2 0 → past_words s.offset 2 ≤ length image → RequestByMode s m image k

-- which these are
pub record SharedRows : Type 0 where
  pub load : (dialect : Dialect) → RowsOf dialect 0x58535901 Load 2 2
  pub fill : (dialect : Dialect) → RowsOf dialect 0x5853590A Fill 4 4
  pub boot-table : (dialect : Dialect) → RowsOf dialect 0x58535907 BootTable 4 4
  pub enable : (dialect : Dialect) → RowsOf dialect 0x58535903 Enable 0 0
  pub disable : (dialect : Dialect) → RowsOf dialect 0x58535904 Disable 0 0
  pub request : (dialect : Dialect) → RowsOf dialect 0x58535902 Request 2 0
  pub jump_and_close : RowsOf Am17xx 0x58535906 JumpAndClose 1 1
  pub with-totals : RowsOf Dm648 0x58535906 JumpAndClose 3 3

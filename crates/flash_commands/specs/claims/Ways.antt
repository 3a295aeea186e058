-- The ways of a call: the offset goes forward past the words of the command, back for a retry, or is kept.
use Rattle.opcodes.specs.declared.Refusal.{Refusal}
use Rattle.std.specs.Prelude.{ℕ, ◌+◌, ◌*◌, ◌%◌, ◌≤◌, ◌<◌, min, Bool, true, false, ◌||◌, List, ◌≢◌, ◌≡◌, eqb, length, Result, Ok, Err}
use Rattle.words.specs.rules.Bytes.{word_at}
use Rattle.words.specs.rules.Choice.{pick}
use Rattle.opcodes.specs.rules.Answers.{code_of, kind_of, accepted}
use Rattle.opcodes.specs.rules.Opcodes.{looked_up, with_words}
use Rattle.opcodes.specs.declared.Command.{Command}
use Rattle.opcodes.specs.declared.Command.TheVariants.{Load, Fill, BootTable, Enable, Disable, Request, StartOver, JumpAndClose, Ping, SequentialRead}
use Rattle.opcodes.specs.declared.Event.TheVariants.{Nothing}
use Rattle.opcodes.specs.declared.Mode.TheVariants.{Flash}
use Rattle.opcodes.specs.rules.Refusals.{Verdict, None}
use Rattle.opcodes.specs.declared.Known.{Known}
use Rattle.ledger.specs.claims.Booked.{Room}
use Rattle.ledger.specs.rules.Totals.{standing, differs, in_flash}
use Rattle.ledger.specs.declared.Happening.{Happening}
use Rattle.ledger.specs.declared.Happening.TheVariants as happened
use Rattle.ledger.specs.declared.Standing.{Standing}
use Rattle.flash_session.specs.rules.Sessions.{counted_on}
use Rattle.reading.specs.rules.Reading.{words_from, argument, data_words, data_size}
use Rattle.flash_session.specs.declared.Called.{Called}
use Rattle.flash_session.specs.declared.Session.{Session}

-- the data words of the command at the session's offset
abbrev pub data_words_of : Command → Session → List ℕ → ℕ
data_words_of command s image = data_words (data_size command image s.offset)

-- the argument words of what the table finds
abbrev pub argument_words : Result Known Refusal → ℕ
argument_words (Err q) = 0
argument_words (Ok known) = known.words

-- the totals that a close names: sections, then bytes
abbrev pub named : Session → List ℕ → Standing
named s image = standing (argument image s.offset 1) (argument image s.offset 2)

-- what an accepted command that goes forward is to the totals, a load or a fill being of so many bytes
abbrev pub happening : Command → ℕ → Happening
happening Load size = happened.Section size
happening Fill size = happened.Section size
happening BootTable size = happened.Setting
happening Enable size = happened.Enable
happening Disable size = happened.Other
happening Request size = happened.Passed
happening StartOver size = happened.Other
happening JumpAndClose size = happened.Other
happening Ping size = happened.Other
happening SequentialRead size = happened.Other

-- the opcode and the argument words of the command at the session's offset that an image has
unfoldable pub met : Session → List ℕ → ℕ
met s image =
    min (1 + argument_words (looked_up (word_at image s.offset) Flash s.dialect)) (words_from image s.offset)

-- the words of the command at the session's offset, all of them in an image of the opening's length: the opcode, the arguments of its row in the table, its
-- data
pub record Reads (s : Session) (image : List ℕ) (command : Command) (words : ℕ) : Type 0 where
  pub arguments : ℕ
  pub row : looked_up (word_at image s.offset) Flash s.dialect ≡ Ok (with_words command arguments)
  pub count : words ≡ 1 + arguments + data_words_of command s image
  pub present : s.offset + 4 * words ≤ length image
  pub lent : length image ≡ s.length

-- accepted: forward by exactly these words, all of them fetched, the retries kept, the totals told by what the command is to them, none past the largest and no
-- number spent; the session ends exactly where it enters, which Jump & Close alone does, having named the totals
pub record Forward (s : Session) (image : List ℕ) (a : Called) : Type 0 where
  pub command : Command
  pub words : ℕ
  pub reads : Reads s image command words
  pub accepted : a.refusal ≡ None
  pub offset : a.session.offset ≡ s.offset + 4 * words
  pub fetched : a.session.fetched ≡ counted_on s.fetched words
  pub retries : a.session.retries ≡ s.retries
  pub totals : a.session.totals ≡ in_flash s.dialect s.totals (happening command (argument image s.offset 1))
  pub fits : Room s.dialect s.totals (happening command (argument image s.offset 1))
  pub ended : a.session.ended ≡ eqb (kind_of a.event) 3
  pub entering : kind_of a.event ≡ 3 → command ≡ JumpAndClose
  pub naming : kind_of a.event ≡ 3 → differs s.dialect s.totals (named s image) ≡ false

-- a Request with retries left: back to a multiple of 4 that is at least 4 and below its own offset, its words fetched, one retry
-- counted and the totals put back
pub record Back (s : Session) (image : List ℕ) (a : Called) : Type 0 where
  pub words : ℕ
  pub reads : Reads s image Request words
  pub accepted : a.refusal ≡ None
  pub aligned : a.session.offset % 4 ≡ 0
  pub low : 4 ≤ a.session.offset
  pub below : a.session.offset < s.offset
  pub left : s.retries < s.limit
  pub fetched : a.session.fetched ≡ counted_on s.fetched words
  pub counted : a.session.retries ≡ s.retries + 1
  pub totals : a.session.totals ≡ in_flash s.dialect s.totals happened.Retried
  pub no_event : a.event ≡ Nothing
  pub running : a.session.ended ≡ false

-- 2, 3 and 14 spare the session
abbrev pub spares : Verdict → Bool
spares q = eqb (code_of q) 2 || eqb (code_of q) 3 || eqb (code_of q) 14

-- refused: the offset, the retries and the totals are kept; a session that is spared is as it was, any other has fetched the words that are there, and is ended
pub record Kept (s : Session) (image : List ℕ) (a : Called) : Type 0 where
  pub refused : code_of a.refusal ≢ 0
  pub offset : a.session.offset ≡ s.offset
  pub retries : a.session.retries ≡ s.retries
  pub totals : a.session.totals ≡ s.totals
  pub no_event : a.event ≡ Nothing
  pub spared : spares a.refusal ≡ true → a.session ≡ s
  pub fetched : spares a.refusal ≡ false → a.session.fetched ≡ counted_on s.fetched (met s image)
  pub ended : spares a.refusal ≡ false → a.session.ended ≡ true

-- the ways of a call
pub data Way (s : Session) (image : List ℕ) (a : Called) : Type 0 where
  forward : Forward s image a → Way s image a
  back : Back s image a → Way s image a
  kept : Kept s image a → Way s image a

-- a call goes one of them; windows, length, limit and dialect never change, 14 is exactly for an ended session, and the offset is reported, 0 where the session
-- is spared
pub record Call (s : Session) (image : List ℕ) (a : Called) : Type 0 where
  pub way : Way s image a
  pub same_windows : a.session.windows ≡ s.windows
  pub same_length : a.session.length ≡ s.length
  pub same_limit : a.session.limit ≡ s.limit
  pub same_dialect : a.session.dialect ≡ s.dialect
  pub over : eqb (code_of a.refusal) 14 ≡ s.ended
  pub at : a.at ≡ pick (spares a.refusal) 0 s.offset

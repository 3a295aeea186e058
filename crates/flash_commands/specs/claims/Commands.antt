-- Each command but Load goes one of the ways of a call, once its opcode and its argument words are fetched.
use Rattle.std.specs.Prelude.{ℕ, ◌+◌, ◌≤◌, false, List, ◌≡◌, length, Ok}
use Rattle.words.specs.rules.Bytes.{word_at}
use Rattle.opcodes.specs.rules.Opcodes.{looked_up, with_words}
use Rattle.opcodes.specs.declared.Command.{Command}
use Rattle.opcodes.specs.declared.Command.TheVariants.{Fill, BootTable, Enable, Disable, Request, JumpAndClose, SequentialRead}
use Rattle.opcodes.specs.declared.Event.TheVariants.{Nothing}
use Rattle.opcodes.specs.declared.Mode.TheVariants.{Flash}
use Rattle.ledger.specs.declared.Happening.TheVariants as happened
use Rattle.reading.specs.rules.Reading.{past_words, argument}
use Rattle.commands.specs.rules.Wrote.{none_wrote}
use Rattle.flash_session.specs.rules.Sessions.{go_to, switch_on, switch_off, fetching, accepted_as}
use Rattle.flash_session.specs.declared.Session.{Session}
use Rattle.flash_commands.specs.rules.Commands.{fill_of, setting_of, requested, closed}
use Rattle.flash_commands.specs.claims.Ways.{Call}

-- a command stands at the offset of a running session, its argument words in an image of the opening's length
pub record Ready (s : Session) (image : List ℕ) (command : Command) (arguments : ℕ) : Type 0 where
  pub running : s.ended ≡ false
  pub lent : length image ≡ s.length
  pub row : looked_up (word_at image s.offset) Flash s.dialect ≡ Ok (with_words command arguments)
  pub there : past_words s.offset arguments ≤ length image

-- the session with its opcode and n argument words fetched, and the offset past them
abbrev pub gone : Session → ℕ → Session
gone s n = fetching (1 + n) s

-- a fill's size and the totals that a close names are the image's words, any other word is whatever it is
pub record EachCommand (s : Session) (m image : List ℕ) (n : ℕ) : Type 0 where
  pub fill : Ready s image Fill n → (address kind pattern : ℕ)
      → Call s image (fill_of (gone s n) m (past_words s.offset n) address (argument image s.offset 1) kind pattern).answer
  pub setting : Ready s image BootTable n → (word address value delay : ℕ)
      → Call s image (setting_of (gone s n) m (past_words s.offset n) word address value delay).answer
  pub enable : Ready s image Enable n
      → Call s image (accepted_as (gone s n) happened.Enable none_wrote Nothing (switch_on (gone s n) (past_words s.offset n)))
  pub disable : Ready s image Disable n
      → Call s image (accepted_as (gone s n) happened.Other none_wrote Nothing (switch_off (gone s n) (past_words s.offset n)))
  pub request : Ready s image Request n → (expected seek : ℕ) → Call s image (requested (gone s n) (past_words s.offset n) expected seek)
  pub close : Ready s image JumpAndClose n → (address : ℕ)
      → Call s image (closed (gone s n) (past_words s.offset n) address (argument image s.offset 1) (argument image s.offset 2))
  pub pass_over : Ready s image SequentialRead n
      → Call s image (accepted_as (gone s n) happened.Other none_wrote Nothing (go_to (gone s n) s.checksum (past_words s.offset n)))

-- the law
abbrev pub EveryCommand : Type 0
EveryCommand = (s : Session) (m image : List ℕ) (n : ℕ) → EachCommand s m image n

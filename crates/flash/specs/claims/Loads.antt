-- A load goes one of the ways of a call, once its opcode and its argument words are fetched: its data are fetched where it is accepted, and not where it is
-- refused.
use Rattle.std.specs.Prelude.{ℕ, List}
use Rattle.opcodes.specs.declared.Command.TheVariants.{Load}
use Rattle.reading.specs.rules.Reading.{past_words, argument}
use Rattle.flash_commands.specs.claims.Commands.{Ready, gone}
use Rattle.flash_commands.specs.claims.Ways.{Call}
use Rattle.flash_session.specs.declared.Session.{Session}
use Rattle.flash.specs.rules.Step.{load_of}

-- the law
abbrev pub EveryLoad : Type 0
EveryLoad = (s : Session) (m image : List ℕ) (n : ℕ) → Ready s image Load n
    → Call s image (load_of (gone s n) m image (past_words s.offset n) (argument image s.offset 0) (argument image s.offset 1)).answer

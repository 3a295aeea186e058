-- The opcode table of document 01, with the dialects of request 5 of 02, and what it says of an opcode in a mode and a dialect.
use Rattle.std.specs.Prelude.{ℕ, Bool, true, false, ◌&&◌, List, [], ◌∷◌, eqb, Result, Ok, Err}
use Rattle.words.specs.rules.Choice.{pick}
use Rattle.opcodes.specs.declared.Command.{Command}
use Rattle.opcodes.specs.declared.Command.TheVariants.{Load, Fill, BootTable, Enable, Disable, Request, StartOver, JumpAndClose, Ping, SequentialRead}
use Rattle.opcodes.specs.declared.Dialect.{Dialect}
use Rattle.opcodes.specs.declared.Dialect.TheVariants.{Am17xx, Dm648}
use Rattle.opcodes.specs.declared.Mode.{Mode}
use Rattle.opcodes.specs.declared.Mode.TheVariants.{Sent, Flash}
use Rattle.opcodes.specs.declared.Row.{Row}
use Rattle.opcodes.specs.declared.Known.{Known}
use Rattle.opcodes.specs.declared.Refusal.{Refusal}
use Rattle.opcodes.specs.declared.Refusal.TheVariants as refusal

-- a row by the modes and the dialects that allow it
abbrev pub row_of : Bool → Bool → Bool → Bool → ℕ → Command → ℕ → Row
row_of sent flash am17xx dm648 opcode command words =
    record { opcode = opcode; command = command; words = words; sent = sent; flash = flash; am17xx = am17xx; dm648 = dm648 }

-- a row that both modes allow, only flash mode, only sent mode, in both dialects
abbrev pub both : ℕ → Command → ℕ → Row
both = row_of true true true true

abbrev pub only_flash : ℕ → Command → ℕ → Row
only_flash = row_of false true true true

abbrev pub only_sent : ℕ → Command → ℕ → Row
only_sent = row_of true false true true

-- a row of one dialect, in both modes
abbrev pub only_am17xx : ℕ → Command → ℕ → Row
only_am17xx = row_of true true true false

abbrev pub only_dm648 : ℕ → Command → ℕ → Row
only_dm648 = row_of true true false true

-- the table: opcode, command, argument words
unfoldable pub rows : List Row
rows =
    both 0x58535901 Load 2
    ∷ both 0x5853590A Fill 4
    ∷ both 0x58535907 BootTable 4
    ∷ both 0x58535903 Enable 0
    ∷ both 0x58535904 Disable 0
    ∷ only_flash 0x58535902 Request 2
    ∷ only_sent 0x58535902 Request 0
    ∷ only_sent 0x58535908 StartOver 0
    ∷ only_am17xx 0x58535906 JumpAndClose 1
    ∷ only_dm648 0x58535906 JumpAndClose 3
    ∷ only_sent 0x5853590B Ping 1
    ∷ only_flash 0x58535963 SequentialRead 0
    ∷ []

-- the opcode that no mode takes any more: Jump
abbrev pub retired : ℕ
retired = 0x58535905

-- does a mode allow a row?
abbrev pub in_mode : Row → Mode → Bool
in_mode row Sent = row.sent
in_mode row Flash = row.flash

-- does a dialect allow a row?
abbrev pub in_dialect : Row → Dialect → Bool
in_dialect row Am17xx = row.am17xx
in_dialect row Dm648 = row.dm648

abbrev pub allowed : Row → Mode → Dialect → Bool
allowed row mode dialect = in_mode row mode && in_dialect row dialect

-- is it the row of an opcode in a mode and a dialect?
unfoldable pub row_serves : Row → ℕ → Mode → Dialect → Bool
row_serves row opcode mode dialect = eqb row.opcode opcode && allowed row mode dialect

-- a command with so many argument words
abbrev pub with_words : Command → ℕ → Known
with_words command words = record { command = command; words = words }

-- the first row of the opcode that the mode and the dialect allow; 6 where there is none
unfoldable pub found_in : List Row → ℕ → Mode → Dialect → Result Known Refusal
found_in [] opcode mode dialect = Err refusal.Opcode
found_in (row ∷ rest) opcode mode dialect =
    pick (row_serves row opcode mode dialect) (Ok (with_words row.command row.words)) (found_in rest opcode mode dialect)

-- what the table says of an opcode in a mode and a dialect; 15 where it is retired
unfoldable pub looked_up : ℕ → Mode → Dialect → Result Known Refusal
looked_up opcode mode dialect = pick (eqb opcode retired) (Err refusal.Retired) (found_in rows opcode mode dialect)

-- a choice by what a command writes: the bytes of a load, of a fill, the bits of a setting, or nothing
abbrev pub by_writing : {A : Type 0} → Command → A → A → A → A → A
by_writing Load load fill setting other = load
by_writing Fill load fill setting other = fill
by_writing BootTable load fill setting other = setting
by_writing Enable load fill setting other = other
by_writing Disable load fill setting other = other
by_writing Request load fill setting other = other
by_writing StartOver load fill setting other = other
by_writing JumpAndClose load fill setting other = other
by_writing Ping load fill setting other = other
by_writing SequentialRead load fill setting other = other

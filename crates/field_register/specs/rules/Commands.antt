-- A field, a release and a value as the one Boot Table command that sets it: type 3, delay 0.
use Rattle.std.specs.Prelude.{ℕ, ◌+◌, ◌*◌, ◌%◌, ◌^◌, List, [], ◌∷◌, Result, Ok, Err}
use Rattle.std.specs.Option.{option_map_or}
use Rattle.words.specs.rules.Choice.{pick}
use Rattle.commands.specs.rules.Commands.{too_wide, width_of}
use Rattle.field_lines.specs.declared.FieldLine.{FieldLine}
use Rattle.field_register.specs.rules.Questions.{line_of_name}
use Rattle.field_register.specs.declared.FieldRefusal.{FieldRefusal}
use Rattle.field_register.specs.declared.FieldRefusal.TheVariants.{NoField, TooWide}
use Rattle.field_register.specs.declared.Register.{Register}

-- the opcode of Boot Table
abbrev pub boot_table : ℕ
boot_table = 0x58535907

-- START and STOP have a byte each in the type word
abbrev pub start_byte : FieldLine → ℕ
start_byte l = l.start % 256

abbrev pub stop_byte : FieldLine → ℕ
stop_byte l = l.stop % 256

-- the type word: bits 0-7 the kind, which is 3 for a field, 8-15 START, 16-23 STOP
unfoldable pub type_word : FieldLine → ℕ
type_word l = 3 + start_byte l * 2 ^ 8 + stop_byte l * 2 ^ 16

-- opcode, type word, address, data, delay
unfoldable pub words_for : FieldLine → ℕ → List ℕ
words_for l value = boot_table ∷ type_word l ∷ l.word ∷ value ∷ 0 ∷ []

-- the command of a line: 16 where the value is too wide for it
unfoldable pub command_of : FieldLine → ℕ → Result (List ℕ) FieldRefusal
command_of l value = pick (too_wide (width_of (start_byte l) (stop_byte l)) value) (Err TooWide) (Ok (words_for l value))

-- the command for a name, a release and a value: 28 where there is no line
abbrev pub command_for : Register → List ℕ → ℕ → ℕ → Result (List ℕ) FieldRefusal
command_for r name release value = option_map_or (λ l. command_of l value) (line_of_name r name release) (Err NoField)

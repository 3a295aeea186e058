-- The refusals of the register and their numbers.
use Rattle.std.specs.Prelude.{ℕ}
use Rattle.opcodes.specs.rules.Answers as opcodes
use Rattle.opcodes.specs.rules.Refusals as refusal
use Rattle.field_register.specs.declared.FieldRefusal.{FieldRefusal}
use Rattle.field_register.specs.declared.FieldRefusal.TheVariants.{Room, Malformed, Clash, NoField, TooWide}

-- a refusal's number; 16 is the loader's own, and 23 is that of text
abbrev pub field_code : FieldRefusal → ℕ
field_code Room = opcodes.code_of refusal.Room
field_code Malformed = 26
field_code Clash = 27
field_code NoField = 28
field_code TooWide = opcodes.code_of refusal.TooWide

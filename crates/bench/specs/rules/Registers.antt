-- The register's three calls for C, on a text: what each gives back, and the room that it leaves.
use Rattle.std.specs.Prelude.{ℕ, ◌+◌, ◌*◌, ◌^◌, List, ◌++◌, ltb, length, get_or, drop, Option, Some, None, Result, Ok, Err}
use Rattle.words.specs.rules.Bytes.{written}
use Rattle.words.specs.rules.Choice.{pick}
use Rattle.words.specs.declared.Unit.TheVariants.{Four}
use Rattle.field_lines.specs.declared.FieldLine.{FieldLine}
use Rattle.field_register.specs.rules.Commands.{command_for}
use Rattle.field_register.specs.rules.Questions.{field_of}
use Rattle.field_register.specs.rules.Reading.{Reading, reading_of}
use Rattle.field_register.specs.rules.Refusals.{field_code}
use Rattle.field_register.specs.declared.FieldRefusal.{FieldRefusal}
use Rattle.field_register.specs.declared.FieldRefusal.TheVariants.{Room, NoField}
use Rattle.field_register.specs.declared.RefusedText.{RefusedText}
use Rattle.field_register.specs.declared.Register.{Register}

-- the refusal and the refused line's number
abbrev pub text_value : RefusedText → ℕ
text_value q = field_code q.refusal * 2 ^ 32 + q.line

-- these, or the count of lines
abbrev pub read_value : Reading → ℕ
read_value (Ok r) = r.count
read_value (Err q) = text_value q

-- a value for C, and the room lent for the answer
pub record Told : Type 0 where
  pub value : ℕ
  pub room : List ℕ

-- a refusal leaves the room as it was
abbrev pub refused : FieldRefusal → List ℕ → Told
refused q room = record { value = field_code q * 2 ^ 32; room = room }

-- what is told of a text: its own 26 or 27 with its line; else the answer
abbrev pub told_of_text : Reading → List ℕ → (Register → Told) → Told
told_of_text (Ok r) room answer = answer r
told_of_text (Err q) room answer = record { value = text_value q; room = room }

-- a question: 23 where the room is below what the answer needs
unfoldable pub questioned : ℕ → Reading → List ℕ → (Register → Told) → Told
questioned least q room answer = pick (ltb (length room) least) (refused Room room) (told_of_text q room answer)

-- a line that was found: since when, and its name at the front of the room; 28
abbrev pub name_told : Option FieldLine → List ℕ → Told
name_told None room = refused NoField room
name_told (Some l) room = record { value = l.since; room = l.name ++ drop 16 room }

-- which field a bit is in a release
abbrev pub bit_told : List ℕ → ℕ → ℕ → ℕ → List ℕ → Told
bit_told text word bit release room = questioned 16 (reading_of text) room (λ r. name_told (field_of r word bit release) room)

-- five words at the front of the room, little-endian
unfoldable pub five_written : List ℕ → List ℕ → List ℕ
five_written room ws =
    written (written (written (written (written room 0 Four (get_or ws 0 0)) 4 Four (get_or ws 1 0)) 8 Four (get_or ws 2 0)) 12 Four (get_or ws 3 0)) 16
    Four (get_or ws 4 0)

-- a command: its words; 28, 16
abbrev pub command_told : Result (List ℕ) FieldRefusal → List ℕ → Told
command_told (Ok ws) room = record { value = 0; room = five_written room ws }
command_told (Err q) room = refused q room

-- the command for a name, a release and a value
abbrev pub setting_told : List ℕ → List ℕ → ℕ → ℕ → List ℕ → Told
setting_told text name release value room = questioned 20 (reading_of text) room (λ r. command_told (command_for r name release value) room)

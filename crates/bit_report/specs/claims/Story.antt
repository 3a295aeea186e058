-- The story that this product began with, as it is told of the scripts: in release 2 the priority bit stands just above a door dwell of two bits; in release 3
-- the dwell takes it as a third bit, and the priority bit moves up.
use Rattle.std.specs.Prelude.{ℕ, true, false, List, [], ◌∷◌, ◌≡◌, replicate}
use Rattle.field_lines.specs.rules.Text.{bytes_of, padded}
use Rattle.field_lines.specs.declared.FieldLine.{FieldLine}
use Rattle.field_register.specs.rules.Reading.{kept}
use Rattle.bit_report.specs.rules.Deeds.{deed_at}
use Rattle.bit_report.specs.rules.Fields.{two_fields, cut_field}
use Rattle.bit_report.specs.declared.Kind.TheVariants.{Setting}
use Rattle.bit_report.specs.declared.Names.{Names}

abbrev pub option_word : ℕ
option_word = 0x80000010

abbrev pub field_line : List ℕ → ℕ → ℕ → ℕ → ℕ → FieldLine
field_line name start stop since until =
    record { name = padded name; word = option_word; start = start; stop = stop; since = since; until = until }

-- the fields of a release
abbrev pub boards : ℕ → Names
boards release =
    record {
      register =
          kept (
          field_line (bytes_of "dwell") 4 5 1 2
          ∷ field_line (bytes_of "priority") 6 6 1 2
          ∷ field_line (bytes_of "dwell") 4 6 3 0
          ∷ field_line (bytes_of "priority") 7 7 3 0
          ∷ []
          );
      release = release;
    }

-- nothing is pointed out of a command's bits on the boards of a release
pub record Clean (release from to : ℕ) : Type 0 where
  pub one : two_fields (boards release) option_word from to ≡ false
  pub whole : cut_field (boards release) option_word from to ≡ false

-- an image of one setting: magic word, opcode, type word, address, data, delay
abbrev pub dwell_of_three : List ℕ
dwell_of_three =
    0x54 ∷ 0x49 ∷ 0x50 ∷ 0x41 ∷ 0x07 ∷ 0x59 ∷ 0x53 ∷ 0x58 ∷ 0x03 ∷ 0x04 ∷ 0x06 ∷ 0x00 ∷ 0x10 ∷ 0x00 ∷ 0x00 ∷ 0x80 ∷ 0x03 ∷ replicate 7 0

pub record TheStory : Type 0 where
  -- the setting of the third release's dwell, as it is read off an image
  pub setting : deed_at dwell_of_three 4 option_word ≡ record { kind = Setting; from = 4; to = 7 }
  -- on boards of release 2 it writes two fields, and each of them wholly
  pub fault : two_fields (boards 2) option_word 4 7 ≡ true
  pub no_cut : cut_field (boards 2) option_word 4 7 ≡ false
  -- and its priority bit is no field there
  pub unnamed : Clean 2 7 8
  -- the settings of release 2 on boards of release 3: both write a part of the dwell
  pub low_part : cut_field (boards 3) option_word 4 6 ≡ true
  pub third_bit : cut_field (boards 3) option_word 6 7 ≡ true
  -- each on its own boards
  pub own_2 : Clean 2 4 6
  pub own_priority_2 : Clean 2 6 7
  pub own_3 : Clean 3 4 7
  pub own_priority_3 : Clean 3 7 8

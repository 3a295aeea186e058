-- What is told of the bits of a chosen word, and the parts of the word of which the same is told.
use Rattle.std.specs.Prelude.{ℕ, ◌+◌, ◌-◌, ◌/◌, ◌%◌, ◌^◌, Bool, not, ◌&&◌, List, eqb, ltb, replicate, Option}
use Rattle.std.specs.Option.{option_map_or}
use Rattle.field_lines.specs.rules.Text.{same}
use Rattle.field_register.specs.rules.Questions.{field_of}
use Rattle.field_lines.specs.declared.FieldLine.{FieldLine}
use Rattle.bit_stamps.specs.rules.Stamps.{entry_at}
use Rattle.bit_report.specs.rules.Lowest.{lowest_in}
use Rattle.bit_report.specs.declared.Names.{Names}
use Rattle.bit_report.specs.declared.Part.{Part}
use Rattle.bit_report.specs.declared.Told.{Told}
use Rattle.bit_report.specs.declared.Word.{Word}

-- the field of a bit of the word at an address
abbrev pub field_at : Names → ℕ → ℕ → Option FieldLine
field_at names address k = field_of names.register address k names.release

-- the name of a field; none has a name of zeros
abbrev pub name_in : Option FieldLine → List ℕ
name_in field = option_map_or (λ l. l.name) field (replicate 16 0)

-- fields of one name
unfoldable pub same_field : Option FieldLine → Option FieldLine → Bool
same_field a b = same (name_in a) (name_in b)

-- the entries of a bit, and its field
unfoldable pub told_of : List ℕ → List ℕ → Names → Word → ℕ → Told
told_of numbers offsets names w k =
    record { number = entry_at numbers w.index k; at = entry_at offsets w.index k; field = field_at names w.address k }

-- one command wrote both last: the number of one that was given up may go to another, which then has another offset
unfoldable pub same_writer : Told → Told → Bool
same_writer a b = eqb a.number b.number && eqb a.at b.at

unfoldable pub alike : Told → Told → Bool
alike a b = same_writer a b && same_field a.field b.field

-- is something else told of another bit?
abbrev pub unlike_at : List ℕ → List ℕ → Names → Word → ℕ → ℕ → Bool
unlike_at numbers offsets names w k j = not (alike (told_of numbers offsets names w k) (told_of numbers offsets names w j))

-- a part ends before the first such bit
unfoldable pub part_end : List ℕ → List ℕ → Names → Word → ℕ → ℕ
part_end numbers offsets names w k = lowest_in (unlike_at numbers offsets names w k) (k + 1) 32

-- n bits of a value from s on
unfoldable pub value_of : ℕ → ℕ → ℕ → ℕ
value_of value s n = value / 2 ^ s % 2 ^ n

-- the part that begins at a bit of a word with a value
unfoldable pub part_from : ℕ → List ℕ → List ℕ → Names → Word → ℕ → Part
part_from value numbers offsets names w k =
    record {
      start = k;
      stop = part_end numbers offsets names w k - 1;
      value = value_of value k (part_end numbers offsets names w k - k);
      told = told_of numbers offsets names w k;
    }

-- one command wrote two bits of a chosen word last
unfoldable pub by_one : List ℕ → List ℕ → ℕ → ℕ → ℕ → Bool
by_one numbers offsets index j k =
    eqb (entry_at numbers index j) (entry_at numbers index k) && eqb (entry_at offsets index j) (entry_at offsets index k)

-- and none below a bit was written by its command
unfoldable pub is_first : List ℕ → List ℕ → ℕ → ℕ → Bool
is_first numbers offsets index k = not (ltb (lowest_in (by_one numbers offsets index k) 0 k) k)

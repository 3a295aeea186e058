-- What may be relied on: a part is all of the bits around its first of which the same is told; a command has the bits that its stamping gave the number; and
-- what is pointed out is there.
use Rattle.std.specs.Prelude.{ℕ, ◌+◌, ◌*◌, ◌≤◌, ◌<◌, true, false, ◌&&◌, List, ◌≡◌, leb, ltb, Some}
use Rattle.words.specs.rules.Bits.{within}
use Rattle.commands.specs.declared.Wrote.{Wrote}
use Rattle.field_lines.specs.rules.Clashes.{has_bit}
use Rattle.field_lines.specs.declared.FieldLine.{FieldLine}
use Rattle.bit_report.specs.rules.Deeds.{spread}
use Rattle.bit_report.specs.rules.Fields.{has_field, two_fields, cut_field}
use Rattle.bit_report.specs.rules.Parts.{field_at, name_in, told_of, alike, part_end, by_one, is_first}
use Rattle.bit_report.specs.declared.Kind.{Kind}
use Rattle.bit_report.specs.declared.Names.{Names}
use Rattle.bit_report.specs.declared.Told.{Told}
use Rattle.bit_report.specs.declared.Word.{Word}

-- the same number, offset and name of the field
pub record SameTold (a b : Told) : Type 0 where
  pub number : a.number ≡ b.number
  pub offset : a.at ≡ b.at
  pub name : name_in a.field ≡ name_in b.field

-- the part of a word from a bit on
pub record PartLaws (numbers offsets : List ℕ) (names : Names) (w : Word) (k : ℕ) : Type 0 where
  pub not_empty : k < part_end numbers offsets names w k
  pub in_word : k < 32 → part_end numbers offsets names w k ≤ 32
  pub all_alike : (j : ℕ) → k ≤ j → j < part_end numbers offsets names w k → SameTold (told_of numbers offsets names w k) (told_of numbers offsets names w j)
  -- it does not stop early
  pub not_behind : part_end numbers offsets names w k < 32
      → alike (told_of numbers offsets names w k) (told_of numbers offsets names w (part_end numbers offsets names w k)) ≡ false

-- the first bit of a command: no lower one has its number and offset; where a lower one has, it is not the first
pub record FirstLaws (numbers offsets : List ℕ) (index k : ℕ) : Type 0 where
  pub none_below : is_first numbers offsets index k ≡ true → (j : ℕ) → j < k → by_one numbers offsets index k j ≡ false
  pub one_below : (j : ℕ) → j < k → by_one numbers offsets index k j ≡ true → is_first numbers offsets index k ≡ false

-- the bits of a word that a command wrote
pub record DeedLaws (kind : Kind) (word : ℕ) (w : Wrote) : Type 0 where
  -- they are those whose entries its stamping gives the number
  pub stamped : (k : ℕ) → k < 32
      → within (8 * w.place + w.start) w.count (8 * word + k) ≡ (leb (spread kind word w).from k && ltb k (spread kind word w).to)
  -- an address in the place of a place makes no difference, where both are counted from one base
  pub by_address : (base : ℕ)
      → spread kind (base + word) (record { place = base + w.place; start = w.start; count = w.count; number = w.number }) ≡ spread kind word w

-- two bits of a command that are in two fields
pub record Two (names : Names) (word from to : ℕ) : Type 0 where
  pub one : ℕ
  pub other : ℕ
  pub one_written : (from ≤ one) × (one < to)
  pub other_written : (from ≤ other) × (other < to)
  pub one_named : has_field names word one ≡ true
  pub other_named : has_field names word other ≡ true
  pub differ : name_in (field_at names word one) ≡ name_in (field_at names word other) → ⊥

-- a bit of a command, and a bit of its field that the command does not write
pub record Cut (names : Names) (word from to : ℕ) : Type 0 where
  pub inside : ℕ
  pub outside : ℕ
  pub written : (from ≤ inside) × (inside < to)
  pub field : FieldLine
  pub named : field_at names word inside ≡ Some field
  pub same-field : has_bit field word outside ≡ true
  pub not_written : (from ≤ outside) × (outside < to) → ⊥

-- what is pointed out is there, and what is there is pointed out
pub record WarningLaws (names : Names) (word from to : ℕ) : Type 0 where
  pub two_there : two_fields names word from to ≡ true → Two names word from to
  pub two_told : Two names word from to → two_fields names word from to ≡ true
  pub cut_there : cut_field names word from to ≡ true → Cut names word from to
  pub cut_told : Cut names word from to → cut_field names word from to ≡ true

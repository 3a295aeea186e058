-- Which fields of a release the bits of a command belong to: two of them, or one that it writes only in part, is to be pointed out.
use Rattle.std.specs.Prelude.{ℕ, Bool, false, not, ◌&&◌, ◌||◌, leb, ltb, Option, is_some}
use Rattle.std.specs.Option.{option_map_or}
use Rattle.field_lines.specs.declared.FieldLine.{FieldLine}
use Rattle.bit_report.specs.rules.Lowest.{lowest_in}
use Rattle.bit_report.specs.rules.Parts.{field_at, same_field}
use Rattle.bit_report.specs.declared.Names.{Names}

-- is a bit in a field?
abbrev pub has_field : Names → ℕ → ℕ → Bool
has_field names word k = is_some (field_at names word k)

-- in one of another name than a field's?
unfoldable pub has_other : Names → ℕ → Option FieldLine → ℕ → Bool
has_other names word f k = has_field names word k && not (same_field (field_at names word k) f)

-- has a field a bit below `from`, or from `to` on?
unfoldable pub reaches_out : FieldLine → ℕ → ℕ → Bool
reaches_out l from to = ltb l.start from || leb to l.stop

-- is a bit in such a field?
unfoldable pub has_cut : Names → ℕ → ℕ → ℕ → ℕ → Bool
has_cut names word from to k = option_map_or (λ l. reaches_out l from to) (field_at names word k) false

-- the field of the lowest bit that has one
abbrev pub first_field : Names → ℕ → ℕ → ℕ → Option FieldLine
first_field names word from to = field_at names word (lowest_in (has_field names word) from to)

-- the bits from `from` up to before `to` belong to two fields: one is in another field than the lowest
unfoldable pub two_fields : Names → ℕ → ℕ → ℕ → Bool
two_fields names word from to = ltb (lowest_in (has_other names word (first_field names word from to)) from to) to

-- they are a part of a field, and not all of it
unfoldable pub cut_field : Names → ℕ → ℕ → ℕ → Bool
cut_field names word from to = ltb (lowest_in (has_cut names word from to) from to) to

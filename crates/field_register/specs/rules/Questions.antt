-- What a register is asked: which line a bit or a name is in a release, and how long that stays so.
use Rattle.std.specs.Prelude.{ℕ, ◌-◌, Bool, ◌&&◌, ◌||◌, List, [], ◌∷◌, ltb, eqb, Option, Some, None}
use Rattle.std.specs.Option.{option_map_or}
use Rattle.words.specs.rules.Choice.{pick}
use Rattle.field_lines.specs.rules.Clashes.{has_bit, in_force}
use Rattle.field_lines.specs.rules.Pairs.{and_then}
use Rattle.field_lines.specs.rules.Text.{same, name_of}
use Rattle.field_lines.specs.declared.FieldLine.{FieldLine}
use Rattle.field_register.specs.rules.Reading.{lines_in}
use Rattle.field_register.specs.declared.Register.{Register}
use Rattle.field_register.specs.declared.Stretch.{Stretch}
use Rattle.field_register.specs.declared.Subject.{Subject}
use Rattle.field_register.specs.declared.Subject.TheVariants.{Name, Bit}

-- is a line about a subject?
unfoldable pub is_about : Subject → FieldLine → Bool
is_about (Name name) l = same l.name name
is_about (Bit word bit) l = has_bit l word bit

-- and in force in a release?
unfoldable pub answers : Subject → ℕ → FieldLine → Bool
answers s release l = is_about s l && in_force l release

-- the first of some lines that answers
unfoldable pub found_in : Subject → ℕ → List FieldLine → Option FieldLine
found_in s release [] = None
found_in s release (l ∷ ls) = pick (answers s release l) (Some l) (found_in s release ls)

-- the question, of a register
abbrev pub asked : Register → Subject → ℕ → Option FieldLine
asked r s release = found_in s release (lines_in r)

-- which field a bit of a word is in a release
abbrev pub field_of : Register → ℕ → ℕ → ℕ → Option FieldLine
field_of r word bit release = asked r (Bit word bit) release

-- which line a name is in a release; bytes that are no name are none
abbrev pub line_of_name : Register → List ℕ → ℕ → Option FieldLine
line_of_name r name release = and_then (name_of name) (λ n. asked r (Name n) release)

-- the sooner of a release, 0 for none, and the first release of a line about the subject that begins later than another
unfoldable pub sooner : Subject → ℕ → ℕ → FieldLine → ℕ
sooner s release best l = pick (is_about s l && ltb release l.since && (eqb best 0 || ltb l.since best)) l.since best

-- the first release later than another in which a line about the subject begins, 0 for none
unfoldable pub soonest : Subject → ℕ → ℕ → List FieldLine → ℕ
soonest s release best [] = best
soonest s release best (l ∷ ls) = soonest s release (sooner s release best l) ls

-- the release before one, 0 where there is none: no end
unfoldable pub last_before : ℕ → ℕ
last_before next = pick (eqb next 0) 0 (next - 1)

-- what a subject is from a release on, and up to which one: a line up to its last, no line up to the next that begins; 0 for no end
unfoldable pub stretch_from : Register → Subject → ℕ → Stretch
stretch_from r s release =
    record {
      found = asked r s release;
      last = option_map_or (λ l. l.until) (asked r s release) (last_before (soonest s release 0 (lines_in r)));
    }

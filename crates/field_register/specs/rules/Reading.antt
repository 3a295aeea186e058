-- A text read into a register: line by line, up to the first that is refused.
use Rattle.std.specs.Prelude.{ℕ, zero, suc, ◌+◌, ◌-◌, Bool, false, ◌||◌, List, [], ◌∷◌, ◌++◌, leb, length, take, replicate, Result, Ok, Err}
use Rattle.std.specs.Option.{option_map_or}
use Rattle.words.specs.rules.Choice.{pick}
use Rattle.field_lines.specs.rules.Clashes.{clash}
use Rattle.field_lines.specs.rules.Lines.{no_line, line_at}
use Rattle.field_lines.specs.declared.FieldLine.{FieldLine}
use Rattle.field_register.specs.declared.FieldRefusal.{FieldRefusal}
use Rattle.field_register.specs.declared.FieldRefusal.TheVariants.{Malformed, Clash}
use Rattle.field_register.specs.declared.RefusedText.{RefusedText}
use Rattle.field_register.specs.declared.Register.{Register}

-- the most lines of a register
abbrev pub most_lines : ℕ
most_lines = 200

-- a register as it is kept: its lines, and behind them none
unfoldable pub kept : List FieldLine → Register
kept ls = record { count = length ls; lines = ls ++ replicate (most_lines - length ls) no_line }

-- the lines of a register
unfoldable pub lines_in : Register → List FieldLine
lines_in r = take r.count r.lines

-- what becomes of a text: it is read, or refused at a line
abbrev pub Reading : Type 0
Reading = Result Register RefusedText

abbrev pub read_as : List FieldLine → Reading
read_as ls = Ok (kept ls)

abbrev pub refused_at : FieldRefusal → ℕ → Reading
refused_at q line = Err (record { refusal = q; line = line })

-- does a line clash with an earlier one?
unfoldable pub clashes : List FieldLine → FieldLine → Bool
clashes [] l = false
clashes (e ∷ es) l = clash e l || clashes es l

-- the text from a place on, behind some lines and with so many still allowed: at its end all is read; 26 a line beyond them, or malformed; 27
unfoldable pub read_from : ℕ → List FieldLine → List ℕ → ℕ → Reading
read_from zero ls text at = pick (leb (length text) at) (read_as ls) (refused_at Malformed (length ls + 1))
read_from (suc allowed) ls text at =
    pick (leb (length text) at) (read_as ls)
    (option_map_or (λ p. pick (clashes ls p.line) (refused_at Clash (length ls + 1)) (read_from allowed (ls ++ p.line ∷ []) text p.next))
    (line_at text at) (refused_at Malformed (length ls + 1)))

-- the whole text
abbrev pub reading_of : List ℕ → Reading
reading_of text = read_from most_lines [] text 0

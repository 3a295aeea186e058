-- The number of a refused line is at most one more than the lines that are allowed. By the way that the reading goes.
use Prim.Native.Nat.{ℕ, zero, suc, ◌+◌, ◌≤◌}
use mathlib.Core.List.{List, [], ◌∷◌, ◌++◌}
use mathlib.Core.Path.{◌≡◌}
use native.Mathlib.Omega.{arith}
use lib.ListN.{length, length-append}
use Rattle.std.specs.Prelude.{Err, IfErr}
use Rattle.words.proofs.Choice.{of_choice}
use Rattle.field_lines.specs.rules.Lines.{line_at}
use Rattle.field_lines.specs.declared.FieldLine.{FieldLine}
use Rattle.field_register.specs.rules.Reading.{Reading, clashes, read_from, reading_of}
use Rattle.field_register.specs.declared.RefusedText.{RefusedText}
use Rattle.std.proofs.lemmas.Result.{IfErr-at_err}
use Rattle.field_register.proofs.ByLine.{by_line}

abbrev Low : Reading → Type 0
Low q = IfErr q (λ refused. refused.line ≤ 201)

low_from : (allowed : ℕ) (ls : List FieldLine) (text : List ℕ) (at : ℕ) → allowed + length ls ≤ 200 → Low (read_from allowed ls text at)
unfolding read_from
low_from zero ls text at h = of_choice Low _ (λ e. tt) (λ e. omega arith)
low_from (suc allowed) ls text at h =
    of_choice Low _ (λ e. tt)
    (λ e.
    by_line Low (line_at text at) _ (λ none. omega arith)
    (λ p there.
    let longer : length (ls ++ p.line ∷ []) ≡ length ls + 1 = length-append ls _ in
    of_choice Low (clashes ls p.line) (λ clashing. omega arith)
    (λ free. low_from allowed (ls ++ p.line ∷ []) text p.next (omega arith))))

pub line_low : (text : List ℕ) (q : RefusedText) → reading_of text ≡ Err q → q.line ≤ 201
line_low text q e = IfErr-at_err (λ (refused : RefusedText). refused.line ≤ 201) e (low_from 200 [] text 0 (omega arith))

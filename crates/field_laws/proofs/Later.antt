-- Later than all that is named, a line with an end has ended and every line has begun: what is left to ask is whether it has an end.
use Prim.Native.Nat.{ℕ, suc, ◌<◌}
use mathlib.Core.Bool.{Bool, ◌&&◌, ◌||◌, or-false}
use mathlib.Core.List.{List, [], ◌∷◌}
use mathlib.Core.Path.{◌≡◌, refl, sym, ap, ap₂, ◌∙◌}
use native.Mathlib.Omega.{arith}
use borrow.Author.Tests.{le-leb, lt-leb}
use Rattle.std.specs.Prelude.{Option, Some}
use lib.Dec.{eqb}
use Rattle.words.specs.rules.Choice.{pick}
use Rattle.field_lines.specs.rules.Clashes.{lasts, in_force}
use Rattle.field_lines.specs.declared.FieldLine.{FieldLine}
use Rattle.field_register.specs.rules.Questions.{is_about, answers, found_in}
use Rattle.field_register.specs.declared.Subject.{Subject}
use Rattle.field_laws.specs.claims.Meanings.{lines_of, LaterThanAny, still_in_force, LaterReleases}
use Rattle.field_laws.proofs.Kept.{lines_good}

answers_still : (s : Subject) (release : ℕ) (l : FieldLine) → l.since < release → l.until < release
    → answers s release l ≡ (is_about s l && eqb l.until 0)
unfolding answers in_force lasts
answers_still s release l begun ended =
    ap (λ (t : Bool). is_about s l && t)
    (ap₂ ◌&&◌ (le-leb l.since release (omega arith))
    (ap (λ (t : Bool). eqb l.until 0 || t) (lt-leb release l.until ended) ∙ or-false (eqb l.until 0)))

still : (s : Subject) (release : ℕ) (ls : List FieldLine) → LaterThanAny ls release → found_in s release ls ≡ still_in_force s ls
unfolding found_in still_in_force
still s release [] later = refl
still s release (l ∷ ls) later =
    let first = later 0 (omega arith) in
    ap₂ (λ (t : Bool) (rest : Option FieldLine). pick t (Some l) rest) (answers_still s release l first.0 first.1)
    (still s release ls (λ i h. later (suc i) (omega arith)))

pub later_releases : LaterReleases
later_releases =
    record {
      answered = λ text s release later. still s release (lines_of text) later;
      one_answer_for_all = λ text s release q later also. still s release (lines_of text) later ∙ sym (still s q (lines_of text) also);
      past_all = λ text release past i h. let r = (lines_good text).sound i h in (omega arith, omega arith);
    }

-- What is asked of some lines is what the library's chains give. By induction over the lines.
use Prim.Native.Nat.{ℕ}
use mathlib.Core.List.{List, [], ◌∷◌}
use mathlib.Core.Path.{◌≡◌, refl}
use Rattle.std.specs.Prelude.{fold, find}
use Rattle.std.specs.List.{list_any}
use Rattle.words.specs.rules.Choice.{pick}
use Rattle.words.proofs.Choice.{by_test}
use Rattle.field_lines.specs.rules.Clashes.{clash}
use Rattle.field_lines.specs.declared.FieldLine.{FieldLine}
use Rattle.field_register.specs.rules.Reading.{clashes}
use Rattle.field_register.specs.rules.Questions.{answers, found_in, sooner, soonest}
use Rattle.field_register.specs.declared.Subject.{Subject}

pub clashes_is : (l : FieldLine) (ls : List FieldLine) → list_any (λ e. clash e l) ls ≡ clashes ls l
unfolding clashes
clashes_is l [] = refl
clashes_is l (e ∷ es) = rw (clashes_is l es) refl

module _ (s : Subject) (release : ℕ) where
  pub found_is : (ls : List FieldLine) → find (answers s release) ls ≡ found_in s release ls
  unfolding found_in pick
  found_is [] = refl
  found_is (l ∷ ls) = by_test (answers s release l) (λ held. rw held refl) (λ failed. rw (failed, found_is ls) refl)

  pub soonest_is : (best : ℕ) (ls : List FieldLine) → fold (sooner s release) best ls ≡ soonest s release best ls
  unfolding soonest
  soonest_is best [] = refl
  soonest_is best (l ∷ ls) = soonest_is (sooner s release best l) ls

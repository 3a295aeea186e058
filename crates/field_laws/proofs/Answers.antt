-- Each question has one answer: two lines that answered it would clash, and the first that answers is found.
use Prim.Native.Nat.{ℕ, zero, suc, ◌<◌}
use mathlib.Core.Bool.{true, false, true≢false}
use mathlib.Core.List.{List, [], ◌∷◌}
use mathlib.Core.Path.{◌≡◌, sym, ap, ◌∙◌}
use native.Mathlib.Omega.{arith}
use borrow.Author.Tests.{leb-true, leb-false}
use Rattle.std.specs.Prelude.{Option, Some, None}
use lib.Dec.{leb}
use lib.ListN.{length}
use Rattle.words.proofs.Choice.{chosen, passed, by_test, of_choice}
use Rattle.field_lines.specs.declared.FieldLine.{FieldLine}
use Rattle.field_register.specs.rules.Questions.{answers, asked, found_in}
use Rattle.field_register.specs.declared.Subject.{Subject}
use Rattle.field_laws.specs.claims.Meanings.{nth, register_of, lines_of, OneAnswer}
use Rattle.field_laws.proofs.Clashing.{both_answer}
use Rattle.field_laws.proofs.Kept.{GoodLines, lines_good, refused_empty}

module _ (s : Subject) (release : ℕ) where
  -- of two lines that are apart one answers at most
  not_both : (ls : List FieldLine) → GoodLines ls → (i j : ℕ) → i < j → j < length ls
      → answers s release (nth ls i) ≡ true → answers s release (nth ls j) ≡ true → ⊥
  not_both ls good i j h k e f = true≢false (sym (both_answer (nth ls i) (nth ls j) s release e f) ∙ good.apart i j h k)

  one_answers : (ls : List FieldLine) → GoodLines ls → (i j : ℕ) → i < length ls → j < length ls
      → answers s release (nth ls i) ≡ true → answers s release (nth ls j) ≡ true → i ≡ j
  one_answers ls good i j h k e f =
      by_test (leb (suc i) j) (λ less. absurd (not_both ls good i j (leb-true _ _ less) k e f))
      (λ not-less.
      by_test (leb (suc j) i) (λ more. absurd (not_both ls good j i (leb-true _ _ more) h f e))
      (λ not_more. omega (arith, leb-false (suc i) j not-less, leb-false (suc j) i not_more)))

  -- the only one that answers is found
  found_at : (ls : List FieldLine) (i : ℕ) → i < length ls → answers s release (nth ls i) ≡ true
      → ((j : ℕ) → j < i → answers s release (nth ls j) ≡ false) → found_in s release ls ≡ Some (nth ls i)
  unfolding found_in
  found_at [] i h e first = absurd (omega arith)
  found_at (l ∷ ls) zero h e first = chosen _ _ _ e
  found_at (l ∷ ls) (suc i) h e first =
      passed _ _ _ (first 0 (omega arith)) ∙ found_at ls i (omega arith) e (λ j k. first (suc j) (omega arith))

  no_earlier : (ls : List FieldLine) → GoodLines ls → (i j : ℕ) → i < length ls → j < i → answers s release (nth ls i) ≡ true
      → answers s release (nth ls j) ≡ false
  no_earlier ls good i j h k e =
      by_test (answers s release (nth ls j)) (λ f. absurd (not_both ls good j i k h f e)) (λ none. none)

  -- where none is found none answers
  not_first : (ls : List FieldLine) (l : FieldLine) → found_in s release (l ∷ ls) ≡ None → answers s release l ≡ false
  unfolding found_in
  not_first ls l e =
      by_test (answers s release l)
      (λ held. let one : Some l ≡ None = sym (chosen _ _ _ held) ∙ e in cc)
      (λ failed. failed)

  pub none_at : (ls : List FieldLine) → found_in s release ls ≡ None → (i : ℕ) → i < length ls → answers s release (nth ls i) ≡ false
  unfolding found_in
  none_at [] e i h = absurd (omega arith)
  none_at (l ∷ ls) e zero h = not_first ls l e
  none_at (l ∷ ls) e (suc i) h = none_at ls (sym (passed _ _ _ (not_first ls l e)) ∙ e) i (omega arith)

-- a line that was found stands among them, and answers
pub record Where (s : Subject) (release : ℕ) (ls : List FieldLine) (l : FieldLine) : Type 0 where
  pub number : ℕ
  pub below : number < length ls
  pub is : nth ls number ≡ l
  pub answers_it : answers s release l ≡ true

pub where_found : (s : Subject) (release : ℕ) (ls : List FieldLine) (l : FieldLine) → found_in s release ls ≡ Some l → Where s release ls l
unfolding found_in
where_found s release [] l = λ e. cc
where_found s release (m ∷ ls) l =
    of_choice (λ (f : Option FieldLine). f ≡ Some l → Where s release (m ∷ ls) l) (answers s release m)
    (λ held e. let is : m ≡ l = cc in record { number = 0; below = omega arith; is = is; answers_it = rw (← is) held })
    (λ failed e.
    let w = where_found s release ls l e in
    record { number = suc w.number; below = omega (arith, w.below); is = w.is; answers_it = w.answers_it })

pub the_answer_is : (text : List ℕ) (s : Subject) (release i : ℕ) → i < length (lines_of text)
    → answers s release (nth (lines_of text) i) ≡ true → asked (register_of text) s release ≡ Some (nth (lines_of text) i)
the_answer_is text s release i h e =
    found_at s release (lines_of text) i h e (λ j k. no_earlier s release (lines_of text) (lines_good text) i j h k e)

none_of_none : (s : Subject) (release : ℕ) (ls : List FieldLine) → ls ≡ [] → found_in s release ls ≡ None
unfolding found_in
none_of_none s release ls e = ap (found_in s release) e

pub one_answer : OneAnswer
one_answer =
    record {
      at_most_one = λ text s release i j. one_answers s release (lines_of text) (lines_good text) i j;
      the_answer = the_answer_is;
      no_answer = λ text s release i h e. none_at s release (lines_of text) e i h;
      refused = refused_empty;
      refused_none = λ text s release some. none_of_none s release (lines_of text) (refused_empty text some);
    }

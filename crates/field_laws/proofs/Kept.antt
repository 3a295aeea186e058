-- What the lines of a register that was read keep: each is in its ranges, and no two clash. A line is only added where it was read and clashes with no
-- earlier one.
use Prim.Native.Nat.{ℕ, zero, suc, ◌+◌, ◌≤◌, ◌<◌}
use mathlib.Core.Bool.{false}
use mathlib.Core.List.{List, [], ◌∷◌, ◌++◌}
use mathlib.Core.Path.{◌≡◌, ap, ◌∙◌}
use native.Mathlib.Omega.{arith}
use borrow.Author.Tests.{leb-true, leb-false}
use Rattle.std.specs.Prelude.{Ok, Err, IsErr}
use lib.Dec.{leb}
use lib.ListN.{length, length-append, get_or-append}
use lib.Seq.{take-append_seam, get_or-append_seam}
use Rattle.words.proofs.Choice.{by_test, of_choice, neither}
use Rattle.field_lines.specs.rules.Clashes.{clash}
use Rattle.field_lines.specs.rules.Lines.{no_line, line_at}
use Rattle.field_lines.specs.declared.FieldLine.{FieldLine}
use Rattle.field_register.specs.rules.Reading.{Reading, kept, lines_in, read_as, refused_at, clashes, read_from, reading_of}
use Rattle.field_register.specs.declared.FieldRefusal.{FieldRefusal}
use Rattle.field_register.specs.declared.FieldRefusal.TheVariants.{Malformed, Clash}
use Rattle.field_laws.specs.claims.Meanings.{nth, register_in, lines_of}
use Rattle.field_register.proofs.ByLine.{by_line}
use Rattle.field_laws.specs.claims.WellFormed.{InRanges}
use Rattle.field_laws.proofs.LinesRead.{line_written}

-- lines that are in their ranges and apart
pub record GoodLines (ls : List FieldLine) : Type 0 where
  pub apart : (i j : ℕ) → i < j → j < length ls → clash (nth ls i) (nth ls j) ≡ false
  pub sound : (i : ℕ) → i < length ls → InRanges (nth ls i)

none_good : GoodLines []
none_good = record { apart = λ i j h k. absurd (omega arith); sound = λ i h. absurd (omega arith) }

-- a line that clashes with none of some clashes with none of them
clear : (ls : List FieldLine) (l : FieldLine) → clashes ls l ≡ false → (i : ℕ) → i < length ls → clash (nth ls i) l ≡ false
unfolding clashes
clear [] l e i h = absurd (omega arith)
clear (m ∷ ls) l e zero h = (neither (clash m l) _ e).0
clear (m ∷ ls) l e (suc i) h = clear ls l (neither (clash m l) _ e).1 i (omega arith)

-- one more line
module _ (ls : List FieldLine) (l : FieldLine) (good : GoodLines ls) (free : clashes ls l ≡ false) (sound : InRanges l) where
  before : (i : ℕ) → i < length ls → nth (ls ++ l ∷ []) i ≡ nth ls i
  before i h = get_or-append ls (l ∷ []) no_line i h

  last : (i : ℕ) → i < length (ls ++ l ∷ []) → (i < length ls → ⊥) → i ≡ length ls
  last i h out = let n = length-append ls (l ∷ []) in omega arith

  at_last : (i : ℕ) → i ≡ length ls → nth (ls ++ l ∷ []) i ≡ l
  at_last i e = ap (nth (ls ++ l ∷ [])) e ∙ get_or-append_seam ls l [] no_line

  apart_more : (i j : ℕ) → i < j → j < length (ls ++ l ∷ []) → clash (nth (ls ++ l ∷ []) i) (nth (ls ++ l ∷ []) j) ≡ false
  apart_more i j h k =
      by_test (leb (suc j) (length ls))
      (λ inside.
      let below : j < length ls = leb-true _ _ inside in
      rw (before i (omega arith), before j below) (good.apart i j h below))
      (λ outside.
      let past : length ls ≤ j = omega (arith, leb-false (suc j) (length ls) outside) in
      let e : j ≡ length ls = last j k (λ b. omega arith) in
      rw (at_last j e, before i (omega arith)) (clear ls l free i (omega arith)))

  sound_more : (i : ℕ) → i < length (ls ++ l ∷ []) → InRanges (nth (ls ++ l ∷ []) i)
  sound_more i h =
      by_test (leb (suc i) (length ls))
      (λ inside. rw (before i (leb-true _ _ inside)) (good.sound i (leb-true _ _ inside)))
      (λ outside.
      let past : length ls ≤ i = omega (arith, leb-false (suc i) (length ls) outside) in
      rw (at_last i (last i h (λ b. omega arith))) sound)

  more_good : GoodLines (ls ++ l ∷ [])
  more_good = record { apart = apart_more; sound = sound_more }

-- the lines of a register are those that were kept
pub lines_kept : (ls : List FieldLine) → lines_in (kept ls) ≡ ls
unfolding lines_in kept
lines_kept ls = take-append_seam ls _

abbrev Kept : Reading → Type 0
Kept q = GoodLines (lines_in (register_in q))

kept_as : (ls : List FieldLine) → GoodLines ls → Kept (read_as ls)
kept_as ls good = rw (lines_kept ls) good

kept_refused : (q : FieldRefusal) (n : ℕ) → Kept (refused_at q n)
kept_refused q n = rw (lines_kept []) none_good

read_good : (allowed : ℕ) (ls : List FieldLine) (text : List ℕ) (at : ℕ) → GoodLines ls → Kept (read_from allowed ls text at)
unfolding read_from
read_good zero ls text at good = of_choice Kept _ (λ e. kept_as ls good) (λ e. kept_refused Malformed (length ls + 1))
read_good (suc allowed) ls text at good =
    of_choice Kept _ (λ e. kept_as ls good)
    (λ e.
    by_line Kept (line_at text at) _ (λ none. kept_refused Malformed (length ls + 1))
    (λ p there.
    of_choice Kept (clashes ls p.line) (λ clashing. kept_refused Clash (length ls + 1))
    (λ free.
    read_good allowed (ls ++ p.line ∷ []) text p.next
    (more_good ls p.line good free (line_written text at p there).well_formed.in_ranges))))

pub lines_good : (text : List ℕ) → GoodLines (lines_of text)
lines_good text = read_good 200 [] text 0 none_good

-- a refused text leaves no line
pub refused_empty : (text : List ℕ) → IsErr (reading_of text) → lines_of text ≡ []
refused_empty text = none_of (reading_of text)
  where
    none_of : (q : Reading) → IsErr q → lines_in (register_in q) ≡ []
    none_of (Ok r) e = cc
    none_of (Err q) e = lines_kept []

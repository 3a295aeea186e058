-- Names: 1 to 16 bytes, each a small letter. By the byte at the front of what is left.
use Prim.Native.Nat.{ℕ, zero, suc, ◌≤◌, ◌<◌}
use mathlib.Core.Bool.{Bool, true, false, ◌&&◌, true≢false}
use mathlib.Core.List.{List, [], ◌∷◌, ◌++◌}
use mathlib.Core.Path.{◌≡◌, refl, sym, ap, ap₂, ◌∙◌}
use native.Mathlib.Omega.{arith}
use borrow.Author.Tests.{leb-true}
use lib.Dec.{leb}
use lib.ListN.{length, get_or, drop, replicate}
use Rattle.std.specs.Prelude.{Some}
use Rattle.words.proofs.Choice.{chosen, both, refuted}
use Rattle.field_lines.specs.rules.Text.{between, are_letters, is_name, padded, name_of}
use Rattle.std.proofs.lemmas.List.{drop-replicate}
use Rattle.field_lines.proofs.Between.{within}

-- letters, each by its place
pub letters_are : (s : List ℕ) → are_letters s ≡ true → (i : ℕ) → i < length s → (97 ≤ get_or s i 0) × (get_or s i 0 ≤ 122)
unfolding are_letters
letters_are [] all i h = absurd (omega arith)
letters_are (c ∷ s) all zero h =
    let range = both (leb 97 c) _ (both (between 97 122 c) (are_letters s) all).0 in (leb-true _ _ range.0, leb-true _ _ range.1)
letters_are (c ∷ s) all (suc i) h = letters_are s (both (between 97 122 c) (are_letters s) all).1 i (omega arith)

pub are-letters : (s : List ℕ) → ((i : ℕ) → i < length s → (97 ≤ get_or s i 0) × (get_or s i 0 ≤ 122)) → are_letters s ≡ true
unfolding are_letters
are-letters [] each = refl
are-letters (c ∷ s) each =
    let first = each 0 (omega arith) in
    ap₂ ◌&&◌ (within 97 122 c first.0 first.1) (are-letters s (λ i h. each (suc i) (omega arith)))

module _ (s : List ℕ) where
  pub name_length : is_name s ≡ true → (1 ≤ length s) × (length s ≤ 16)
  unfolding is_name
  name_length e = let range = both _ _ (both _ _ e).0 in (leb-true _ _ range.0, leb-true _ _ range.1)

  pub no-name : ((1 ≤ length s) × (length s ≤ 16) → ⊥) → false ≡ is_name s
  no-name never = refuted _ (λ e. never (name_length e))

  -- of so many bytes the letters decide
  pub name_by_letters : 1 ≤ length s → length s ≤ 16 → are_letters s ≡ is_name s
  unfolding is_name
  name_by_letters low high = sym (ap₂ ◌&&◌ (within 1 16 _ low high) refl)

  -- a test of each byte by itself
  pub tested : (r : Bool) → (r ≡ true → (i : ℕ) → i < length s → (97 ≤ get_or s i 0) × (get_or s i 0 ≤ 122))
      × (((i : ℕ) → i < length s → (97 ≤ get_or s i 0) × (get_or s i 0 ≤ 122)) → r ≡ true) → r ≡ are_letters s
  tested true each = sym (are-letters s (each.0 refl))
  tested false each = refuted _ (λ all. true≢false (sym (each.1 (letters_are s all))))

  -- the bytes of a name, and behind them what is left of 16 zeros
  pub name_kept : is_name s ≡ true → Some (s ++ drop (length s) (replicate 16 0)) ≡ name_of s
  unfolding name_of padded
  name_kept e =
      ap (λ (zeros : List ℕ). Some (s ++ zeros)) (drop-replicate (length s) 16 0) ∙ sym (chosen _ _ _ e)

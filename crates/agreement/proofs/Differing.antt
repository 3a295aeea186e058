-- Two memories word by word: one word and those behind it, by whether it is the same in both; and a memory beside itself.
use Prim.Native.Nat.{ℕ, zero, suc, ◌+◌, ◌*◌, ◌≤◌}
use mathlib.Core.Bool.{true, false}
use mathlib.Core.List.{List}
use mathlib.Core.Path.{◌≡◌, refl, ap, ap₂}
use native.Mathlib.Omega.{arith}
use borrow.Author.Tests.{eq-eqb}
use Rattle.words.specs.rules.Bytes.{word_at}
use Rattle.words.specs.rules.Choice.{pick}
use Rattle.words.proofs.Choice.{chosen, passed, of_choice}
use Rattle.agreement.specs.rules.Differing.{same_word, differing, first_unlike}

module _ (a b : List ℕ) where
  -- one word, and those behind it
  module _ (n later place next : ℕ) (some : n ≡ suc later) (behind : next ≡ place + 4) where
    pub word_counted : differing n place a b ≡ pick (same_word a b place) 0 1 + differing later next a b
    unfolding differing
    word_counted = rw (some, behind) refl

    pub same_counted : same_word a b place ≡ true → differing n place a b ≡ differing later next a b
    same_counted same =
        let none : pick {A = ℕ} (same_word a b place) 0 1 ≡ 0 = chosen _ 0 1 same in
        let all = word_counted in
        omega arith

    pub other_counted : same_word a b place ≡ false → differing n place a b ≡ 1 + differing later next a b
    other_counted other =
        let one : pick {A = ℕ} (same_word a b place) 0 1 ≡ 1 = passed _ 0 1 other in
        let all = word_counted in
        omega arith

    pub word_passed : same_word a b place ≡ true → first_unlike n place a b ≡ first_unlike later next a b
    unfolding first_unlike
    word_passed same = rw (some, behind) (chosen _ _ _ same)

    pub word_found : same_word a b place ≡ false → first_unlike n place a b ≡ place
    unfolding first_unlike
    word_found other = rw some (passed _ _ _ other)

  -- the first stands among them or just behind them
  pub first_within : (n place : ℕ) → first_unlike n place a b ≤ place + 4 * n
  unfolding first_unlike
  first_within zero place = omega arith
  first_within (suc n) place =
      let later = first_within n (place + 4) in
      of_choice (λ (k : ℕ). k ≤ place + 4 * suc n) (same_word a b place) {a = first_unlike n (place + 4) a b} {b = place}
      (λ t. omega (arith, later)) (λ t. omega arith)

  -- no word is left
  pub none_left : (n place : ℕ) → n ≡ 0 → differing n place a b ≡ 0
  unfolding differing
  none_left n place e = ap (λ (k : ℕ). differing k place a b) e

  pub past_all : (n place : ℕ) → n ≡ 0 → first_unlike n place a b ≡ place
  unfolding first_unlike
  past_all n place e = ap (λ (k : ℕ). first_unlike k place a b) e

-- a memory does not differ from itself
pub none_differs : (n place : ℕ) (a : List ℕ) → differing n place a a ≡ 0
unfolding differing
none_differs zero place a = refl
none_differs (suc n) place a =
    ap₂ ◌+◌ (chosen _ 0 1 (eq-eqb (word_at a place) (word_at a place) refl)) (none_differs n (place + 4) a)

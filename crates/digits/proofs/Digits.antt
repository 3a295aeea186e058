-- A digit and its value: which of the three ranges a character lies in, what it is worth there, and the digit of a value. Each goes by the tests of the
-- definitions, one after the other.
use Prim.Native.Nat.{ℕ, ◌+◌, ◌-◌, ◌≤◌, ◌<◌}
use mathlib.Core.Bool.{true, false}
use mathlib.Core.Path.{◌≡◌, ◌∙◌}
use native.Mathlib.Decide.{dec_lt}
use native.Mathlib.Omega.{arith}
use lib.Dec.{leb, ltb}
use borrow.Author.Tests.{leb-true, ltb-true, lt-ltb, le-ltb}
use Rattle.words.specs.rules.Bits.{within}
use Rattle.words.proofs.Choice.{chosen, passed, by_test, both}
use Rattle.words.proofs.Ranges.{inside, above}
use Rattle.digits.specs.rules.Digits.{digit_value, is_digit, digit_of}

-- where a range holds
bounds : (first count c : ℕ) → within first count c ≡ true → (first ≤ c) × (c < first + count)
unfolding within
bounds first count c held =
    let parts = both (leb first c) (ltb c (first + count)) held in
    (leb-true first c parts.0, ltb-true c (first + count) parts.1)

module _ (c : ℕ) where
  -- 0 to 9
  pub number_value : 0x30 ≤ c → c < 0x3A → digit_value c ≡ c - 0x30
  unfolding digit_value
  number_value h l = chosen _ _ _ (inside 0x30 10 c h l)

  -- A to F
  pub capital_value : 0x41 ≤ c → c < 0x47 → digit_value c ≡ c - 0x41 + 10
  unfolding digit_value
  capital_value h l = passed _ _ _ (above 0x30 10 c (omega arith)) ∙ chosen _ _ _ (inside 0x41 6 c h l)

  -- a to f
  pub small_value : 0x61 ≤ c → c < 0x67 → digit_value c ≡ c - 0x61 + 10
  unfolding digit_value
  small_value h l =
      passed _ _ _ (above 0x30 10 c (omega arith)) ∙ passed _ _ _ (above 0x41 6 c (omega arith)) ∙ chosen _ _ _ (inside 0x61 6 c h l)

  -- a character is one of these, or no digit
  pub by_kind {ℓ} : {P : Type ℓ}
      → (0x30 ≤ c → c < 0x3A → digit_value c ≡ c - 0x30 → P)
      → (0x41 ≤ c → c < 0x47 → digit_value c ≡ c - 0x41 + 10 → P)
      → (0x61 ≤ c → c < 0x67 → digit_value c ≡ c - 0x61 + 10 → P)
      → (within 0x30 10 c ≡ false → within 0x41 6 c ≡ false → within 0x61 6 c ≡ false → digit_value c ≡ 16 → P)
      → P
  unfolding digit_value
  by_kind number capital small none =
      by_test (within 0x30 10 c)
      (λ e. let b = bounds 0x30 10 c e in number b.0 b.1 (number_value b.0 b.1))
      (λ n. by_test (within 0x41 6 c)
      (λ e. let b = bounds 0x41 6 c e in capital b.0 b.1 (capital_value b.0 b.1))
      (λ k. by_test (within 0x61 6 c)
      (λ e. let b = bounds 0x61 6 c e in small b.0 b.1 (small_value b.0 b.1))
      (λ s. none n k s (passed _ _ _ n ∙ passed _ _ _ k ∙ passed _ _ _ s))))

  pub no_digit : (0x30 ≤ c → c < 0x3A → ⊥) → (0x41 ≤ c → c < 0x47 → ⊥) → (0x61 ≤ c → c < 0x67 → ⊥) → digit_value c ≡ 16
  no_digit number capital small =
      by_kind (λ h l v. absurd (number h l)) (λ h l v. absurd (capital h l)) (λ h l v. absurd (small h l)) (λ n k s v. v)

  -- a digit is one of the three
  pub by_digit {ℓ} : {P : Type ℓ} → is_digit 16 c ≡ true
      → (0x30 ≤ c → c < 0x3A → digit_value c ≡ c - 0x30 → P)
      → (0x41 ≤ c → c < 0x47 → digit_value c ≡ c - 0x41 + 10 → P)
      → (0x61 ≤ c → c < 0x67 → digit_value c ≡ c - 0x61 + 10 → P)
      → P
  by_digit d number capital small =
      by_kind number capital small (λ n k s v. absurd (omega (arith, ltb-true (digit_value c) 16 d)))

  -- a digit's value is below the base
  pub value_small : (base : ℕ) → is_digit base c ≡ true → digit_value c < base
  value_small base d = ltb-true _ _ d

  pub known_digit : (v : ℕ) → digit_value c ≡ v → v < 16 → is_digit 16 c ≡ true
  known_digit v e l = lt-ltb (digit_value c) 16 (omega arith)

-- the digit of a value: a number below 10, a letter from there on
pub digit_number : (v : ℕ) → v < 10 → digit_of v ≡ 0x30 + v
unfolding digit_of
digit_number v l = chosen _ _ _ (lt-ltb v 10 l)

pub digit_letter : (v : ℕ) → 10 ≤ v → digit_of v ≡ 0x41 + (v - 10)
unfolding digit_of
digit_letter v l = passed _ _ _ (le-ltb v 10 l)

pub by_value {ℓ} : {P : Type ℓ} (v : ℕ) → (v < 10 → digit_of v ≡ 0x30 + v → P) → (10 ≤ v → digit_of v ≡ 0x41 + (v - 10) → P) → P
by_value {P = P} v number letter = go (dec_lt v 10)
  where
    go : Dec (v < 10) → P
    go (yes l) = number l (digit_number v l)
    go (no l) = letter (omega arith) (digit_letter v (omega arith))

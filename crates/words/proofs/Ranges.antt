-- Whether a place lies in a range, from the order of the numbers. Each law takes the two tests of the definition.
use Prim.Native.Nat.{ℕ, ◌+◌, ◌-◌, ◌≤◌, ◌<◌}
use mathlib.Core.Bool.{Bool, true, false, ◌&&◌, and-false}
use mathlib.Core.Path.{◌≡◌, ap, ap₂, ◌∙◌}
use native.Mathlib.Decide.{dec_lt}
use native.Mathlib.Omega.{arith}
use lib.Dec.{leb, ltb}
use borrow.Author.Tests.{lt-ltb, le-ltb, le-leb, lt-leb}
use Rattle.words.specs.rules.Bits.{within}

module _ (s n k : ℕ) where
  pub inside : s ≤ k → k < s + n → within s n k ≡ true
  unfolding within
  inside h l = ap₂ ◌&&◌ (le-leb _ _ h) (lt-ltb _ _ l)

  pub below : k < s → within s n k ≡ false
  unfolding within
  below h = ap (λ (t : Bool). t && ltb k (s + n)) (lt-leb _ _ h)

  pub above : s + n ≤ k → within s n k ≡ false
  unfolding within
  above h = ap (λ (t : Bool). leb s k && t) (le-ltb _ _ h) ∙ and-false (leb s k)

-- a place lies below a range, at one of its places, or above it
pub by_range {ℓ} : {P : Type ℓ} (s n k : ℕ) → (k < s → P) → ((j : ℕ) → j < n → k ≡ s + j → P) → ((j : ℕ) → k ≡ s + n + j → P) → P
by_range {P = P} s n k low mid high = go (dec_lt k s) (dec_lt k (s + n))
  where
    go : Dec (k < s) → Dec (k < s + n) → P
    go (yes h) e = low h
    go (no h) (yes l) = mid (k - s) (omega arith) (omega arith)
    go (no h) (no l) = high (k - (s + n)) (omega arith)

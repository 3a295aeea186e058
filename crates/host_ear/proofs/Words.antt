-- A word that its bytes make again.
use Prim.Native.Nat.{ℕ, ◌+◌, ◌*◌, ◌/◌, ◌%◌, ◌^◌, ◌<◌}
use mathlib.Core.List.{[], ◌∷◌}
use mathlib.Core.Path.{◌≡◌, ap, ◌∙◌}
use native.Mathlib.Omega.{arith}
use Rattle.words.specs.rules.Bits.{join}
use Rattle.words.specs.rules.Bytes.{byte, number}

-- the number of a word's bytes is the word: from each byte on it is what lies above the bytes below
pub word_again : (w : ℕ) → w < 2 ^ 32 → number (byte w 0 ∷ byte w 1 ∷ byte w 2 ∷ byte w 3 ∷ []) ≡ w
unfolding number join byte
word_again w h =
    ap (λ (rest : ℕ). rest * 2 ^ 8 + w / 2 ^ (8 * 0) % 256 % 2 ^ 8)
    (ap (λ (rest : ℕ). rest * 2 ^ 8 + w / 2 ^ (8 * 1) % 256 % 2 ^ 8)
    (ap (λ (rest : ℕ). rest * 2 ^ 8 + w / 2 ^ (8 * 2) % 256 % 2 ^ 8) fourth ∙ third) ∙ second)
    ∙ first
  where
    fourth : 0 * 2 ^ 8 + w / 2 ^ (8 * 3) % 256 % 2 ^ 8 ≡ w / 2 ^ 24
    fourth = omega arith

    third : w / 2 ^ 24 * 2 ^ 8 + w / 2 ^ (8 * 2) % 256 % 2 ^ 8 ≡ w / 2 ^ 16
    third = omega arith

    second : w / 2 ^ 16 * 2 ^ 8 + w / 2 ^ (8 * 1) % 256 % 2 ^ 8 ≡ w / 2 ^ 8
    second = omega arith

    first : w / 2 ^ 8 * 2 ^ 8 + w / 2 ^ (8 * 0) % 256 % 2 ^ 8 ≡ w
    first = omega arith

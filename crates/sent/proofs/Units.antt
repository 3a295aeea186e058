-- Halves lent as bytes: half as many as the bytes, and each is two of them, the low one first.
use Prim.Native.Nat.{ℕ, zero, suc, ◌+◌, ◌*◌, ◌/◌, ◌^◌, ◌<◌}
use mathlib.Core.List.{List, [], ◌∷◌}
use mathlib.Core.Path.{◌≡◌, refl, sym, ap₂, ◌∙◌}
use native.Mathlib.Omega.{arith}
use lib.ListN.{length, get_or}
use Rattle.sent.specs.rules.Bus.{halves_of}

pub halves_count : (bytes : List ℕ) → length (halves_of bytes) ≡ length bytes / 2
unfolding halves_of
halves_count [] = refl
halves_count (low ∷ []) = refl
halves_count (low ∷ high ∷ bytes) = omega (arith, halves_count bytes)

pub half_at : (bytes : List ℕ) (i : ℕ) → i < length (halves_of bytes) → get_or (halves_of bytes) i 0
    ≡ get_or bytes (2 * i) 0 + get_or bytes (2 * i + 1) 0 * 2 ^ 8
unfolding halves_of
half_at [] i h = absurd (omega arith)
half_at (low ∷ []) i h = absurd (omega arith)
half_at (low ∷ high ∷ bytes) zero h = refl
half_at (low ∷ high ∷ bytes) (suc i) h =
    let first : 2 * suc i ≡ suc (suc (2 * i)) = omega arith in
    let second : 2 * suc i + 1 ≡ suc (suc (2 * i + 1)) = omega arith in
    half_at bytes i (omega arith) ∙ sym (ap₂ (λ (j k : ℕ). get_or (low ∷ high ∷ bytes) j 0 + get_or (low ∷ high ∷ bytes) k 0 * 2 ^ 8) first second)

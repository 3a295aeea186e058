-- Bytes and the number that they make. Each law is one step of the definition, or follows by induction over the list.
use Prim.Native.Nat.{ℕ, zero, suc, ◌+◌, ◌-◌, ◌*◌, ◌/◌, ◌%◌, ◌^◌, ◌<◌}
use mathlib.Core.Path.{◌≡◌, refl, sym, ap, ◌∙◌}
use mathlib.Core.List.{List, [], ◌∷◌}
use native.Mathlib.Nat.{mod-eq_of_lt, zero-div}
use native.Mathlib.Omega.{arith}
use lib.ListN.{length, get_or, take, drop, length-drop}
use lib.Pow.{shr-shr}
use lib.Seq.{take_all}
use Rattle.words.specs.rules.Bits.{join}
use Rattle.words.specs.rules.Bytes.{byte, number}
use Rattle.words.proofs.Joins.{join_low, join_high}

-- the first four bytes, one by one; those that are missing count as 0
pub first_four : (s : List ℕ) → number (get_or s 0 0 ∷ get_or s 1 0 ∷ get_or s 2 0 ∷ get_or s 3 0 ∷ []) ≡ number (take 4 s)
unfolding number join
first_four [] = refl
first_four (a ∷ []) = refl
first_four (a ∷ b ∷ []) = refl
first_four (a ∷ b ∷ c ∷ []) = refl
first_four (a ∷ b ∷ c ∷ d ∷ s) = refl

-- the part of a slice from a place on is what is left of its list
pub from_place : (s : List ℕ) (at : ℕ) → take (length s - at) (drop at s) ≡ drop at s
from_place s at = take_all (length s - at) (drop at s) (simp length-drop (omega arith))

-- the bytes of the number that bytes make are these
pub byte_number : (bs : List ℕ) → ((i : ℕ) → get_or bs i 0 < 256) → (i : ℕ) → byte (number bs) i ≡ get_or bs i 0
unfolding byte number
byte_number [] small i = ap (λ (x : ℕ). x % 256) (zero-div (2 ^ (8 * i)))
byte_number (b ∷ bs) small zero =
    let first : byte (join 8 b (number bs)) 0 ≡ join 8 b (number bs) % 2 ^ 8 = omega arith in
    first ∙ join_low 8 b (number bs) ∙ mod-eq_of_lt (small 0)
byte_number (b ∷ bs) small (suc i) =
    let next : 8 * suc i ≡ 8 + 8 * i = omega arith in
    ap (λ (k : ℕ). join 8 b (number bs) / 2 ^ k % 256) next
    ∙ ap (λ (x : ℕ). x % 256) (sym (shr-shr (join 8 b (number bs)) 8 (8 * i)))
    ∙ ap (λ (x : ℕ). x / 2 ^ (8 * i) % 256) (join_high 8 b (number bs))
    ∙ byte_number bs (λ j. small (suc j)) i

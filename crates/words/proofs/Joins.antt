-- Bits of a number that is joined of two, and of one with a field put into it. All of it rests on one division by a power of two.
use Prim.Native.Nat.{ℕ, ◌+◌, ◌-◌, ◌/◌, ◌%◌, ◌^◌, ◌≤◌, ◌<◌}
use mathlib.Core.Path.{◌≡◌, sym, ap, subst, ◌∙◌}
use native.Mathlib.Nat.{div-eq_of_lt, lt_of_lt_of_le, mod-lt}
use native.Mathlib.Omega.{arith}
use lib.Pow.{pow_pos, pow_mono, pow-add, shr_lt, shr-shr, high, low, field, mod-mod-pow}
use lib.Arith.{digits_lt}
use Rattle.words.specs.rules.Bits.{bit, join, with_field}

-- a number has nothing at or above a power of two that it is below
pub past : {v k j : ℕ} → v < 2 ^ k → k ≤ j → v / 2 ^ j ≡ 0
past h l = div-eq_of_lt (lt_of_lt_of_le h (pow_mono l))

pub bit_past : {v k j : ℕ} → v < 2 ^ k → k ≤ j → bit v j ≡ 0
unfolding bit
bit_past h l = ap (λ (x : ℕ). x % 2) (past h l)

-- a shift moves the bits down
pub bit_shifted : (n s k : ℕ) → bit (n / 2 ^ s) k ≡ bit n (s + k)
unfolding bit
bit_shifted n s k = ap (λ (x : ℕ). x % 2) (shr-shr n s k)

-- a remainder by a power of two keeps the bits below it
pub bit_low : (n s k : ℕ) → k < s → bit (n % 2 ^ s) k ≡ bit n k
unfolding bit
bit_low n s k h =
    let e : s ≡ (s - (k + 1) + 1) + k = omega arith in
    ap (λ (x : ℕ). n % 2 ^ x / 2 ^ k % 2) e
    ∙ ap (λ (x : ℕ). x % 2) (field n (s - (k + 1) + 1) k)
    ∙ mod-mod-pow (n / 2 ^ k) (s - (k + 1)) 1

pub join_low : (s a b : ℕ) → join s a b % 2 ^ s ≡ a % 2 ^ s
unfolding join
join_low s a b = low b s (mod-lt a (pow_pos s))

pub join_high : (s a b : ℕ) → join s a b / 2 ^ s ≡ b
unfolding join
join_high s a b = high b s (mod-lt a (pow_pos s))

pub join_lt : (s t a : ℕ) {b : ℕ} → b < 2 ^ t → join s a b < 2 ^ (t + s)
unfolding join
join_lt s t a h = rw (pow-add 2 t s) (digits_lt h (mod-lt a (pow_pos s)))

pub bit_join_low : (s a b k : ℕ) → k < s → bit (join s a b) k ≡ bit a k
bit_join_low s a b k h = sym (bit_low (join s a b) s k h) ∙ ap (λ (x : ℕ). bit x k) (join_low s a b) ∙ bit_low a s k h

pub bit_join_high : (s a b k : ℕ) → bit (join s a b) (s + k) ≡ bit b k
bit_join_high s a b k = sym (bit_shifted (join s a b) s k) ∙ ap (λ (x : ℕ). bit x k) (join_high s a b)

-- the field and what stands above it
pub above_lt : (t w s n d : ℕ) → w < 2 ^ t → s + n ≤ t → join n d (w / 2 ^ (s + n)) < 2 ^ (t - s)
above_lt t w s n d h l =
    let whole : (t - (s + n)) + (s + n) ≡ t = omega arith in
    let part : (t - (s + n)) + n ≡ t - s = omega arith in
    rw (← part) (join_lt n (t - (s + n)) d (shr_lt (t - (s + n)) (s + n) (rw whole h)))

-- a word with a field put into it is below every power of two that bounds the word and the field's end
pub with_field_lt : (t w s n d : ℕ) → w < 2 ^ t → s + n ≤ t → with_field w s n d < 2 ^ t
unfolding with_field
with_field_lt t w s n d h l =
    let whole : (t - s) + s ≡ t = omega arith in
    subst (λ (x : ℕ). join s w (join n d (w / 2 ^ (s + n))) < 2 ^ x) whole (join_lt s (t - s) w (above_lt t w s n d h l))

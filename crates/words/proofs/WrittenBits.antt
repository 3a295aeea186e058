-- What a write does to the bits of a list of bytes: those of its range are the ones written, every other bit is kept. A bit's place is taken
-- as a byte and a bit in it, and the laws of bytes and of joined numbers do the rest.
use Prim.Native.Nat.{ℕ, zero, suc, ◌+◌, ◌-◌, ◌*◌, ◌/◌, ◌%◌, ◌^◌, ◌≤◌, ◌<◌}
use mathlib.Core.List.{List, [], ◌∷◌}
use mathlib.Core.Logic.{◌≢◌}
use mathlib.Core.Path.{◌≡◌, sym, ap, ap₂, ◌∙◌}
use native.Mathlib.Nat.{zero-div, add_assoc, add-sub_cancel_left}
use native.Mathlib.Omega.{arith}
use lib.ListN.{length, get_or, take, drop}
use lib.Seq.{get_or-take, get_or-drop}
use Rattle.words.specs.rules.Bits.{bit, with_field, within}
use Rattle.words.specs.rules.Bytes.{byte, number, bytes_at, put, bit_at}
use Rattle.words.specs.rules.Choice.{pick}
use Rattle.words.proofs.Choice.{chosen, passed}
use Rattle.words.proofs.Joins.{bit_shifted, bit_low, bit_join_low, bit_join_high}
use Rattle.words.proofs.Puts.{put_inside, put_outside}
use Rattle.words.proofs.Ranges.{inside, below, above, by_range}

-- a bit of a byte of a number
pub bit_byte : (v i j : ℕ) → j < 8 → bit (byte v i) j ≡ bit v (8 * i + j)
unfolding byte
bit_byte v i j h = bit_low (v / 2 ^ (8 * i)) 8 j h ∙ bit_shifted v (8 * i) j

bit_none : (k : ℕ) → bit 0 k ≡ 0
unfolding bit
bit_none k = ap (λ (x : ℕ). x % 2) (zero-div (2 ^ k))

-- a bit of the number that bytes make
pub bit_number : (bs : List ℕ) (i j : ℕ) → j < 8 → bit (number bs) (8 * i + j) ≡ bit (get_or bs i 0) j
unfolding number
bit_number [] i j h = bit_none (8 * i + j) ∙ sym (bit_none j)
bit_number (b ∷ bs) zero j h = rw (zero_place j) (bit_join_low 8 b (number bs) j h)
  where
    zero_place : (j : ℕ) → 8 * 0 + j ≡ j
    zero_place j = omega arith
bit_number (b ∷ bs) (suc i) j h = rw (next_place i j) (bit_join_high 8 b (number bs) (8 * i + j) ∙ bit_number bs i j h)
  where
    next_place : (i j : ℕ) → 8 * suc i + j ≡ 8 + (8 * i + j)
    next_place i j = omega arith

-- a bit of a word with a field put into it
pub bit_field : (w s n d k : ℕ) → bit (with_field w s n d) k ≡ pick (within s n k) (bit d (k - s)) (bit w k)
unfolding with_field
bit_field w s n d k =
    by_range s n k
    (λ h. bit_join_low s w _ k h ∙ sym (passed _ _ _ (below s n k h)))
    (λ j h e. rw e
    (bit_join_high s w _ j ∙ bit_join_low n d _ j h
    ∙ sym (chosen _ _ _ (inside s n (s + j) (omega arith) (omega arith)) ∙ ap (bit d) (add-sub_cancel_left s j))))
    (λ j e. rw (e, add_assoc s n j)
    (bit_join_high s w _ (n + j) ∙ bit_join_high n d _ j ∙ bit_shifted w (s + n) j
    ∙ ap (bit w) (add_assoc s n j)
    ∙ sym (passed _ _ _ (above s n (s + (n + j)) (omega arith)))))

-- a bit whose byte is not written is kept
bit_kept : (m : List ℕ) (at n : ℕ) (f : ℕ → ℕ) (p : ℕ) → ((j : ℕ) → j < n → p / 8 ≢ at + j) → bit_at (put m at n f) p ≡ bit_at m p
unfolding bit_at
bit_kept m at n f p out = ap (λ (b : ℕ). bit b (p % 8)) (put_outside m at n f (p / 8) out)

-- a bit of the bytes written, one byte after the other
pub bit_put : (m : List ℕ) (at n : ℕ) (f : ℕ → ℕ) (p : ℕ) → p < 8 * length m
    → bit_at (put m at n f) p ≡ pick (within (8 * at) (8 * n) p) (bit (f ((p - 8 * at) / 8)) ((p - 8 * at) % 8)) (bit_at m p)
unfolding bit_at
bit_put m at n f p l =
    by_range (8 * at) (8 * n) p
    (λ h. bit_kept m at n f p (λ j k. omega arith) ∙ sym (passed _ _ _ (below _ _ p h)))
    (λ j h e.
    let place : p / 8 ≡ at + (p - 8 * at) / 8 = omega arith in
    let rest : p % 8 ≡ (p - 8 * at) % 8 = omega arith in
    ap₂ bit (ap (λ (k : ℕ). get_or (put m at n f) k 0) place ∙ put_inside m at n f _ (omega arith) (omega arith)) rest
    ∙ sym (chosen _ _ _ (inside _ _ p (omega arith) (omega arith))))
    (λ j e. bit_kept m at n f p (λ j k. omega arith) ∙ sym (passed _ _ _ (above _ _ p (omega arith))))

-- a bit of a unit read from a list
pub bit_unit : (m : List ℕ) (at u k : ℕ) → k < 8 * u → bit (number (bytes_at m at u)) k ≡ bit_at m (8 * at + k)
unfolding bytes_at bit_at
bit_unit m at u k h =
    let parts : k ≡ 8 * (k / 8) + k % 8 = omega arith in
    let place : at + k / 8 ≡ (8 * at + k) / 8 = omega arith in
    let rest : k % 8 ≡ (8 * at + k) % 8 = omega arith in
    ap (bit (number (take u (drop at m)))) parts
    ∙ bit_number (take u (drop at m)) (k / 8) (k % 8) (omega arith)
    ∙ ap₂ (λ (b j : ℕ). bit b j)
    (get_or-take u (drop at m) (k / 8) 0 (omega arith) ∙ get_or-drop at m (k / 8) 0 ∙ ap (λ (i : ℕ). get_or m i 0) place) rest

-- a range and a place in it, both moved by the same distance
within_moved : (a s n k : ℕ) → within s n k ≡ within (a + s) n (a + k)
within_moved a s n k =
    by_range s n k
    (λ h. below s n k h ∙ sym (below _ n _ (omega arith)))
    (λ j h e. inside s n k (omega arith) (omega arith) ∙ sym (inside _ n _ (omega arith) (omega arith)))
    (λ j e. above s n k (omega arith) ∙ sym (above _ n _ (omega arith)))

-- a bit after the n bits from s on of the unit at a place were taken from d: only these are written
pub bit_written : (m : List ℕ) (at u s n d p : ℕ) → at + u ≤ length m → s + n ≤ 8 * u → p < 8 * length m
    → bit_at (put m at u (byte (with_field (number (bytes_at m at u)) s n d))) p
    ≡ pick (within (8 * at + s) n p) (bit d (p - (8 * at + s))) (bit_at m p)
bit_written m at u s n d p fit lie l =
    by_range (8 * at) (8 * u) p
    (λ h. bit_kept m at u _ p (λ j k. omega arith) ∙ sym (passed _ _ _ (below _ n p (omega arith))))
    (λ k h e.
    let word : ℕ = with_field (number (bytes_at m at u)) s n d in
    let parts : 8 * ((p - 8 * at) / 8) + (p - 8 * at) % 8 ≡ k = omega arith in
    let back : k - s ≡ p - (8 * at + s) = omega arith in
    bit_put m at u (byte word) p l
    ∙ chosen _ _ _ (inside _ _ p (omega arith) (omega arith))
    ∙ bit_byte word ((p - 8 * at) / 8) ((p - 8 * at) % 8) (omega arith)
    ∙ ap (bit word) parts
    ∙ bit_field (number (bytes_at m at u)) s n d k
    ∙ rw (within_moved (8 * at) s n k, back, bit_unit m at u k h, ← e))
    (λ j e. bit_kept m at u _ p (λ j k. omega arith) ∙ sym (passed _ _ _ (above _ n p (omega arith))))

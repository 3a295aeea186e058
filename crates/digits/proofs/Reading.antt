-- What is read of a text of digits. The digits that are left lead on from the number that was made so far, by the character at their front.
use Prim.Native.Nat.{ℕ, zero, suc, ◌+◌, ◌*◌, ◌^◌, ◌≤◌, ◌<◌}
use mathlib.Core.Bool.{Bool, true, ◌&&◌, and-false}
use mathlib.Core.List.{List, ◌∷◌}
use mathlib.Core.Path.{◌≡◌, refl, sym, ap₂, ◌∙◌}
use native.Mathlib.Nat.{add-mul, mul_assoc, add_assoc, pow-succ', pow-zero, le_trans, le-mul_of_pos_right}
use native.Mathlib.Numerals.{add-one}
use native.Mathlib.Omega.{arith}
use borrow.Author.Tests.{lt-ltb, le-ltb, ltb-true, leb-true, le-leb, lt-leb}
use lib.Dec.{ltb, leb}
use lib.ListN.{length, get_or, drop, drop_of_length-le}
use lib.Seq.{drop-cons}
use Rattle.words.proofs.Choice.{chosen, passed, by_test, both, refuted}
use Rattle.digits.specs.rules.Digits.{digit_value}
use Rattle.digits.specs.rules.Numbers.{are_digits, number_of, number_if, number_up_to, is_marked}
use Rattle.std.specs.Prelude.{Option, Some, None}

-- a number by its test
pub number_held : (t : Bool) (n : ℕ) → t ≡ true → Some n ≡ number_if t n
number_held t n e = sym (chosen t _ _ e)

pub number_refuted : (t : Bool) (n : ℕ) → (t ≡ true → ⊥) → None ≡ number_if t n
number_refuted t n never = sym (passed t _ _ (sym (refuted t never)))

-- the number that digits make behind those that made v
abbrev behind : ℕ → ℕ → List ℕ → ℕ
behind base v s = v * base ^ length s + number_of base s

-- and what is read of them
unfoldable pub read_behind : ℕ → ℕ → ℕ → List ℕ → Option ℕ
read_behind base most v s = number_if (are_digits base s && leb (behind base v s) most) (behind base v s)

-- nothing is made so far
pub number_begins : (base most : ℕ) (s : List ℕ) → (length s ≡ 0 → ⊥) → read_behind base most 0 s ≡ number_up_to base most s
unfolding read_behind number_up_to
number_begins base most s some =
    let long : 0 < length s = omega arith in
    let none : behind base 0 s ≡ number_of base s = omega arith in
    rw (none, lt-ltb _ _ long)

pub number_empty : (base most : ℕ) (s : List ℕ) → length s ≡ 0 → None ≡ number_up_to base most s
unfolding number_up_to
number_empty base most s e =
    number_refuted _ _ (λ held. let some = ltb-true 0 (length s) (both _ _ (both _ _ held).0).0 in omega arith)

-- a power is never 0
power_some : (base : ℕ) → 1 ≤ base → (k : ℕ) → 1 ≤ base ^ k
power_some base some zero = rw (pow-zero base) (omega arith)
power_some base some (suc k) = rw pow-succ' (le_trans some (le-mul_of_pos_right base (power_some base some k)))

-- a number that is too large stays so
pub number_large : (base : ℕ) → 1 ≤ base → (most v : ℕ) (s : List ℕ) → most < v → None ≡ read_behind base most v s
unfolding read_behind
number_large base some most v s h =
    let more : v ≤ v * base ^ length s = le-mul_of_pos_right v (power_some base some (length s)) in
    let above : most < behind base v s = omega (arith, more) in
    sym (passed _ _ _ (rw (lt-leb _ _ above, and-false)))

-- none left: the number is made
pub number_made : (base most v : ℕ) (s : List ℕ) (i : ℕ) → length s ≤ i → v ≤ most → Some v ≡ read_behind base most v (drop i s)
unfolding read_behind are_digits number_of
number_made base most v s i h small =
    let whole : v * base ^ 0 + 0 ≡ v = rw (pow-zero base) (omega arith) in
    rw (drop_of_length-le s h) (rw whole (sym (chosen _ _ _ (le-leb _ _ small))))

module _ (base most v : ℕ) (s : List ℕ) (i : ℕ) (h : i < length s) where
  front : drop i s ≡ get_or s i 0 ∷ drop (i + 1) s
  front = rw (add-one, drop-cons s i 0)

  -- one digit more
  behind_next : (c : ℕ) (cs : List ℕ) → behind base (v * base + digit_value c) cs ≡ behind base v (c ∷ cs)
  unfolding number_of
  behind_next c cs = rw (pow-succ', add-mul, mul_assoc, add_assoc)

  module _ (d : ℕ) (worth : d ≡ digit_value (get_or s i 0)) where
    pub number_next : d < base → read_behind base most (v * base + d) (drop (i + 1) s) ≡ read_behind base most v (drop i s)
    unfolding read_behind are_digits
    number_next small =
        let digit : digit_value (get_or s i 0) < base = omega arith in
        rw (worth, front) (rw (lt-ltb _ _ digit, behind_next (get_or s i 0) (drop (i + 1) s)))

    pub number_wrong : base ≤ d → None ≡ read_behind base most v (drop i s)
    unfolding read_behind are_digits
    number_wrong large =
        let strange : base ≤ digit_value (get_or s i 0) = omega arith in
        rw front (rw (le-ltb _ _ strange) (sym (passed _ _ _ refl)))

module _ (base most : ℕ) (s : List ℕ) where
  -- what a number that was read says of its digits
  pub record Made (n : ℕ) : Type 0 where
    pub some : 0 < length s
    pub digits : are_digits base s ≡ true
    pub small : number_of base s ≤ most
    pub is : number_of base s ≡ n

  pub made : (n : ℕ) → Some n ≡ number_up_to base most s → Made n
  unfolding number_up_to
  made n e =
      by_test (ltb 0 (length s) && are_digits base s && leb (number_of base s) most)
      (λ held.
      let parts = both _ _ held in
      let form = both _ _ parts.0 in
      let is : Some n ≡ Some (number_of base s) = e ∙ chosen _ _ _ held in
      record { some = ltb-true _ _ form.0; digits = form.1; small = leb-true _ _ parts.1; is = cc })
      (λ failed.
      let none : Some n ≡ None = e ∙ passed _ _ _ failed in
      absurd (let z : ◌≡◌ {A = ℕ} 0 1 = cc in omega arith))

  -- and one that was not
  pub not_made : None ≡ number_up_to base most s → 0 < length s → are_digits base s ≡ true → number_of base s ≤ most → ⊥
  unfolding number_up_to
  not_made e some digits small =
      let all = ap₂ ◌&&◌ (ap₂ ◌&&◌ (lt-ltb _ _ some) digits) (le-leb _ _ small) in
      let is : None ≡ Some (number_of base s) = e ∙ chosen _ _ _ all in
      let z : ◌≡◌ {A = ℕ} 0 1 = cc in
      omega arith

-- where 0x stands before the digits, two characters are there
pub marked_long : (s : List ℕ) → is_marked s ≡ true → 1 < length s
unfolding is_marked
marked_long s e = ltb-true 1 (length s) (both _ _ (both _ _ e).0).0

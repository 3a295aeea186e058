-- Texts of digits and the numbers that they make: each by induction over the text.
use Prim.Native.Nat.{ℕ, zero, suc, ◌+◌, ◌*◌, ◌^◌, ◌<◌}
use mathlib.Core.Bool.{true, ◌&&◌}
use mathlib.Core.List.{List, [], ◌∷◌, ◌++◌}
use mathlib.Core.Path.{◌≡◌, refl, ap₂}
use native.Mathlib.Nat.{add-mul, mul_assoc, add_assoc, pow-succ', pow-zero}
use native.Mathlib.Omega.{arith}
use lib.Arith.{digits_lt}
use lib.ListN.{length, get_or, take, drop, length-append}
use lib.Pow.{pow-add}
use Rattle.words.proofs.Choice.{both}
use Rattle.digits.specs.rules.Digits.{is_digit}
use Rattle.digits.specs.rules.Numbers.{are_digits, number_of}
use Rattle.digits.proofs.Digits.{value_small}

module _ (base : ℕ) where
  -- each character of a text is a digit
  pub digit_in : (text : List ℕ) (i : ℕ) → are_digits base text ≡ true → i < length text → is_digit base (get_or text i 0) ≡ true
  unfolding are_digits
  digit_in [] i all h = absurd (omega arith)
  digit_in (c ∷ cs) zero all h = (both (is_digit base c) (are_digits base cs) all).0
  digit_in (c ∷ cs) (suc i) all h = digit_in cs i (both (is_digit base c) (are_digits base cs) all).1 (omega arith)

  -- what is left of a text, its beginning, and two texts in a row are digits too
  pub digits_drop : (n : ℕ) (text : List ℕ) → are_digits base text ≡ true → are_digits base (drop n text) ≡ true
  unfolding are_digits
  digits_drop zero text all = all
  digits_drop (suc n) [] all = refl
  digits_drop (suc n) (c ∷ cs) all = digits_drop n cs (both (is_digit base c) (are_digits base cs) all).1

  pub digits_take : (n : ℕ) (text : List ℕ) → are_digits base text ≡ true → are_digits base (take n text) ≡ true
  unfolding are_digits
  digits_take zero text all = refl
  digits_take (suc n) [] all = refl
  digits_take (suc n) (c ∷ cs) all =
      let parts = both (is_digit base c) (are_digits base cs) all in
      ap₂ ◌&&◌ parts.0 (digits_take n cs parts.1)

  pub digits_append : (front back : List ℕ) → are_digits base front ≡ true → are_digits base back ≡ true → are_digits base (front ++ back) ≡ true
  unfolding are_digits
  digits_append [] back all more = more
  digits_append (c ∷ front) back all more =
      let parts = both (is_digit base c) (are_digits base front) all in
      ap₂ ◌&&◌ parts.0 (digits_append front back parts.1 more)

  -- k digits of a base make a number below its k-th power
  pub number_lt : (cs : List ℕ) → are_digits base cs ≡ true → number_of base cs < base ^ length cs
  unfolding are_digits number_of
  number_lt [] all = rw (pow-zero base) (omega arith)
  number_lt (c ∷ cs) all =
      let parts = both (is_digit base c) (are_digits base cs) all in
      rw pow-succ' (digits_lt (value_small c base parts.0) (number_lt cs parts.1))

  -- the number of two texts in a row
  pub number_append : (front back : List ℕ) → number_of base (front ++ back) ≡ number_of base front * base ^ length back + number_of base back
  unfolding number_of
  number_append [] back = omega arith
  number_append (c ∷ front) back =
      rw (length-append front back, pow-add base (length front) (length back), number_append front back)
      (rw (add-mul, mul_assoc, add_assoc))

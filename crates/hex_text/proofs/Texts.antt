-- Texts of digits and the numbers of their parts: each from the parts that a text is put together of.
use Rattle.std.proofs.Common.{◌≡◌, ℕ, ◌+◌, ◌*◌, ◌^◌, ◌<◌, ◌≤◌, max, Bool, true, false, ◌&&◌, eqb, List, length, get_or, take, drop, sym, ap, ◌∙◌, arith}
use Rattle.std.proofs.Common.{[], ◌∷◌, length-take, ne_eqb}
use Rattle.std.proofs.Math.Nat.{pow-le-pow_right}
use Rattle.std.proofs.lemmas.List.{take_more}
use mathlib.Core.Bool.{and-false}
use Rattle.words.specs.rules.Bytes.{bytes_at}
use Rattle.words.specs.rules.Choice.{pick}
use Rattle.words.proofs.Choice.{chosen, passed, by_test}
use Rattle.digits.specs.rules.Digits.{digit_value, is_digit}
use Rattle.digits.specs.rules.Numbers.{number_of}
use Rattle.digits.proofs.Numbers.{digits_drop, digits_take, number_append, number_lt}
use Rattle.hex_text.specs.rules.Digits.{word_of}
use Rattle.hex_text.specs.rules.Text.{all_digits}

-- one character more is looked at
pub looked : (s c : ℕ) (rest : Bool) → (eqb s 0 && (is_digit 16 c && rest)) ≡ (eqb (max s (pick (is_digit 16 c) 0 1)) 0 && rest)
looked s c rest = by_test (is_digit 16 c) digit strange
  where
    digit : is_digit 16 c ≡ true → (eqb s 0 && (is_digit 16 c && rest)) ≡ (eqb (max s (pick (is_digit 16 c) 0 1)) 0 && rest)
    digit d =
        let kept : max s (pick (is_digit 16 c) 0 1) ≡ s = ap (max s) (chosen (is_digit 16 c) 0 1 d) ∙ omega arith in
        ap (λ (t : Bool). eqb s 0 && (t && rest)) d ∙ ap (λ (m : ℕ). eqb m 0 && rest) (sym kept)

    strange : is_digit 16 c ≡ false → (eqb s 0 && (is_digit 16 c && rest)) ≡ (eqb (max s (pick (is_digit 16 c) 0 1)) 0 && rest)
    strange d =
        let above : 0 < max s (pick (is_digit 16 c) 0 1) = rw (passed {A = ℕ} (is_digit 16 c) 0 1 d) (omega arith) in
        ap (λ (t : Bool). eqb s 0 && (t && rest)) d
        ∙ and-false (eqb s 0)
        ∙ ap (λ (t : Bool). t && rest) (sym (ne_eqb (max s (pick (is_digit 16 c) 0 1)) 0 (λ z. omega arith)))

pub digits_part : (text : List ℕ) (at n : ℕ) → all_digits text ≡ true → all_digits (bytes_at text at n) ≡ true
unfolding bytes_at
digits_part text at n all = digits_take 16 n (drop at text) (digits_drop 16 at text all)

-- one digit more is sixteen times the number so far and its value
pub digit_more : (digits : List ℕ) (i : ℕ) → i < length digits
    → word_of (take (i + 1) digits) ≡ 16 * word_of (take i digits) + digit_value (get_or digits i 0)
unfolding number_of
digit_more digits i h =
    ap word_of (take_more digits i 0 h)
    ∙ number_append 16 (take i digits) (get_or digits i 0 ∷ [])
    ∙ omega arith

-- fewer than eight digits leave room for one more in a word
pub digits_fit : (digits : List ℕ) (i : ℕ) → all_digits digits ≡ true → i < 8 → 16 * word_of (take i digits) + 16 ≤ 2 ^ 32
digits_fit digits i all h =
    let below = number_lt 16 (take i digits) (digits_take 16 i digits all) in
    let few : length (take i digits) ≤ 7 = simp length-take (omega arith) in
    let most = pow-le-pow_right {n = 16} (omega arith) few in
    omega arith

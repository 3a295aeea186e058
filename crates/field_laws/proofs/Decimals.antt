-- A number is written in one way: what is written for it is a decimal that makes it, and two decimals that make one number have as many digits, for a first
-- digit that is not 0 sets the least number, and the same digits.
use Prim.Native.Nat.{ℕ, zero, suc, ◌+◌, ◌*◌, ◌/◌, ◌%◌, ◌^◌, ◌≤◌, ◌<◌}
use Prim.Native.Char.{code}
use mathlib.Core.Bool.{Bool, true, not, ◌&&◌, and-false, true≢false}
use mathlib.Core.List.{List, [], ◌∷◌, map}
use mathlib.Core.Path.{◌≡◌, refl, sym, ap, ap₂, ◌∙◌}
use native.Mathlib.Nat.{add_left_cancel, pow-suc, pow-zero, pow-le-pow_right, mod-lt, mul_comm, le-mul_of_pos_right}
use native.Mathlib.Omega.{arith}
use borrow.Author.Tests.{ltb-true, ltb-false, lt-ltb, le-ltb, eq-eqb, ne_eqb, not-true, leb-true, leb-false}
use lib.Arith.{digits_div}
use lib.Dec.{ltb, leb, eqb, lit<}
use lib.ListN.{length, get_or, length-append, get_or-append}
use Rattle.words.proofs.Choice.{chosen, by_test, both, of_choice}
use Rattle.digits.specs.rules.Digits.{digit_value, is_digit, digit_of}
use Rattle.digits.specs.rules.Numbers.{are_digits, number_of}
use Rattle.digits.proofs.Digits.{by_digit, value_small, digit_number}
use Rattle.digits.proofs.Numbers.{digits_append, number_append, number_lt}
use Rattle.hex_text.proofs.Back.{value_back}
use Rattle.field_lines.specs.rules.Text.{zero_leads, is_decimal}
use Rattle.field_laws.specs.claims.WellFormed.{decimal, written}

-- digits of one base that make one number, as many of them, have the same values
pub same_values : (base : ℕ) (a b : List ℕ) → length a ≡ length b → are_digits base a ≡ true → are_digits base b ≡ true
    → number_of base a ≡ number_of base b → map digit_value a ≡ map digit_value b
unfolding are_digits number_of
same_values base [] [] long all more e = refl
same_values base [] (d ∷ b) long all more e = absurd (omega arith)
same_values base (c ∷ a) [] long all more e = absurd (omega arith)
same_values base (c ∷ a) (d ∷ b) long all more e =
    let left = both (is_digit base c) (are_digits base a) all in
    let right = both (is_digit base d) (are_digits base b) more in
    let as_long : length a ≡ length b = omega arith in
    let power : ℕ = base ^ length a in
    let low : number_of base a < power = number_lt base a left.1 in
    let low-too : number_of base b < power = rw as_long (number_lt base b right.1) in
    let whole : digit_value c * power + number_of base a ≡ digit_value d * power + number_of base b =
    e ∙ ap (λ (k : ℕ). digit_value d * base ^ k + number_of base b) (sym as_long) in
    let first : digit_value c ≡ digit_value d =
    sym (digits_div (digit_value c) low) ∙ ap (λ (n : ℕ). n / power) whole ∙ digits_div (digit_value d) low-too in
    let rest : number_of base a ≡ number_of base b =
    add_left_cancel (digit_value c * power) (whole ∙ ap (λ (v : ℕ). v * power + number_of base b) (sym first)) in
    ap₂ ◌∷◌ first (same_values base a b as_long left.1 right.1 rest)

-- a decimal digit stands as far above 0 as it is worth
digit_stands : (c : ℕ) → is_digit 10 c ≡ true → c ≡ digit_value c + 48
digit_stands c d =
    let below = value_small c 10 d in
    by_digit c (lt-ltb (digit_value c) 16 (omega arith)) (λ low high v. omega arith) (λ low high v. absurd (omega arith)) (λ low high v. absurd (omega arith))

same_digits : (a b : List ℕ) → are_digits 10 a ≡ true → are_digits 10 b ≡ true → map digit_value a ≡ map digit_value b → a ≡ b
unfolding are_digits
same_digits [] [] all more e = refl
same_digits [] (d ∷ b) all more e = absurd (let z : ◌≡◌ {A = ℕ} 0 1 = cc in omega arith)
same_digits (c ∷ a) [] all more e = absurd (let z : ◌≡◌ {A = ℕ} 0 1 = cc in omega arith)
same_digits (c ∷ a) (d ∷ b) all more e =
    let left = both (is_digit 10 c) (are_digits 10 a) all in
    let right = both (is_digit 10 d) (are_digits 10 b) more in
    let first : digit_value c ≡ digit_value d = cc in
    let rest : map digit_value a ≡ map digit_value b = cc in
    ap₂ ◌∷◌ (digit_stands c left.0 ∙ ap (λ (v : ℕ). v + 48) first ∙ sym (digit_stands d right.0)) (same_digits a b left.1 right.1 rest)

-- a decimal of two digits or more makes at least the power of its first digit
at_least : (s : List ℕ) → is_decimal s ≡ true → 1 < length s → 10 ^ length s ≤ number_of 10 s * 10
unfolding is_decimal zero_leads are_digits number_of
at_least [] e long = absurd (omega arith)
at_least (c ∷ cs) e long =
    let form = both (ltb 0 (length (c ∷ cs)) && are_digits 10 (c ∷ cs)) _ e in
    let digits = both (is_digit 10 c) (are_digits 10 cs) (both (ltb 0 (length (c ∷ cs))) _ form.0).1 in
    let first : c ≡ 48 → ⊥ = λ zero-first. true≢false
    (sym (ap₂ ◌&&◌ (lt-ltb 1 (length (c ∷ cs)) long) (eq-eqb c 48 zero-first)) ∙ not-true _ form.1) in
    let stands = digit_stands c digits.0 in
    let worth : 1 ≤ digit_value c =
    by_test (leb 1 (digit_value c)) (λ held. leb-true _ _ held) (λ failed. absurd (first (omega (arith, leb-false 1 (digit_value c) failed)))) in
    let power = pow-suc 10 (length cs) in
    let enough : 10 ^ length cs ≤ digit_value c * 10 ^ length cs = rw mul_comm (le-mul_of_pos_right (10 ^ length cs) worth) in
    omega arith

-- what the test for a decimal says
record Decimal (s : List ℕ) : Type 0 where
  pub some : 0 < length s
  pub digits : are_digits 10 s ≡ true
  pub below : number_of 10 s < 10 ^ length s

decimal_says : (s : List ℕ) → is_decimal s ≡ true → Decimal s
unfolding is_decimal
decimal_says s e =
    let form = both (ltb 0 (length s)) _ (both (ltb 0 (length s) && are_digits 10 s) _ e).0 in
    record { some = ltb-true _ _ form.0; digits = form.1; below = number_lt 10 s form.1 }

-- of two that make one number none is longer
no_longer : (a b : List ℕ) → is_decimal a ≡ true → is_decimal b ≡ true → number_of 10 a ≡ number_of 10 b → length a < length b → ⊥
no_longer a b e f same longer =
    let x = decimal_says a e in
    let least = at_least b f (omega (arith, x.some)) in
    let power = pow-suc 10 (length a) in
    let grows : 10 ^ suc (length a) ≤ 10 ^ length b = pow-le-pow_right (lit< tt) longer in
    omega (arith, x.below)

pub one_decimal : (a b : List ℕ) → is_decimal a ≡ true → is_decimal b ≡ true → number_of 10 a ≡ number_of 10 b → a ≡ b
one_decimal a b e f same =
    let long : length a ≡ length b =
    by_test (leb (suc (length a)) (length b)) (λ less. absurd (no_longer a b e f same (leb-true _ _ less)))
    (λ not-less.
    by_test (leb (suc (length b)) (length a)) (λ more. absurd (no_longer b a f e (sym same) (leb-true _ _ more)))
    (λ not_more. omega (arith, leb-false (suc (length a)) (length b) not-less, leb-false (suc (length b)) (length a) not_more))) in
    let x = decimal_says a e in
    let y = decimal_says b f in
    same_digits a b x.digits y.digits (same_values 10 a b long x.digits y.digits same)

-- what is written for a number: decimal digits
written_digits : (k n : ℕ) → are_digits 10 (decimal k n) ≡ true
unfolding decimal are_digits
written_digits zero n = refl
written_digits (suc k) n =
    of_choice (λ (s : List ℕ). are_digits 10 s ≡ true) (ltb n 10)
    (λ small. ap₂ ◌&&◌ (one_digit n (ltb-true _ _ small)) refl)
    (λ large.
    digits_append 10 (decimal k (n / 10)) (digit_of (n % 10) ∷ []) (written_digits k (n / 10))
    (ap₂ ◌&&◌ (one_digit (n % 10) (mod-lt n (lit< tt))) refl))
  where
    one_digit : (v : ℕ) → v < 10 → is_digit 10 (digit_of v) ≡ true
    one_digit v h = lt-ltb (digit_value (digit_of v)) 10 (omega (arith, value_back v (omega arith)))

-- that make it
written_number : (k n : ℕ) → n < 10 ^ k → number_of 10 (decimal k n) ≡ n
unfolding decimal number_of
written_number zero n h = omega (arith, pow-zero 10)
written_number (suc k) n h =
    of_choice (λ (s : List ℕ). number_of 10 s ≡ n) (ltb n 10)
    (λ small. let v = value_back n (omega (arith, ltb-true n 10 small)) in omega (arith, pow-zero 10))
    (λ large.
    let power = pow-suc 10 k in
    let v = value_back (n % 10) (omega arith) in
    let front = written_number k (n / 10) (omega arith) in
    number_append 10 (decimal k (n / 10)) (digit_of (n % 10) ∷ []) ∙ omega (arith, pow-zero 10))

-- one of them at least
written_some : (k n : ℕ) → 0 < length (decimal (suc k) n)
unfolding decimal
written_some k n =
    of_choice (λ (s : List ℕ). 0 < length s) (ltb n 10) (λ small. omega arith)
    (λ large. omega (arith, length-append (decimal k (n / 10)) (digit_of (n % 10) ∷ [])))

-- the first is not 0 where the number is not
written_first : (k n : ℕ) → 1 ≤ n → n < 10 ^ k → 48 < get_or (decimal k n) 0 0
unfolding decimal
written_first zero n some h = absurd (omega (arith, pow-zero 10))
written_first (suc zero) n some h =
    let power = pow-suc 10 zero in
    let one = pow-zero 10 in
    of_choice (λ (s : List ℕ). 48 < get_or s 0 0) (ltb n 10) (λ small. omega (arith, digit_number n (ltb-true n 10 small)))
    (λ large. absurd (omega (arith, ltb-false n 10 large)))
written_first (suc (suc k)) n some h =
    let power = pow-suc 10 (suc k) in
    of_choice (λ (s : List ℕ). 48 < get_or s 0 0) (ltb n 10) (λ small. omega (arith, digit_number n (ltb-true n 10 small)))
    (λ large.
    let front = get_or-append (decimal (suc k) (n / 10)) (digit_of (n % 10) ∷ []) 0 0 (written_some k (n / 10)) in
    let first = written_first (suc k) (n / 10) (omega (arith, ltb-false n 10 large)) (omega arith) in
    omega arith)

-- and a number of one digit has one
written_one : (k n : ℕ) → n < 10 → length (decimal (suc k) n) ≡ 1
unfolding decimal
written_one k n h = ap length (chosen (ltb n 10) (digit_of n ∷ []) _ (lt-ltb _ _ h))

pub written_decimal : (k n : ℕ) → n < 10 ^ suc k → is_decimal (decimal (suc k) n) ≡ true
unfolding is_decimal zero_leads
written_decimal k n h =
    ap₂ ◌&&◌ (ap₂ ◌&&◌ (lt-ltb _ _ (written_some k n)) (written_digits (suc k) n))
    (ap not
    (by_test (leb n 9)
    (λ small.
    ap (λ (t : Bool). t && eqb (get_or (decimal (suc k) n) 0 0) (code "0"))
    (le-ltb 1 (length (decimal (suc k) n)) (omega (arith, written_one k n (omega (arith, leb-true n 9 small))))))
    (λ large.
    let first = written_first (suc k) n (omega (arith, leb-false n 9 large)) h in
    ap (λ (t : Bool). ltb 1 (length (decimal (suc k) n)) && t) (ne_eqb (get_or (decimal (suc k) n) 0 0) (code "0") (λ e. omega arith))
    ∙ and-false (ltb 1 (length (decimal (suc k) n))))))

-- the numbers of a line: what is written for one is a decimal that makes it, and nothing else is
module _ (n : ℕ) (small : n ≤ 9999) where
  fits : n < 10 ^ 4
  fits = omega arith

  pub is-decimal : is_decimal (written n) ≡ true
  is-decimal = written_decimal 3 n fits

  pub makes : number_of 10 (written n) ≡ n
  makes = written_number 4 n fits

  pub only_written : (s : List ℕ) → is_decimal s ≡ true → number_of 10 s ≡ n → s ≡ written n
  only_written s e same = one_decimal s (written n) e is-decimal (same ∙ sym makes)

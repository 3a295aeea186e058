-- Eight hexadecimal digits and the word that they make: in capitals they are that word's digits, for a letter's case does not change what it is worth.
use Prim.Native.Nat.{ℕ, ◌-◌, ◌*◌, ◌/◌, ◌%◌, ◌^◌, ◌<◌}
use mathlib.Core.Bool.{true, ◌&&◌}
use mathlib.Core.List.{List, [], ◌∷◌, map}
use mathlib.Core.Path.{◌≡◌, refl, sym, ap, ap₂, ◌∙◌}
use native.Mathlib.Nat.{mod-lt}
use native.Mathlib.Omega.{arith}
use borrow.Author.Tests.{ltb-true, ltb-false, eq-eqb, eqb-true}
use lib.Dec.{ltb, eqb, lit<}
use lib.ListN.{length, length-map}
use Rattle.words.proofs.Choice.{chosen, passed, by_test, both}
use Rattle.words.proofs.Ranges.{inside, below, above, by_range}
use Rattle.digits.specs.rules.Digits.{digit_value, is_digit, digit_of}
use Rattle.digits.specs.rules.Numbers.{are_digits, number_of}
use Rattle.digits.proofs.Digits.{by_value, no_digit, capital_value, small_value}
use Rattle.digits.proofs.Numbers.{number_lt}
use Rattle.hex_text.specs.claims.RoundTrip.{capital}
use Rattle.hex_text.specs.rules.Digits.{digit_at, digits_of}
use Rattle.hex_text.proofs.Back.{digit_back, are-digits, word_back}
use Rattle.hex_text.proofs.Turning.{digits_length}
use Rattle.field_lines.specs.rules.Text.{is_address}
use Rattle.field_laws.proofs.Decimals.{same_values}

-- a character in capitals is worth as much
worth_capital : (c : ℕ) → digit_value (capital c) ≡ digit_value c
unfolding capital
worth_capital c =
    by_range 0x61 26 c
    (λ low. ap digit_value (passed _ _ _ (below 0x61 26 c low)))
    (λ j h e.
    ap digit_value (chosen _ _ _ (inside 0x61 26 c (omega arith) (omega arith)))
    ∙ by_test (ltb j 6)
    (λ few.
    capital_value (c - 0x20) (omega (arith, ltb-true j 6 few)) (omega (arith, ltb-true j 6 few))
    ∙ omega (arith, small_value c (omega (arith, ltb-true j 6 few)) (omega (arith, ltb-true j 6 few))))
    (λ many.
    let past = ltb-false j 6 many in
    no_digit (c - 0x20) (λ x y. omega arith) (λ x y. omega arith) (λ x y. omega arith)
    ∙ sym (no_digit c (λ x y. omega arith) (λ x y. omega arith) (λ x y. omega arith))))
    (λ j e. ap digit_value (passed _ _ _ (above 0x61 26 c (omega arith))))

digits_capital : (s : List ℕ) → are_digits 16 (map capital s) ≡ are_digits 16 s
unfolding are_digits
digits_capital [] = refl
digits_capital (c ∷ s) = ap₂ ◌&&◌ (ap (λ (v : ℕ). ltb v 16) (worth_capital c)) (digits_capital s)

number_capital : (s : List ℕ) → number_of 16 (map capital s) ≡ number_of 16 s
unfolding number_of
number_capital [] = refl
number_capital (c ∷ s) =
    rw (worth_capital c, number_capital s, length-map s capital)

-- digits in capitals by what they are worth
by_worth : (s : List ℕ) → are_digits 16 s ≡ true → map digit_of (map digit_value s) ≡ map capital s
unfolding are_digits
by_worth [] all = refl
by_worth (c ∷ s) all = let parts = both (is_digit 16 c) (are_digits 16 s) all in ap₂ ◌∷◌ (digit_back c parts.0) (by_worth s parts.1)

-- a word's digits are in capitals
capital_digit : (v : ℕ) → v < 16 → capital (digit_of v) ≡ digit_of v
unfolding capital
capital_digit v h =
    by_value v (λ l e. passed _ _ _ (below 0x61 26 (digit_of v) (omega arith))) (λ l e. passed _ _ _ (below 0x61 26 (digit_of v) (omega arith)))

in_capitals : (w : ℕ) → map capital (digits_of w) ≡ digits_of w
unfolding digits_of digit_at
in_capitals w =
    let same : (i : ℕ) → capital (digit_of (w / 2 ^ (4 * i) % 16)) ≡ digit_of (w / 2 ^ (4 * i) % 16) =
    λ i. capital_digit (w / 2 ^ (4 * i) % 16) (mod-lt _ (lit< tt)) in
    rw (same 7, same 6, same 5, same 4, same 3, same 2, same 1, same 0)

-- what the test for an address says: a word, and these are its digits
pub record IsWord (s : List ℕ) : Type 0 where
  pub small : number_of 16 s < 2 ^ 32
  pub is_digits : map capital s ≡ digits_of (number_of 16 s)

pub address_says : (s : List ℕ) → is_address s ≡ true → IsWord s
unfolding is_address
address_says s e =
    let parts = both (eqb (length s) 8) (are_digits 16 s) e in
    let eight : length s ≡ 8 = eqb-true _ _ parts.0 in
    let word : number_of 16 s < 2 ^ 32 = rw eight at (number_lt 16 s parts.1) in
    let values = same_values 16 s (digits_of (number_of 16 s)) (eight ∙ sym (digits_length (number_of 16 s))) parts.1 (are-digits (number_of 16 s))
    (sym (word_back (number_of 16 s) word)) in
    record {
      small = word;
      is_digits = sym (by_worth s parts.1) ∙ ap (map digit_of) values ∙ by_worth (digits_of (number_of 16 s)) (are-digits (number_of 16 s))
          ∙ in_capitals (number_of 16 s);
    }

-- and digits that are a word's in capitals are its address
module _ (s : List ℕ) (w : ℕ) (small : w < 2 ^ 32) (e : map capital s ≡ digits_of w) where
  pub all_digits : are_digits 16 s ≡ true
  all_digits = sym (digits_capital s) ∙ ap (are_digits 16) e ∙ are-digits w

  pub is-address : is_address s ≡ true
  unfolding is_address
  is-address = ap₂ ◌&&◌ (eq-eqb (length s) 8 (sym (length-map s capital) ∙ ap length e ∙ digits_length w)) all_digits

  pub makes_word : number_of 16 s ≡ w
  makes_word = sym (number_capital s) ∙ ap (number_of 16) e ∙ word_back w small

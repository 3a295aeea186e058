-- Decimal numbers in a range, and addresses: what each test of the code says of the rule's test.
use Prim.Native.Nat.{ℕ, ◌≤◌, ◌<◌}
use mathlib.Core.Bool.{Bool, true, false, not, ◌&&◌, true≢false}
use mathlib.Core.List.{List}
use mathlib.Core.Path.{◌≡◌, sym, ap, ap₂, ◌∙◌}
use native.Mathlib.Omega.{arith}
use borrow.Author.Tests.{lt-ltb, eq-eqb, eqb-true, ltb-true, leb-true, le-leb, not-true}
use lib.ListN.{length}
use Rattle.words.proofs.Choice.{by_test, both}
use Rattle.digits.specs.rules.Numbers.{are_digits, number_of, number_up_to}
use Rattle.std.specs.Prelude.{Some, None}
use Rattle.digits.proofs.Numbers.{number_lt}
use Rattle.digits.proofs.Reading.{number_held, number_refuted, made, not_made}
use Rattle.field_lines.specs.rules.Text.{between, zero_leads, is_decimal, decimal_of, is_address, address_of}
use Rattle.field_lines.proofs.Between.{within}

module _ (s : List ℕ) (least most : ℕ) where
  abbrev fitting : Bool
  fitting = is_decimal s && between least most (number_of 10 s)

  -- what a decimal number in the range is
  record Fitting : Type 0 where
    pub some : 0 < length s
    pub digits : are_digits 10 s ≡ true
    pub leads : zero_leads s ≡ false
    pub low : least ≤ number_of 10 s
    pub high : number_of 10 s ≤ most

  fits : fitting ≡ true → Fitting
  unfolding is_decimal
  fits e =
      let parts = both _ _ e in
      let form = both _ _ parts.0 in
      let digits = both _ _ form.0 in
      let range = both _ _ parts.1 in
      record {
        some = ltb-true _ _ digits.0;
        digits = digits.1;
        leads = not-true _ form.1;
        low = leb-true _ _ range.0;
        high = leb-true _ _ range.1;
      }

  pub decimal_zero : zero_leads s ≡ true → None ≡ decimal_of least most s
  decimal_zero e = number_refuted fitting _ (λ held. true≢false (sym e ∙ (fits held).leads))

  pub decimal_wrong : None ≡ number_up_to 10 most s → None ≡ decimal_of least most s
  decimal_wrong e = number_refuted fitting _ (λ held. let f = fits held in not_made 10 most s e f.some f.digits f.high)

  pub decimal_low : (n : ℕ) → Some n ≡ number_up_to 10 most s → n < least → None ≡ decimal_of least most s
  decimal_low n e h =
      number_refuted fitting _ (λ held. let f = fits held in let m = made 10 most s n e in omega arith)

  pub decimal_is : (n : ℕ) → Some n ≡ number_up_to 10 most s → zero_leads s ≡ false → least ≤ n
      → Some n ≡ decimal_of least most s
  unfolding is_decimal
  decimal_is n e leads low =
      let m = made 10 most s n e in
      ap Some (sym m.is)
      ∙ number_held fitting _
      (ap₂ ◌&&◌ (ap₂ ◌&&◌ (ap₂ ◌&&◌ (lt-ltb _ _ m.some) m.digits) (ap not leads)) (within least most _ (omega arith) m.small))

module _ (s : List ℕ) where
  pub address_short : (length s ≡ 8 → ⊥) → None ≡ address_of s
  unfolding is_address
  address_short never = number_refuted _ _ (λ held. never (eqb-true _ _ (both _ _ held).0))

  below : length s ≡ 8 → are_digits 16 s ≡ true → number_of 16 s < 4294967296
  below e digits = rw e at (number_lt 16 s digits)

  -- eight digits make a number of 32 bits
  pub address_by : length s ≡ 8 → number_up_to 16 4294967295 s ≡ address_of s
  unfolding is_address number_up_to
  address_by e =
      let long : 0 < length s = omega arith in
      by_test (are_digits 16 s)
      (λ digits.
      let small : number_of 16 s ≤ 4294967295 = omega (arith, below e digits) in
      rw (digits, eq-eqb _ _ e, lt-ltb _ _ long, le-leb _ _ small))
      (λ none. rw (none, eq-eqb _ _ e, lt-ltb _ _ long))

-- The three kinds of pairs, each both ways: what is read of one is written there, and what is written there is read. The digits and letters of a value all
-- stand above the byte that closes it, so that it ends where it should.
use Prim.Native.Nat.{ℕ, ◌+◌, ◌^◌, ◌≤◌, ◌<◌}
use Prim.Native.Char.{code}
use mathlib.Core.Bool.{true, ◌&&◌}
use mathlib.Core.List.{List, ◌∷◌, ◌++◌, map}
use mathlib.Core.Path.{◌≡◌, refl, sym, ap, ap₂, subst, ◌∙◌}
use native.Mathlib.Omega.{arith}
use borrow.Author.Tests.{lt-ltb, leb-true}
use lib.Dec.{leb, ltb, lit≤}
use lib.ListN.{length, get_or, drop}
use Rattle.words.proofs.Choice.{chosen, both, of_choice}
use Rattle.digits.specs.rules.Digits.{digit_value}
use Rattle.digits.specs.rules.Numbers.{are_digits, number_of}
use Rattle.std.specs.Prelude.{Option, Some}
use Rattle.std.proofs.lemmas.Option.{option_and_then_some}
use Rattle.digits.proofs.Digits.{by_digit, value_small}
use Rattle.digits.proofs.Numbers.{digit_in}
use Rattle.hex_text.specs.claims.RoundTrip.{capital}
use Rattle.hex_text.specs.rules.Digits.{digits_of}
use Rattle.field_lines.specs.rules.Pairs.{value_at, and_then, pair_to, decimal_in, decimal_pair, word_in, word_pair, field_in, field_pair}
use Rattle.field_lines.specs.rules.Text.{bytes_of, part, between, is_decimal, decimal_of, is_address, address_of, is_name, padded, name_of}
use Rattle.field_lines.specs.declared.Pair.{Pair}
use Rattle.field_lines.specs.declared.Span.{Span}
use Rattle.field_lines.proofs.Between.{within}
use Rattle.field_lines.proofs.Names.{letters_are, are-letters}
use Rattle.field_laws.specs.claims.WellFormed.{written, IsName}
use Rattle.field_laws.proofs.Addresses.{address_says, all_digits, is-address, makes_word}
use Rattle.field_laws.proofs.Decimals.{is-decimal, makes, only_written}
use Rattle.field_laws.proofs.PairsRead.{PairAt, value_read, value_is}

-- digits stand from 48 on
digits_above : (base : ℕ) → base ≤ 16 → (s : List ℕ) → are_digits base s ≡ true → (i : ℕ) → i < length s → 48 ≤ get_or s i 0
digits_above base low s all i h =
    let c : ℕ = get_or s i 0 in
    let worth = value_small c base (digit_in base s i all h) in
    by_digit c (lt-ltb (digit_value c) 16 (omega arith)) (λ first last v. first) (λ first last v. omega arith) (λ first last v. omega arith)

decimal_digits : (s : List ℕ) → is_decimal s ≡ true → are_digits 10 s ≡ true
unfolding is_decimal
decimal_digits s e = (both (ltb 0 (length s)) _ (both (ltb 0 (length s) && are_digits 10 s) _ e).0).1

-- a pair with a number: what it is, and where the next begins
abbrev pub numbered : ℕ → ℕ → Pair ℕ
numbered value next = record { value = value; next = next }

-- KEY=N
pub record DecimalAt (text : List ℕ) (at : ℕ) (key : List ℕ) (least most close : ℕ) (p : Pair ℕ) : Type 0 where
  pub stands : PairAt text at key (written p.value) close p.next
  pub low : least ≤ p.value
  pub high : p.value ≤ most

module _ (text : List ℕ) (at : ℕ) (key : List ℕ) (least most close : ℕ) (four : most ≤ 9999) where
  decimal_by : (v : Span) → value_at text at key close ≡ Some v → (p : Pair ℕ) → decimal_in text least most v ≡ Some p
      → DecimalAt text at key least most close p
  decimal_by v e p =
      let s : List ℕ = part text v.from v.to in
      of_choice (λ (n : Option ℕ). pair_to n v.to ≡ Some p → DecimalAt text at key least most close p)
      (is_decimal s && between least most (number_of 10 s))
      (λ held made.
      let parts = both (is_decimal s) _ held in
      let range = both (leb least (number_of 10 s)) _ parts.1 in
      let high : number_of 10 s ≤ most = leb-true _ _ range.1 in
      let is : numbered (number_of 10 s) (v.to + 1) ≡ p = cc in
      subst (DecimalAt text at key least most close) is
      (record {
        stands = subst (λ (w : List ℕ). PairAt text at key w close (v.to + 1)) (only_written (number_of 10 s) (omega arith) s parts.0 refl)
            (value_read text at key close v e);
        low = leb-true _ _ range.0;
        high = high;
      }))
      (λ failed made. cc)

  pub decimal_read : (p : Pair ℕ) → decimal_pair key least most close text at ≡ Some p → DecimalAt text at key least most close p
  decimal_read p made =
      option_and_then_some (decimal_in text least most) (value_at text at key close) p made (λ v e more. decimal_by v e p more)

  pub decimal_is : (n : ℕ) (rest : List ℕ) → least ≤ n → n ≤ most → close < 48 → drop at text ≡ key ++ (written n ++ (close ∷ rest))
      → (decimal_pair key least most close text at ≡ Some (numbered n (at + length key + length (written n) + 1)))
      × (drop (at + length key + length (written n) + 1) text ≡ rest)
  decimal_is n rest low high closing e =
      let few : n ≤ 9999 = omega arith in
      let digits = digits_above 10 (lit≤ tt) (written n) (decimal_digits (written n) (is-decimal n few)) in
      let v = value_is text at key close (written n) rest (λ i h. omega (arith, digits i h)) e in
      let test : (is_decimal (written n) && between least most (number_of 10 (written n))) ≡ true =
      ap₂ ◌&&◌ (is-decimal n few) (rw (makes n few) (within least most n low high)) in
      let to : ℕ = at + length key + length (written n) in (
        ap (λ (o : Option Span). and_then o (decimal_in text least most)) v.is
            ∙ ap (λ (s : List ℕ). pair_to (decimal_of least most s) to) v.is-part
            ∙ ap (λ (m : Option ℕ). pair_to m to) (chosen _ _ _ test ∙ ap Some (makes n few)),
        v.is_left,
      )

-- word=0xADDR
abbrev word_key : List ℕ
word_key = bytes_of "word=0x"

pub record WordAt (text : List ℕ) (at : ℕ) (p : Pair ℕ) : Type 0 where
  pub address : List ℕ
  pub stands : PairAt text at word_key address (code " ") p.next
  pub small : p.value < 2 ^ 32
  pub is_address : map capital address ≡ digits_of p.value

module _ (text : List ℕ) (at : ℕ) where
  word_by : (v : Span) → value_at text at word_key (code " ") ≡ Some v → (p : Pair ℕ) → word_in text v ≡ Some p → WordAt text at p
  word_by v e p =
      let s : List ℕ = part text v.from v.to in
      of_choice (λ (n : Option ℕ). pair_to n v.to ≡ Some p → WordAt text at p) (is_address s)
      (λ held made.
      let w = address_says s held in
      let is : numbered (number_of 16 s) (v.to + 1) ≡ p = cc in
      subst (WordAt text at) is
      (record { address = s; stands = value_read text at word_key (code " ") v e; small = w.small; is_address = w.is_digits }))
      (λ failed made. cc)

  pub word_read : (p : Pair ℕ) → word_pair text at ≡ Some p → WordAt text at p
  word_read p made =
      option_and_then_some (word_in text) (value_at text at word_key (code " ")) p made (λ v e more. word_by v e p more)

  pub word_is : (address : List ℕ) (w : ℕ) (rest : List ℕ) → w < 2 ^ 32 → map capital address ≡ digits_of w
      → drop at text ≡ word_key ++ (address ++ (code " " ∷ rest))
      → (word_pair text at ≡ Some (numbered w (at + 7 + length address + 1))) × (drop (at + 7 + length address + 1) text ≡ rest)
  word_is address w rest small same e =
      let digits = digits_above 16 (lit≤ tt) address (all_digits address w small same) in
      let v = value_is text at word_key (code " ") address rest (λ i h. omega (arith, digits i h)) e in
      let to : ℕ = at + 7 + length address in (
        ap (λ (o : Option Span). and_then o (word_in text)) v.is
            ∙ ap (λ (s : List ℕ). pair_to (address_of s) to) v.is-part
            ∙ ap (λ (m : Option ℕ). pair_to m to) (chosen _ _ _ (is-address address w small same) ∙ ap Some (makes_word address w small same)),
        v.is_left,
      )

-- field=NAME
abbrev field_key : List ℕ
field_key = bytes_of "field="

name_says : (s : List ℕ) → is_name s ≡ true → IsName s (padded s)
unfolding is_name padded
name_says s e =
    let parts = both (between 1 16 (length s)) _ e in
    let range = both (leb 1 (length s)) _ parts.0 in
    record { some = leb-true _ _ range.0; most = leb-true _ _ range.1; letters = letters_are s parts.1; is_kept = refl }

named : (s kept : List ℕ) → IsName s kept → name_of s ≡ Some kept
unfolding name_of is_name padded
named s kept n =
    chosen _ _ _ (ap₂ ◌&&◌ (within 1 16 (length s) n.some n.most) (are-letters s n.letters))
    ∙ ap Some (sym n.is_kept)

pub record NameAt (text : List ℕ) (at : ℕ) (p : Pair (List ℕ)) : Type 0 where
  pub name : List ℕ
  pub stands : PairAt text at field_key name (code " ") p.next
  pub is_name : IsName name p.value

module _ (text : List ℕ) (at : ℕ) where
  name_by : (v : Span) → value_at text at field_key (code " ") ≡ Some v → (p : Pair (List ℕ)) → field_in text v ≡ Some p → NameAt text at p
  unfolding name_of
  name_by v e p =
      let s : List ℕ = part text v.from v.to in
      of_choice (λ (n : Option (List ℕ)). pair_to n v.to ≡ Some p → NameAt text at p) (is_name s)
      (λ held made.
      let is : record { value = padded s; next = v.to + 1 } ≡ p = cc in
      subst (NameAt text at) is
      (record { name = s; stands = value_read text at field_key (code " ") v e; is_name = name_says s held }))
      (λ failed made. cc)

  pub name_read : (p : Pair (List ℕ)) → field_pair text at ≡ Some p → NameAt text at p
  name_read p made =
      option_and_then_some (field_in text) (value_at text at field_key (code " ")) p made (λ v e more. name_by v e p more)

  pub name_is : (name kept rest : List ℕ) → IsName name kept → drop at text ≡ field_key ++ (name ++ (code " " ∷ rest))
      → (field_pair text at ≡ Some (record { value = kept; next = at + 6 + length name + 1 }))
      × (drop (at + 6 + length name + 1) text ≡ rest)
  name_is name kept rest n e =
      let v = value_is text at field_key (code " ") name rest (λ i h. omega (arith, n.letters i h)) e in
      let to : ℕ = at + 6 + length name in (
        ap (λ (o : Option Span). and_then o (field_in text)) v.is
            ∙ ap (λ (s : List ℕ). pair_to (name_of s) to) v.is-part
            ∙ ap (λ (m : Option (List ℕ)). pair_to m to) (named name kept n),
        v.is_left,
      )

-- Where the value of a pair lies. A key that lies past the text's end is not there, and a closing byte is looked for in what is left behind the key.
use Prim.Native.Nat.{ℕ, ◌+◌, ◌≤◌, ◌<◌}
use mathlib.Core.Bool.{Bool, true, false, ◌&&◌, true≢false}
use mathlib.Core.List.{List, [], ◌∷◌}
use mathlib.Core.Path.{◌≡◌, refl, sym, ap, ap₂, ◌∙◌}
use native.Mathlib.Omega.{arith}
use borrow.Author.Tests.{lt-ltb, le-leb, leb-true, ltb-true, ltb-false}
use lib.Dec.{eqb, ltb}
use lib.ListN.{length, take, drop, drop_of_length-le, length-drop}
use Rattle.words.specs.rules.Choice.{pick}
use Rattle.words.proofs.Choice.{chosen, passed, by_test, both, refuted}
use Rattle.field_lines.specs.rules.Text.{same}
use Rattle.field_lines.specs.rules.Pairs.{index_of, stands, closed_at, value_at}
use Rattle.std.specs.Prelude.{◌==◌, Option, Some, None, unwrap_or, position, bytes_eq}
use Rattle.std.proofs.lemmas.Slice.Eq.{bytes_eq-Decides}
use Rattle.std.specs.List.{position_or_len}
use Rattle.field_lines.specs.declared.Span.{Span}

-- how many bytes stand before the first c, by the place that the library finds
index_passes : (c : ℕ) (s : List ℕ) → index_of c s ≡ position_or_len (λ b. b == c) s
unfolding index_of pick
index_passes c [] = refl
index_passes c (b ∷ s) =
    by_test (eqb b c) (λ here. rw here refl) (λ other. rw other (omega (arith, index_passes c s)))

index_inside : (c : ℕ) (s : List ℕ) → index_of c s ≤ length s
unfolding index_of pick
index_inside c [] = omega arith
index_inside c (b ∷ s) =
    by_test (eqb b c) (λ here. rw here (omega arith)) (λ other. rw other (omega (arith, index_inside c s)))

pub index_by_place : (c : ℕ) (s : List ℕ) → index_of c s ≡ unwrap_or (position (λ b. b == c) s) (length s)
index_by_place c s =
    rw (← index_passes c s)
    (by_test (ltb (index_of c s) (length s)) (λ before. rw before (omega arith))
    (λ none. rw none (omega (arith, index_inside c s, ltb-false _ _ none))))

-- where a search ends: at the place that is found, at the text's end, or where it began past it
module _ (text : List ℕ) (from byte : ℕ) where
  pub closed_past : length text ≤ from → from ≡ closed_at text from byte
  unfolding closed_at index_of
  closed_past h = rw (drop_of_length-le text h) (omega arith)

  pub closed_low : from ≤ closed_at text from byte
  unfolding closed_at
  closed_low = omega arith

  pub closed_found : (n : ℕ) → Some n ≡ position (λ b. b == byte) (drop from text) → from + n ≡ closed_at text from byte
  unfolding closed_at
  closed_found n e = rw (index_by_place byte (drop from text), ← e) refl

  pub closed_none : from ≤ length text → None ≡ position (λ b. b == byte) (drop from text) → length text ≡ closed_at text from byte
  unfolding closed_at
  closed_none h e = rw (index_by_place byte (drop from text), ← e) (omega (arith, length-drop from text))

module _ (text : List ℕ) (at : ℕ) (key : List ℕ) where
  -- a key that stands in the text lies in it
  pub stands_inside : stands text at key ≡ true → at + length key ≤ length text
  unfolding stands
  stands_inside e = leb-true _ _ (both _ _ e).0

  pub stands_past : length text < at → false ≡ stands text at key
  unfolding stands
  stands_past h = refuted _ (λ e. let low : at + length key ≤ length text = leb-true _ _ (both _ _ e).0 in omega arith)

  -- the library compares the key with as many bytes of the text
  pub stands_by : (r : Bool) → at ≤ length text → (r ≡ true → length key ≤ length (drop at text)) → r ≡ bytes_eq key (take (length key) (drop at text))
      → r ≡ stands text at key
  unfolding stands same
  stands_by true h inside e =
      let whole : key ≡ take (length key) (drop at text) = (bytes_eq-Decides key _).0 (sym e) in
      let low : at + length key ≤ length text = omega (arith, inside refl, length-drop at text) in
      sym (ap₂ ◌&&◌ (le-leb _ _ low) ((bytes_eq-Decides _ key).1 (sym whole)))
  stands_by false h inside e =
      refuted _ (λ there. true≢false (sym ((bytes_eq-Decides key _).1 (sym ((bytes_eq-Decides _ key).0 (both _ _ there).1))) ∙ sym e))

  module _ (close : ℕ) where
    pub value_there : (to : ℕ) → stands text at key ≡ true → to ≡ closed_at text (at + length key) close → to < length text
        → Some (record { from = at + length key; to = to }) ≡ value_at text at key close
    unfolding value_at
    value_there to there e h =
        let within : closed_at text (at + length key) close < length text = rw (← e) h in
        ap (λ (n : ℕ). Some (record { from = at + length key; to = n })) e ∙ sym (chosen _ _ _ (ap₂ ◌&&◌ there (lt-ltb _ _ within)))

    pub value_keyless : (stands text at key ≡ true → ⊥) → None ≡ value_at text at key close
    unfolding value_at
    value_keyless never = sym (passed _ _ _ (sym (refuted _ (λ e. never (both _ _ e).0))))

    pub value_open : (to : ℕ) → to ≡ closed_at text (at + length key) close → length text ≤ to → None ≡ value_at text at key close
    unfolding value_at
    value_open to e h =
        sym (passed _ _ _ (sym (refuted _ (λ both_hold.
        let within : closed_at text (at + length key) close < length text = ltb-true _ _ (both (stands text at key) _ both_hold).1 in
        omega arith))))

    -- a value that was found lies in the text
    pub value_lies : (from to : ℕ) → value_at text at key close ≡ Some (record { from = from; to = to }) → (from ≤ to) × (to < length text)
    unfolding value_at closed_at
    value_lies from to e =
        by_test (stands text at key && ltb (closed_at text (at + length key) close) (length text))
        (λ held.
        let place : Some (record { from = at + length key; to = closed_at text (at + length key) close }) ≡ Some (record { from = from; to = to }) = sym (chosen _ _ _ held) ∙ e in
        let nowhere : Span = record { from = 0; to = 0 } in
        let first : at + length key ≡ from = ap (λ (v : Option Span). (unwrap_or v nowhere).from) place in
        let last : at + length key + index_of close (drop (at + length key) text) ≡ to = ap (λ (v : Option Span). (unwrap_or v nowhere).to) place in
        let below : closed_at text (at + length key) close < length text = ltb-true _ _ (both (stands text at key) _ held).1 in
        (omega arith, omega arith))
        (λ failed.
        let none : None ≡ Some (record { from = from; to = to }) = sym (passed _ _ _ failed) ∙ e in
        absurd (let z : ◌≡◌ {A = ℕ} 0 1 = cc in omega arith))

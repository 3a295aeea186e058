-- A pair that stands at a place of a text, and what is read there: the key is taken off, the value ends where its closing byte is first met, and what is left
-- is the text behind it.
use Prim.Native.Nat.{ℕ, suc, ◌+◌, ◌-◌, ◌<◌}
use mathlib.Core.Bool.{true, ◌&&◌}
use mathlib.Core.List.{List, [], ◌∷◌, ◌++◌}
use mathlib.Core.Path.{◌≡◌, refl, sym, ap, ap₂, subst, ◌∙◌}
use native.Mathlib.Omega.{arith}
use borrow.Author.Tests.{lt-ltb, le-leb, ltb-true, eqb-true, ne_eqb, eq-eqb}
use lib.Dec.{eqb, leb, ltb}
use lib.ListN.{length, get_or, take, drop, length-append, length-drop, take-append-drop}
use lib.Seq.{length-take-le, take-append_seam, drop-append_seam, drop-append-add, drop-drop, split_at}
use Rattle.words.specs.rules.Choice.{pick}
use Rattle.words.proofs.Choice.{chosen, passed, by_test, both}
use Rattle.field_lines.specs.rules.Pairs.{index_of, stands, closed_at, value_at}
use Rattle.field_lines.specs.rules.Text.{part, same}
use Rattle.std.specs.Prelude.{Some, None}
use Rattle.field_lines.specs.declared.Span.{Span}
use Rattle.field_lines.proofs.SameBytes.{same_equal, same_refl}

-- the byte that was looked for stands where it was found
found_there : (c : ℕ) (s : List ℕ) → index_of c s < length s → get_or s (index_of c s) 0 ≡ c
unfolding index_of pick
found_there c [] h = absurd (omega arith)
found_there c (x ∷ s) h =
    by_test (eqb x c) (λ here. rw here (eqb-true x c here))
    (λ other. let further = rw other at h in rw other (found_there c s (omega arith)))

-- and is found behind bytes that are above it
found_behind : (c : ℕ) (s rest : List ℕ) → ((i : ℕ) → i < length s → c < get_or s i 0) → index_of c (s ++ (c ∷ rest)) ≡ length s
unfolding index_of pick
found_behind c [] rest high = rw (eq-eqb c c refl)
found_behind c (x ∷ s) rest high =
    rw (ne_eqb x c (λ e. omega (arith, high 0 (omega arith))))
    (ap suc (found_behind c s rest (λ i h. high (suc i) (omega arith))))

-- a key, a value and its closing byte at a place, and where they end
pub record PairAt (text : List ℕ) (at : ℕ) (key value : List ℕ) (close next : ℕ) : Type 0 where
  pub there : drop at text ≡ key ++ (value ++ (close ∷ drop next text))
  pub next_is : next ≡ at + (length key + (length value + 1))

-- a text behind a key that was found, and behind a value that was
behind_key : (text : List ℕ) (at : ℕ) (key : List ℕ) → take (length key) (drop at text) ≡ key → drop at text ≡ key ++ drop (at + length key) text
behind_key text at key e =
    sym (take-append-drop (length key) (drop at text)) ∙ ap₂ ◌++◌ e (drop-drop (length key) at text)

behind_value : (c : ℕ) (s : List ℕ) → index_of c s < length s → s ≡ take (index_of c s) s ++ (c ∷ drop (suc (index_of c s)) s)
behind_value c s h =
    split_at s (index_of c s) 0 h ∙ ap (λ (b : ℕ). take (index_of c s) s ++ (b ∷ drop (suc (index_of c s)) s)) (found_there c s h)

module _ (text : List ℕ) (at : ℕ) (key : List ℕ) (close : ℕ) where
  abbrev from : ℕ
  from = at + length key

  abbrev index : ℕ
  index = index_of close (drop from text)

  -- what is read is such a pair
  read_there : stands text at key ≡ true → closed_at text from close < length text
      → PairAt text at key (part text from (from + index)) close (from + index + 1)
  unfolding closed_at stands
  read_there there below =
      let front = both (leb (at + length key) (length text)) _ there in
      let inside : index < length (drop from text) = simp length-drop (omega arith) in
      let long : from + index - from ≡ index = omega arith in
      let value_is : part text from (from + index) ≡ take index (drop from text) = ap (λ (n : ℕ). take n (drop from text)) long in
      let next-at : from + suc index ≡ from + index + 1 = omega arith in
      let rest_is : drop (suc index) (drop from text) ≡ drop (from + index + 1) text =
      drop-drop (suc index) from text ∙ ap (λ (n : ℕ). drop n text) next-at in
      record {
        there =
            behind_key text at key (same_equal _ _ front.1)
            ∙ ap (λ (l : List ℕ). key ++ l)
            (behind_value close (drop from text) inside ∙ ap₂ (λ (v r : List ℕ). v ++ (close ∷ r)) (sym value_is) rest_is);
        next_is = let v = ap length value_is ∙ length-take-le index (drop from text) (omega arith) in omega arith;
      }

  pub value_read : (v : Span) → value_at text at key close ≡ Some v → PairAt text at key (part text v.from v.to) close (v.to + 1)
  unfolding value_at closed_at
  value_read v e =
      by_test (stands text at key && ltb (closed_at text from close) (length text))
      (λ held.
      let place : Some (record { from = from; to = from + index }) ≡ Some v = sym (chosen _ _ _ held) ∙ e in
      let span : record { from = from; to = from + index } ≡ v = cc in
      let parts = both (stands text at key) _ held in
      subst (λ (u : Span). PairAt text at key (part text u.from u.to) close (u.to + 1)) span (read_there parts.0 (ltb-true _ _ parts.1)))
      (λ failed.
      let none : None ≡ Some v = sym (passed _ _ _ failed) ∙ e in
      cc)

  -- and such a pair is read
  pub record ValueIs (value rest : List ℕ) : Type 0 where
    pub is : value_at text at key close ≡ Some (record { from = from; to = from + length value })
    pub is-part : part text from (from + length value) ≡ value
    pub is_left : drop (from + length value + 1) text ≡ rest

  pub value_is : (value rest : List ℕ) → ((i : ℕ) → i < length value → close < get_or value i 0) → drop at text ≡ key ++ (value ++ (close ∷ rest))
      → ValueIs value rest
  unfolding value_at closed_at stands
  value_is value rest high e =
      let long : length text - at ≡ length key + (length value + suc (length rest)) =
      sym (length-drop at text) ∙ ap length e ∙ length-append key (value ++ (close ∷ rest))
      ∙ ap (λ (n : ℕ). length key + n) (length-append value (close ∷ rest)) in
      let left : drop from text ≡ value ++ (close ∷ rest) =
      sym (drop-drop (length key) at text) ∙ ap (drop (length key)) e ∙ drop-append_seam key (value ++ (close ∷ rest)) in
      let found : index ≡ length value = ap (index_of close) left ∙ found_behind close value rest high in
      let here : stands text at key ≡ true =
      ap₂ ◌&&◌ (le-leb from (length text) (omega arith))
      (ap (λ (l : List ℕ). same l key) (ap (take (length key)) e ∙ take-append_seam key _) ∙ same_refl key) in
      let closed : closed_at text from close < length text = omega arith in
      let width : from + length value - from ≡ length value = omega arith in
      let next-at : from + length value + 1 ≡ from + (length value + 1) = omega arith in
      record {
        is = chosen _ _ _ (ap₂ ◌&&◌ here (lt-ltb _ _ closed)) ∙ ap (λ (n : ℕ). Some (record { from = from; to = from + n })) found;
        is-part = ap₂ take width left ∙ take-append_seam value (close ∷ rest);
        is_left = ap (λ (n : ℕ). drop n text) next-at ∙ sym (drop-drop (length value + 1) from text) ∙ ap (drop (length value + 1)) left
            ∙ drop-append-add value (close ∷ rest) 1;
      }

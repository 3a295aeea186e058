-- What each definition over a list of chosen words says of those that a loop has left: the next one and the rest, or none. Each follows from the
-- definition's cases.
use Prim.Native.Nat.{ℕ, suc, ◌+◌, ◌-◌, ◌*◌, ◌/◌, ◌%◌, ◌≤◌, ◌<◌}
use mathlib.Core.Bool.{Bool, true, false, not, ◌&&◌, ◌||◌}
use mathlib.Core.List.{List, [], ◌∷◌, map}
use mathlib.Core.Path.{◌≡◌, refl, sym, ap, ◌∙◌}
use native.Mathlib.Numerals.{add-one}
use native.Mathlib.Omega.{arith}
use borrow.Author.Tests.{eq-eqb, ne_eqb, leb-true}
use lib.Dec.{eqb, leb}
use lib.ListN.{length, set, replicate}
use lib.Seq.{sets}
use Rattle.std.specs.List.{list_any}
use Rattle.words.specs.rules.Bytes.{word_at}
use Rattle.words.proofs.Choice.{both}
use Rattle.windows.specs.claims.Touching.{one_grants}
use Rattle.windows.specs.rules.Window.{grants_range, some}
use Rattle.windows.specs.declared.Right.TheVariants.{Set}
use Rattle.windows.specs.declared.Window.{Window}
use Rattle.bit_choice.specs.rules.Chosen.{addresses_from, addresses_of, may_be_chosen, among, all_fit, good_choice, word_place, places_of}

-- a window of a list grants the word where the library's search finds one
pub any_grants : (ws : List Window) (a : ℕ) → list_any (λ (w : Window). grants_range w Set a 4) ws ≡ one_grants ws Set a 4
unfolding some
any_grants [] a = refl
any_grants (w ∷ ws) a = ap (λ (t : Bool). grants_range w Set a 4 || t) (any_grants ws a)

-- the addresses that are left of the first count
abbrev pub left : List ℕ → ℕ → ℕ → List ℕ
left bytes count i = addresses_from bytes i (count - i)

module _ (bytes : List ℕ) (count i : ℕ) where
  left_none : count ≤ i → left bytes count i ≡ []
  unfolding addresses_from
  left_none h =
      let none : count - i ≡ 0 = omega arith in
      ap (addresses_from bytes i) none

  left_next : i < count → left bytes count i ≡ word_at bytes (4 * i) ∷ left bytes count (i + 1)
  unfolding addresses_from
  left_next h =
      let more : count - i ≡ suc (count - (i + 1)) = omega arith in
      ap (addresses_from bytes i) more

  module _ (ws : List Window) where
    pub fit_none : count ≤ i → true ≡ all_fit ws (left bytes count i)
    unfolding all_fit
    fit_none h = sym (ap (all_fit ws) (left_none h))

    pub places_end : count ≤ i → (places : List ℕ) → places ≡ sets places i (map (word_place ws) (left bytes count i))
    places_end h places = sym (ap (λ (l : List ℕ). sets places i (map (word_place ws) l)) (left_none h))

  pub among_none : (a : ℕ) → count ≤ i → false ≡ among a (left bytes count i)
  unfolding among
  among_none a h = sym (ap (among a) (left_none h))

  -- the next address
  module _ (h : i < count) (word : ℕ) (is-next : word ≡ word_at bytes (4 * i)) where
    next_word : left bytes count i ≡ word ∷ left bytes count (i + 1)
    next_word = left_next h ∙ ap (λ (a : ℕ). a ∷ left bytes count (i + 1)) (sym is-next)

    pub among_here : (a : ℕ) → word ≡ a → true ≡ among a (left bytes count i)
    unfolding among
    among_here a e = sym (ap (among a) next_word ∙ ap (λ (t : Bool). t || among a (left bytes count (i + 1))) (eq-eqb _ _ e))

    pub among_on : (a : ℕ) → (word ≡ a → ⊥) → among a (left bytes count (i + 1)) ≡ among a (left bytes count i)
    unfolding among
    among_on a e = sym (ap (among a) next_word ∙ ap (λ (t : Bool). t || among a (left bytes count (i + 1))) (ne_eqb _ _ e))

    module _ (ws : List Window) where
      next_fit : all_fit ws (left bytes count i)
          ≡ (may_be_chosen ws word && not (among word (left bytes count (i + 1))) && all_fit ws (left bytes count (i + 1)))
      unfolding all_fit
      next_fit = ap (all_fit ws) next_word

      pub fit_not : may_be_chosen ws word ≡ false → false ≡ all_fit ws (left bytes count i)
      fit_not e = sym (next_fit ∙ rw e refl)

      pub fit_again : may_be_chosen ws word ≡ true → among word (left bytes count (i + 1)) ≡ true → false ≡ all_fit ws (left bytes count i)
      fit_again m e = sym (next_fit ∙ rw (m, e) refl)

      pub fit_on : may_be_chosen ws word ≡ true → among word (left bytes count (i + 1)) ≡ false
          → all_fit ws (left bytes count (i + 1)) ≡ all_fit ws (left bytes count i)
      fit_on m e = sym (next_fit ∙ rw (m, e) refl)

      pub places_on : (places : List ℕ) (place : ℕ) → place ≡ word_place ws word
          → sets (set places i place) (i + 1) (map (word_place ws) (left bytes count (i + 1))) ≡ sets places i (map (word_place ws) (left bytes count i))
      places_on places place e =
          ap (λ (n : ℕ). sets (set places i place) n (map (word_place ws) (left bytes count (i + 1)))) (add-one i)
          ∙ ap (λ (v : ℕ). sets (set places i v) (suc i) (map (word_place ws) (left bytes count (i + 1)))) e
          ∙ sym (ap (λ (l : List ℕ). sets places i (map (word_place ws) l)) next_word)

-- at the start all are left
module _ (ws : List Window) (bytes : List ℕ) (count : ℕ) where
  all_left : left bytes count 0 ≡ addresses_from bytes 0 count
  all_left =
      let whole : count - 0 ≡ count = omega arith in
      ap (addresses_from bytes 0) whole

  pub fit_start : all_fit ws (left bytes count 0) ≡ all_fit ws (addresses_from bytes 0 count)
  fit_start = ap (all_fit ws) all_left

  pub places_start : sets (replicate 64 0) 0 (map (word_place ws) (left bytes count 0)) ≡ places_of ws (addresses_from bytes 0 count)
  unfolding places_of
  places_start = ap (λ (l : List ℕ). sets (replicate 64 0) 0 (map (word_place ws) l)) all_left

-- a whole list
module _ (ws : List Window) (bytes : List ℕ) where
  pub few_chosen : good_choice ws bytes ≡ true → length bytes / 4 ≤ 64
  unfolding good_choice
  few_chosen e =
      let front = (both (eqb (length bytes % 4) 0 && leb (length bytes / 4) 64) (all_fit ws (addresses_of bytes)) e).0 in
      leb-true _ _ (both (eqb (length bytes % 4) 0) (leb (length bytes / 4) 64) front).1

-- 24 in its cases and in no other: the test over the list says of each word what the list of faults says, by induction over the addresses.
use Rattle.std.specs.Prelude.{Some, unwrap_or}
use Prim.Native.Nat.{ℕ, zero, suc, ◌+◌, ◌-◌, ◌/◌, ◌%◌, ◌≤◌, ◌<◌}
use mathlib.Core.Bool.{Bool, true, false, not, ◌&&◌, ◌||◌, true≢false}
use mathlib.Core.List.{List, [], ◌∷◌, map}
use mathlib.Core.Logic.{◌≢◌}
use mathlib.Core.Path.{◌≡◌, refl, sym, ap, ◌∙◌}
use native.Mathlib.Omega.{arith}
use borrow.Author.Tests.{eq-eqb, ne_eqb, eqb-true, eqb-false, le-leb, not-true}
use lib.Dec.{eqb, leb}
use lib.ListN.{length, get_or, take, drop, replicate, length-map}
use lib.Seq.{sets-eq, take_at}
use Rattle.words.specs.rules.Bits.{join}
use Rattle.words.specs.rules.Bytes.{word_at, bytes_at, number}
use Rattle.words.specs.rules.Choice.{pick}
use Rattle.words.proofs.Choice.{chosen, passed, by_test, both, neither}
use Rattle.windows.specs.claims.Touching.{one_grants}
use Rattle.windows.specs.rules.Window.{has_right, inside, end_of, grants_range, chain_grants, place_from, place_of, some}
use Rattle.windows.specs.declared.Right.TheVariants.{Set}
use Rattle.windows.specs.declared.Window.{Window}
use Rattle.windows.proofs.Chains.{either, carries_here, chain_here}
use Rattle.windows.proofs.Laws.{placed_inside}
use Rattle.windows.proofs.Parts.{granted}
use Rattle.opcodes.specs.rules.Answers.{code_of}
use Rattle.bit_choice.specs.rules.Chosen.{addresses_from, addresses_of, may_be_chosen, among, all_fit, good_choice, word_place, places_of, taken}
use Rattle.bit_choice.specs.rules.Chosen.{not_taken, choice_of}
use Rattle.bit_choice.specs.declared.Choice.{Choice}
use Rattle.bit_choice.specs.claims.Laws.{address_at, Faultless, seam, ChoiceLaws}
use Rattle.bit_choice.proofs.Choosing.{few_chosen}

-- the addresses one by one
length_addresses : (bytes : List ℕ) (i n : ℕ) → length (addresses_from bytes i n) ≡ n
unfolding addresses_from
length_addresses bytes i zero = refl
length_addresses bytes i (suc n) = ap suc (length_addresses bytes (i + 1) n)

address_from : (bytes : List ℕ) (i n k : ℕ) → k < n → get_or (addresses_from bytes i n) k 0 ≡ address_at bytes (i + k)
unfolding addresses_from
address_from bytes i zero k h = absurd (omega arith)
address_from bytes i (suc n) zero h =
    let here : i ≡ i + 0 = omega arith in
    ap (address_at bytes) here
address_from bytes i (suc n) (suc k) h =
    let next : i + 1 + k ≡ i + suc k = omega arith in
    address_from bytes (i + 1) n k (omega arith) ∙ ap (address_at bytes) next

address-of : (bytes : List ℕ) (n k : ℕ) → k < n → get_or (addresses_from bytes 0 n) k 0 ≡ address_at bytes k
address-of bytes n k h =
    let here : 0 + k ≡ k = omega arith in
    address_from bytes 0 n k h ∙ ap (address_at bytes) here

not_among : (a : ℕ) (others : List ℕ) → among a others ≡ false → (j : ℕ) → j < length others → get_or others j 0 ≢ a
unfolding among
not_among a [] e j h = absurd (omega arith)
not_among a (b ∷ bs) e zero h = eqb-false b a (neither (eqb b a) (among a bs) e).0
not_among a (b ∷ bs) e (suc j) h = not_among a bs (neither (eqb b a) (among a bs) e).1 j (omega arith)

among_none : (a : ℕ) (others : List ℕ) → ((j : ℕ) → j < length others → get_or others j 0 ≢ a) → among a others ≡ false
unfolding among
among_none a [] none = refl
among_none a (b ∷ bs) none =
    ap (λ (t : Bool). t || among a bs) (ne_eqb b a (none 0 (omega arith))) ∙ among_none a bs (λ j h. none (suc j) (omega arith))

-- what the test over a list says of its words
record Fitting (windows : List Window) (addresses : List ℕ) : Type 0 where
  each : (i : ℕ) → i < length addresses → may_be_chosen windows (get_or addresses i 0) ≡ true
  apart : (i j : ℕ) → i < j → j < length addresses → get_or addresses i 0 ≢ get_or addresses j 0

module _ (windows : List Window) where
  fitting : (addresses : List ℕ) → all_fit windows addresses ≡ true → Fitting windows addresses
  unfolding all_fit
  fitting [] e = record { each = λ i h. absurd (omega arith); apart = λ i j h l. absurd (omega arith) }
  fitting (a ∷ rest) e =
      let whole = both (may_be_chosen windows a && not (among a rest)) (all_fit windows rest) e in
      let front = both (may_be_chosen windows a) (not (among a rest)) whole.0 in
      let later = fitting rest whole.1 in
      record { each = each_one front.0 later; apart = all_apart (not-true (among a rest) front.1) later }
    where
      each_one : may_be_chosen windows a ≡ true → Fitting windows rest → (i : ℕ) → i < suc (length rest) → may_be_chosen windows (get_or (a ∷ rest) i 0) ≡ true
      each_one here later zero h = here
      each_one here later (suc i) h = later.each i (omega arith)

      all_apart : among a rest ≡ false → Fitting windows rest → (i j : ℕ) → i < j → j < suc (length rest) → get_or (a ∷ rest) i 0 ≢ get_or (a ∷ rest) j 0
      all_apart fresh later i zero h l = absurd (omega arith)
      all_apart fresh later zero (suc j) h l = λ e. not_among a rest fresh j (omega arith) (sym e)
      all_apart fresh later (suc i) (suc j) h l = later.apart i j (omega arith) (omega arith)

  fits_all : (addresses : List ℕ) → Fitting windows addresses → all_fit windows addresses ≡ true
  unfolding all_fit
  fits_all [] f = refl
  fits_all (a ∷ rest) f =
      let here : may_be_chosen windows a ≡ true = f.each 0 (omega arith) in
      let fresh : among a rest ≡ false = among_none a rest (λ j h e. f.apart 0 (suc j) (omega arith) (omega arith) (sym e)) in
      let later : all_fit windows rest ≡ true =
      fits_all rest (record { each = λ i h. f.each (suc i) (omega arith); apart = λ i j h l. f.apart (suc i) (suc j) (omega arith) (omega arith) }) in
      rw (here, fresh, later) refl

module _ (windows : List Window) (bytes : List ℕ) where
  good_faultless : good_choice windows bytes ≡ true → Faultless windows bytes
  unfolding good_choice may_be_chosen
  good_faultless e =
      let whole = both (eqb (length bytes % 4) 0 && leb (length bytes / 4) 64) (all_fit windows (addresses_of bytes)) e in
      let front = both (eqb (length bytes % 4) 0) (leb (length bytes / 4) 64) whole.0 in
      let f = fitting windows (addresses_of bytes) whole.1 in
      let size = length_addresses bytes 0 (length bytes / 4) in
      record {
        whole = eqb-true _ _ front.0;
        few = few_chosen windows bytes e;
        aligned = λ i h. rw (← address-of bytes (length bytes / 4) i h)
            (eqb-true _ _ (both (eqb (get_or (addresses_of bytes) i 0 % 4) 0) (one_grants windows Set (get_or (addresses_of bytes) i 0) 4)
            (f.each i (rw size h))).0);
        in_one_window = λ i h. rw (← address-of bytes (length bytes / 4) i h)
            (both (eqb (get_or (addresses_of bytes) i 0 % 4) 0) (one_grants windows Set (get_or (addresses_of bytes) i 0) 4) (f.each i (rw size h))).1;
        apart = λ i j h l e. f.apart i j h (rw size l)
            (address-of bytes (length bytes / 4) i (omega arith) ∙ e ∙ sym (address-of bytes (length bytes / 4) j l));
      }

  faultless_good : Faultless windows bytes → good_choice windows bytes ≡ true
  unfolding good_choice may_be_chosen
  faultless_good f =
      let size = length_addresses bytes 0 (length bytes / 4) in
      let all : all_fit windows (addresses_of bytes) ≡ true =
      fits_all windows (addresses_of bytes) (record {
        each = λ i h.
            let l : i < length bytes / 4 = rw size at h in
            rw (address-of bytes (length bytes / 4) i l, eq-eqb _ _ (f.aligned i l), f.in_one_window i l) refl;
        apart = λ i j h l e.
            let k : j < length bytes / 4 = rw size at l in
            f.apart i j h k (sym (address-of bytes (length bytes / 4) i (omega arith)) ∙ e ∙ address-of bytes (length bytes / 4) j k);
      }) in
      rw (eq-eqb _ _ f.whole, le-leb _ _ f.few, all) refl

  taken_law : Faultless windows bytes → choice_of windows bytes ≡ taken windows (length bytes / 4) (addresses_of bytes)
  unfolding choice_of
  taken_law f = chosen _ _ _ (faultless_good f)

  refused_law : (Faultless windows bytes → ⊥) → choice_of windows bytes ≡ not_taken
  unfolding choice_of
  refused_law faulty = by_test (good_choice windows bytes) (λ t. absurd (faulty (good_faultless t))) (λ f. passed _ _ _ f)

  places_law : Faultless windows bytes → take (length bytes / 4) (choice_of windows bytes).chosen.places ≡ map (word_place windows) (addresses_of bytes)
  unfolding places_of
  places_law f =
      let zeros : List ℕ = replicate 64 0 in
      let ps : List ℕ = map (word_place windows) (addresses_of bytes) in
      let size : length ps ≡ length bytes / 4 = length-map (addresses_of bytes) (word_place windows) ∙ length_addresses bytes 0 (length bytes / 4) in
      let room : 0 + length ps ≤ length zeros = rw (size) (omega (arith, f.few)) in
      ap (λ (c : Choice). take (length bytes / 4) c.chosen.places) (taken_law f)
      ∙ ap (take (length bytes / 4)) (sets-eq ps zeros 0 room)
      ∙ take_at ps (drop (0 + length ps) zeros) (length bytes / 4) size

-- a word that one window grants is placed, wherever the windows' bytes begin
placed_from : (ws : List Window) (a base : ℕ) → one_grants ws Set a 4 ≡ true → place_from base ws Set a 4 ≡ Some (unwrap_or (place_from base ws Set a 4) 0)
unfolding some place_from
placed_from [] a base e = absurd (true≢false (sym e))
placed_from (w ∷ ws) a base e =
    by_test (chain_grants w ws Set a 4)
    (λ t. rw (chosen (chain_grants w ws Set a 4) (Some (base + (a - w.first))) (place_from (base + w.length) ws Set a 4) t) refl)
    (λ f.
    either (grants_range w Set a 4) (one_grants ws Set a 4) e
    (λ g.
    let whole = granted w Set a 4 g in
    absurd (true≢false (sym (chain_here w ws Set a 4 whole.address_held (carries_here ws Set (end_of w) (a + 4) whole.to_end)) ∙ f)))
    (λ later.
    rw (passed (chain_grants w ws Set a 4) (Some (base + (a - w.first))) (place_from (base + w.length) ws Set a 4) f)
    (placed_from ws a (base + w.length) later)))

word_placed : (windows : List Window) (a : ℕ) → one_grants windows Set a 4 ≡ true → place_of windows Set a 4 ≡ Some (word_place windows a)
unfolding place_of word_place
word_placed windows a e = placed_from windows a 0 e

seam_placed : place_of seam Set 0x80000004 4 ≡ Some 4
unfolding place_of place_from has_right inside pick
seam_placed = refl

seam_refused : code_of (choice_of seam (4 ∷ 0 ∷ 0 ∷ 0x80 ∷ [])).refusal ≡ 24
unfolding choice_of good_choice all_fit addresses_from may_be_chosen among word_at bytes_at number join grants_range has_right inside some pick
seam_refused = refl

pub choice_laws : (windows : List Window) (bytes : List ℕ) → ChoiceLaws windows bytes
choice_laws windows bytes = record {
  taken = λ f. ap (λ (c : Choice). code_of c.refusal) (taken_law windows bytes f);
  refused = λ f. ap (λ (c : Choice). code_of c.refusal) (refused_law windows bytes f);
  count = λ f. ap (λ (c : Choice). c.chosen.count) (taken_law windows bytes f);
  places = places_law windows bytes;
  word = λ a e. (word_placed windows a e, placed_inside windows Set a 4 (word_place windows a) (word_placed windows a e));
  set_over_seam = seam_placed;
  chosen_over_seam = seam_refused;
}

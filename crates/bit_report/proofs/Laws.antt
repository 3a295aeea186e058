-- The laws. Parts and warnings go by what holds of a lowest bit; a field that is found has the bit that was asked about, by induction over the lines; the bits
-- of a command are sums on both sides.
use Prim.Native.Nat.{ℕ, ◌+◌, ◌-◌, ◌*◌, ◌≤◌, ◌<◌, min}
use mathlib.Core.Bool.{Bool, true, false, not, ◌&&◌, ◌||◌, true≢false}
use mathlib.Core.List.{List, [], ◌∷◌}
use mathlib.Core.Path.{◌≡◌, refl, sym, ap, ap₂, ◌∙◌}
use native.Mathlib.Omega.{arith}
use borrow.Author.Tests.{ltb-true, ltb-false, leb-true, eqb-true, eqb-false, not-true, not-false, lt-ltb, le-leb, eq-eqb}
use Rattle.std.specs.Prelude.{Option, Some}
use Rattle.std.specs.Option.{option_map_or}
use lib.Dec.{leb, ltb, eqb}
use Rattle.words.specs.rules.Bits.{within}
use Rattle.words.proofs.Choice.{both, by_test, of_choice}
use Rattle.commands.specs.declared.Wrote.{Wrote}
use Rattle.field_lines.specs.rules.Clashes.{has_bit}
use Rattle.field_lines.specs.rules.Text.{same}
use Rattle.field_lines.specs.declared.FieldLine.{FieldLine}
use Rattle.field_lines.proofs.SameBytes.{same_refl, same_equal}
use Rattle.field_register.specs.rules.Questions.{is_about, answers, found_in}
use Rattle.field_register.specs.declared.Subject.{Subject}
use Rattle.field_register.specs.declared.Subject.TheVariants.{Bit}
use Rattle.field_register.proofs.ByLine.{by_answer}
use Rattle.field_register.specs.rules.Reading.{lines_in}
use Rattle.bit_report.specs.rules.Deeds.{spread}
use Rattle.bit_report.specs.rules.Fields.{has_field, has_other, reaches_out, has_cut, first_field, two_fields, cut_field}
use Rattle.bit_report.specs.claims.Laws.{SameTold, PartLaws, FirstLaws, DeedLaws, Two, Cut, WarningLaws}
use Rattle.bit_report.specs.rules.Lowest.{lowest_in}
use Rattle.bit_report.specs.rules.Parts.{field_at, name_in, same_field, told_of, same_writer, alike, part_end, by_one, is_first}
use Rattle.bit_report.specs.declared.Kind.{Kind}
use Rattle.bit_report.specs.declared.Names.{Names}
use Rattle.bit_report.specs.declared.Told.{Told}
use Rattle.bit_report.specs.declared.Word.{Word}
use Rattle.bit_report.proofs.Lowest.{lowest_from, lowest_to, lowest_before, found_holds, holds_found}

-- ---- Parts

same_told : (a b : Told) → alike a b ≡ true → SameTold a b
unfolding alike same_writer same_field
same_told a b e =
    let parts = both _ _ e in
    let writer = both _ _ parts.0 in
    record { number = eqb-true _ _ writer.0; offset = eqb-true _ _ writer.1; name = same_equal _ _ parts.1 }

alike_itself : (a : Told) → alike a a ≡ true
unfolding alike same_writer same_field
alike_itself a = ap₂ ◌&&◌ (ap₂ ◌&&◌ (eq-eqb a.number a.number refl) (eq-eqb a.at a.at refl)) (same_refl (name_in a.field))

pub part_laws : (numbers offsets : List ℕ) (names : Names) (w : Word) (k : ℕ) → PartLaws numbers offsets names w k
unfolding part_end
part_laws numbers offsets names w k =
    let told : ℕ → Told = told_of numbers offsets names w in
    let unlike : ℕ → Bool = λ j. not (alike (told k) (told j)) in
    record {
      not_empty = omega (arith, lowest_from unlike (k + 1) (32 - (k + 1)));
      in_word = λ h. omega (arith, lowest_to unlike (k + 1) (32 - (k + 1)));
      all_alike =
          λ j h below.
          same_told (told k) (told j)
          (by_test (eqb j k) (λ t. ap (λ (i : ℕ). alike (told k) (told i)) (eqb-true j k t) ∙ alike_itself (told k))
          (λ f.
          let other : j ≡ k → ⊥ = eqb-false j k f in
          not-false _ (lowest_before unlike (k + 1) (32 - (k + 1)) j (omega arith) below)));
      not_behind = λ h. not-true _ (found_holds unlike (k + 1) 32 h);
    }

pub first_laws : (numbers offsets : List ℕ) (index k : ℕ) → FirstLaws numbers offsets index k
unfolding is_first
first_laws numbers offsets index k =
    let test : ℕ → Bool = by_one numbers offsets index k in
    record {
      none_below = λ e j h. lowest_before test 0 (k - 0) j (omega arith) (omega (arith, ltb-false (lowest_in test 0 k) k (not-true _ e)));
      one_below = λ j h e. ap not (lt-ltb (lowest_in test 0 k) k (omega (arith, holds_found test 0 k j (omega arith) h e)));
    }

-- ---- Commands

same_leb : (a b c d : ℕ) → (a ≤ b → c ≤ d) → (c ≤ d → a ≤ b) → leb a b ≡ leb c d
same_leb a b c d there back =
    by_test (leb a b) (λ t. t ∙ sym (le-leb c d (there (leb-true a b t))))
    (λ f.
    by_test (leb c d) (λ t. absurd (true≢false (sym (le-leb a b (back (leb-true c d t))) ∙ f))) (λ g. f ∙ sym g))

same_ltb : (a b c d : ℕ) → (a < b → c < d) → (c < d → a < b) → ltb a b ≡ ltb c d
same_ltb a b c d there back =
    by_test (ltb a b) (λ t. t ∙ sym (lt-ltb c d (there (ltb-true a b t))))
    (λ f.
    by_test (ltb c d) (λ t. absurd (true≢false (sym (lt-ltb a b (back (ltb-true c d t))) ∙ f))) (λ g. f ∙ sym g))

pub deed_laws : (kind : Kind) (word : ℕ) (w : Wrote) → DeedLaws kind word w
unfolding spread within
deed_laws kind word w =
    record {
      stamped =
          λ k h.
          ap₂ ◌&&◌ (same_leb (8 * w.place + w.start) (8 * word + k) _ k (λ below. omega arith) (λ below. omega arith))
          (same_ltb (8 * word + k) (8 * w.place + w.start + w.count) k _ (λ below. omega arith) (λ below. omega arith));
      by_address =
          λ base.
          ap₂ (λ (from to : ℕ). record { kind = kind; from = from; to = to }) (ap (min 32) (omega arith)) (ap (min 32) (omega arith));
    }

-- ---- Fields

-- a line that is found answers
found_answers : (s : Subject) (release : ℕ) (ls : List FieldLine) (l : FieldLine) → found_in s release ls ≡ Some l → answers s release l ≡ true
unfolding found_in
found_answers s release [] l = λ e. cc
found_answers s release (m ∷ ls) l =
    of_choice (λ (f : Option FieldLine). f ≡ Some l → answers s release l ≡ true) (answers s release m)
    (λ held e. let is : m ≡ l = cc in rw (← is) held)
    (λ failed e. found_answers s release ls l e)

names_equal : (a b : Option FieldLine) → same_field a b ≡ true → name_in a ≡ name_in b
unfolding same_field
names_equal a b e = same_equal _ _ e

module _ (names : Names) (word : ℕ) where
  -- so the field of a bit has the bit
  own_bit : (k : ℕ) (l : FieldLine) → field_at names word k ≡ Some l → has_bit l word k ≡ true
  unfolding answers is_about
  own_bit k l e = (both _ _ (found_answers (Bit word k) names.release (lines_in names.register) l e)).0

  module _ (from to : ℕ) where
    two_there : two_fields names word from to ≡ true → Two names word from to
    unfolding two_fields has_other same_field
    two_there e =
        let field : Option FieldLine = first_field names word from to in
        let p : ℕ = lowest_in (has_other names word field) from to in
        let q : ℕ = lowest_in (has_field names word) from to in
        let p-below : p < to = ltb-true _ _ e in
        let p-from : from ≤ p = lowest_from (has_other names word field) from (to - from) in
        let q-from : from ≤ q = lowest_from (has_field names word) from (to - from) in
        let parts = both _ _ (found_holds (has_other names word field) from to p-below) in
        let q-first : q ≤ p = holds_found (has_field names word) from to p p-from p-below parts.0 in
        let q-below : q < to = omega arith in
        record {
          one = q;
          other = p;
          one_written = (q-from, q-below);
          other_written = (p-from, p-below);
          one_named = found_holds (has_field names word) from to q-below;
          other_named = parts.0;
          differ =
              λ same_names.
              true≢false
              (sym (ap (λ (name : List ℕ). same (name_in (field_at names word p)) name) same_names ∙ same_refl (name_in (field_at names word p)))
              ∙ not-true _ parts.1);
        }

    -- a bit of another name is found
    other_found : (k : ℕ) → from ≤ k → k < to → has_field names word k ≡ true → same_field (field_at names word k) (first_field names word from to) ≡ false
        → two_fields names word from to ≡ true
    unfolding two_fields has_other
    other_found k h below named differ =
        let found = holds_found (has_other names word (first_field names word from to)) from to k h below (ap₂ ◌&&◌ named (ap not differ)) in
        lt-ltb (lowest_in (has_other names word (first_field names word from to)) from to) to (omega arith)

    two_told : Two names word from to → two_fields names word from to ≡ true
    two_told t =
        by_test (same_field (field_at names word t.one) (first_field names word from to))
        (λ one_same.
        by_test (same_field (field_at names word t.other) (first_field names word from to))
        (λ other-same. absurd (t.differ (names_equal _ _ one_same ∙ sym (names_equal _ _ other-same))))
        (other_found t.other t.other_written.0 t.other_written.1 t.other_named))
        (other_found t.one t.one_written.0 t.one_written.1 t.one_named)

    -- a field that is cut, and how
    record CutAt (k : ℕ) : Type 0 where
      field : FieldLine
      named : field_at names word k ≡ Some field
      out : reaches_out field from to ≡ true

    cut_at : (k : ℕ) → has_cut names word from to k ≡ true → CutAt k
    unfolding has_cut
    cut_at k e =
        by_answer (field_at names word k) (λ l named. record { field = l; named = named; out = rw named at e })
        (λ none. absurd (true≢false (sym (rw none at e))))

    cut_there : cut_field names word from to ≡ true → Cut names word from to
    unfolding cut_field reaches_out has_bit
    cut_there e =
        let p : ℕ = lowest_in (has_cut names word from to) from to in
        let p-below : p < to = ltb-true _ _ e in
        let p-from : from ≤ p = lowest_from (has_cut names word from to) from (to - from) in
        let cut = cut_at p (found_holds (has_cut names word from to) from to p-below) in
        let l : FieldLine = cut.field in
        let own : ((eqb l.word word && leb l.start p) ≡ true) × (leb p l.stop ≡ true) = both _ _ (own_bit p l cut.named) in
        let begun : (eqb l.word word ≡ true) × (leb l.start p ≡ true) = both _ _ own.0 in
        let above : l.start ≤ p = leb-true l.start p begun.1 in
        let below : p ≤ l.stop = leb-true p l.stop own.1 in
        by_test (ltb l.start from)
        (λ t.
        let out : l.start < from = ltb-true l.start from t in
        record {
          inside = p;
          outside = l.start;
          written = (p-from, p-below);
          field = l;
          named = cut.named;
          same-field = ap₂ ◌&&◌ (ap₂ ◌&&◌ begun.0 (le-leb l.start l.start (omega arith))) (le-leb l.start l.stop (omega arith));
          not_written = λ h. omega (arith, h.0);
        })
        (λ f.
        let out : to ≤ l.stop = leb-true to l.stop (sym (ap (λ (t : Bool). t || leb to l.stop) f) ∙ cut.out) in
        record {
          inside = p;
          outside = l.stop;
          written = (p-from, p-below);
          field = l;
          named = cut.named;
          same-field = ap₂ ◌&&◌ (ap₂ ◌&&◌ begun.0 (le-leb l.start l.stop (omega arith))) (le-leb l.stop l.stop (omega arith));
          not_written = λ h. omega (arith, h.1);
        })

    -- a bit that is not among others lies below or above them
    cut_out : (l : FieldLine) (k : ℕ) → has_bit l word k ≡ true → ((from ≤ k) × (k < to) → ⊥) → reaches_out l from to ≡ true
    unfolding has_bit reaches_out
    cut_out l k e out =
        let own : ((eqb l.word word && leb l.start k) ≡ true) × (leb k l.stop ≡ true) = both _ _ e in
        let begun : (eqb l.word word ≡ true) × (leb l.start k ≡ true) = both _ _ own.0 in
        let above : l.start ≤ k = leb-true l.start k begun.1 in
        let below : k ≤ l.stop = leb-true k l.stop own.1 in
        by_test (ltb k from)
        (λ t. ap (λ (x : Bool). x || leb to l.stop) (lt-ltb l.start from (omega (arith, ltb-true k from t))))
        (λ f.
        let from_on : from ≤ k = ltb-false k from f in
        let past : to ≤ k = by_test (ltb k to) (λ t. absurd (out (from_on, ltb-true k to t))) (λ g. ltb-false k to g) in
        by_test (ltb l.start from) (λ t. ap (λ (x : Bool). x || leb to l.stop) t)
        (λ g. ap (λ (x : Bool). x || leb to l.stop) g ∙ le-leb to l.stop (omega arith)))

    cut_told : Cut names word from to → cut_field names word from to ≡ true
    unfolding cut_field has_cut
    cut_told t =
        let out = cut_out t.field t.outside t.same-field t.not_written in
        let cut = ap (λ (o : Option FieldLine). option_map_or (λ l. reaches_out l from to) o false) t.named ∙ out in
        let found = holds_found (has_cut names word from to) from to t.inside t.written.0 t.written.1 cut in
        lt-ltb (lowest_in (has_cut names word from to) from to) to (omega (arith, t.written.1))

    pub warning_laws : WarningLaws names word from to
    warning_laws = record { two_there = two_there; two_told = two_told; cut_there = cut_there; cut_told = cut_told }

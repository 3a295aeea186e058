-- A field that is set holds the data: each of its bits is the data's, and a number below a power of two is told by its bits below it. 16 is given in its
-- case alone, since each test of the judgement leads elsewhere.
use Rattle.std.specs.Prelude.{Option, Some, None, Ok, Err, ok_or}
use Prim.Native.Nat.{ℕ, ◌+◌, ◌-◌, ◌*◌, ◌^◌, ◌≤◌, ◌<◌}
use mathlib.Core.Bool.{true, false, ◌&&◌, false≢true}
use mathlib.Core.List.{List, [], ◌∷◌}
use mathlib.Core.Path.{◌≡◌, refl, ap, ap₂, subst, ◌∙◌}
use native.Mathlib.Nat.{mod-lt}
use native.Mathlib.Omega.{arith}
use lib.Dec.{eqb, leb}
use lib.ListN.{length}
use lib.Pow.{pow_pos}
use borrow.Author.Tests.{le-leb, leb-true, leb-false, eqb-true, eqb-false, not-false}
use Rattle.words.specs.rules.Bits.{bit, join, with_field}
use Rattle.words.specs.rules.Bytes.{byte, number, bytes_at, word_at, put, size_of, fits, field_fits, field_written}
use Rattle.words.specs.rules.Choice.{pick}
use Rattle.words.specs.declared.Unit.{Unit as UnitOf}
use Rattle.words.specs.declared.Unit.TheVariants.{One, Two, Four}
use Rattle.words.proofs.Choice.{chosen, passed, by_test, both, of_choice}
use Rattle.words.proofs.Joins.{bit_shifted, bit_low}
use Rattle.words.proofs.Ranges.{inside}
use Rattle.words.proofs.WrittenBits.{bit_unit}
use Rattle.windows.specs.rules.Window as window
use Rattle.windows.specs.rules.Window.{sum_of, place_of}
use Rattle.windows.specs.declared.Window.{Window}
use Rattle.windows.specs.declared.Right.TheVariants as right
use Rattle.opcodes.specs.declared.Refusal.TheVariants as refusal
use Rattle.commands.specs.rules.Commands.{judged_code, multiple, range_judged, unit_of, units_judged}
use Rattle.commands.specs.rules.Commands.{start_of, stop_of, field_shape, type_shape, shape_of}
use Rattle.commands.specs.rules.Commands.{too_wide, shape_judged, setting_judged, setting_done, setting_memory, Judged, Shape}
use Rattle.commands.proofs.Judging.{shape_too_wide}
use Rattle.commands.proofs.Shapes.{unit_other, shape_typed}
use Rattle.law_effects.specs.claims.Effects.{setting_effect, DoesInside}
use Rattle.law_effects.specs.claims.Fields.{NamesField, field_width, field_at, Holds, FieldLaws}
use Rattle.law_effects.proofs.Effects.{setting_refused, setting_granted, bits_tell}

module _ (windows : List Window) (word address value : ℕ) (named : NamesField word) where
  abbrev pub field : Shape
  field = Some (record { unit = Four; start = start_of word; width = field_width word; field = true })

  pub named_shape : shape_of word ≡ field
  unfolding field_shape
  named_shape =
      shape_typed word named.high ∙ ap (type_shape word) (unit_other (byte word 0) (omega arith))
      ∙ chosen _ _ _ (le-leb _ _ named.kind.1)
      ∙ chosen _ _ _ (ap₂ ◌&&◌ (le-leb _ _ named.order) (le-leb _ _ named.last))

  named_too_wide : 2 ^ field_width word ≤ value → setting_judged windows word address value ≡ Err refusal.TooWide
  unfolding too_wide
  named_too_wide h = shape_too_wide windows address value named_shape refl (le-leb _ _ h)

  -- data that were accepted fit
  accepted_fits : {place : ℕ} → setting_judged windows word address value ≡ Ok place → value < 2 ^ field_width word
  accepted_fits e =
      by_test (leb (2 ^ field_width word) value)
      (λ wide. let refused = named_too_wide (leb-true _ _ wide) in absurd (let z : ◌≡◌ {A = ℕ} 0 1 = cc in omega arith))
      (λ fit. leb-false _ _ fit)

  module _ (m : List ℕ) (lent : length m ≡ sum_of windows) {place : ℕ} (granted : setting_judged windows word address value ≡ Ok place) where
    abbrev left : List ℕ
    left = setting_memory (Ok place) m word value

    does : DoesInside (setting_effect place field value) m left
    does = subst (λ (s : Shape). DoesInside (setting_effect place s value) m left) named_shape (setting_granted windows m lent word address value granted)

    -- bit j of the field
    bit_held : (j : ℕ) → j < field_width word → bit (field_at left place word) j ≡ bit value j
    unfolding field_at word_at
    bit_held j h =
        let at : ℕ = 8 * place + (start_of word + j) in
        let back : at - (8 * place + start_of word) ≡ j = omega arith in
        bit_low _ (field_width word) j h ∙ bit_shifted _ (start_of word) j
        ∙ bit_unit left place 4 (start_of word + j) (omega (arith, named.order, named.last))
        ∙ does.does.each_bit at (omega (arith, does.lies))
        ∙ chosen _ _ _ (inside _ _ at (omega arith) (omega arith))
        ∙ ap (bit value) back

    named_holds : Holds word place value m left
    unfolding field_at
    named_holds =
        record {
          held = bits_tell (field_width word) _ value (mod-lt _ (pow_pos (field_width word))) (accepted_fits granted) bit_held;
          others = λ p h out. does.does.each_bit p h ∙ passed _ _ _ out;
        }

-- a judgement is 16 in its case alone
module _ (windows : List Window) (word address value : ℕ) where
  abbrev Case : Judged → Type 0
  Case judged = judged ≡ Err refusal.TooWide → NamesField word × (2 ^ field_width word ≤ value)

  abbrev ShapeCase : Shape → Type 0
  ShapeCase shape = Case (shape_judged windows shape address value)

  abbrev TypeCase : Option UnitOf → Type 0
  TypeCase kind = ShapeCase (type_shape word kind)

  another : (judged : Judged) → eqb (judged_code judged) 16 ≡ false → Case judged
  another judged e f = absurd (eqb-false _ _ e (ap judged_code f))

  place_case : (found : Option ℕ) → Case (ok_or found refusal.Range)
  place_case (Some place) = another (Ok place) refl
  place_case None = another (Err refusal.Range) refl

  unit_case : (unit : UnitOf) → Case (units_judged windows right.Set unit address (size_of unit))
  unfolding units_judged range_judged
  unit_case unit = of_choice Case _ (λ e. another (Err refusal.Unaligned) refl) (λ e. place_case (place_of windows right.Set address (size_of unit)))

  whole_case : (unit : UnitOf) → ShapeCase (type_shape word (Some unit))
  whole_case unit = of_choice Case false (λ e. absurd (false≢true e)) (λ e. unit_case unit)

  field_case : (3 ≤ byte word 0) × (byte word 0 ≤ 4) → byte word 3 ≡ 0 → ShapeCase (field_shape (start_of word) (stop_of word))
  unfolding field_shape too_wide
  field_case kind high =
      of_choice ShapeCase (leb (start_of word) (stop_of word) && leb (stop_of word) 31)
      (λ e.
      let parts = both (leb (start_of word) (stop_of word)) _ e in
      of_choice Case (leb (2 ^ field_width word) value)
      (λ wide f. (record { kind = kind; order = leb-true _ _ parts.0; last = leb-true _ _ parts.1; high = high }, leb-true _ _ wide))
      (λ fit. unit_case Four))
      (λ e. another (Err refusal.TypeWord) refl)

  kind_case : byte word 3 ≡ 0 → ShapeCase (type_shape word (unit_of (byte word 0)))
  unfolding unit_of
  kind_case high =
      of_choice TypeCase (eqb (byte word 0) 0) (λ e. whole_case One)
      (λ more.
      of_choice TypeCase (eqb (byte word 0) 1) (λ e. whole_case Two)
      (λ many.
      of_choice TypeCase (eqb (byte word 0) 2) (λ e. whole_case Four)
      (λ most.
      of_choice ShapeCase (leb (byte word 0) 4)
      (λ low.
      field_case
      (omega (arith, eqb-false (byte word 0) 0 more, eqb-false (byte word 0) 1 many, eqb-false (byte word 0) 2 most), leb-true _ _ low) high)
      (λ e. another (Err refusal.TypeWord) refl))))

  setting_case : ShapeCase (shape_of word)
  unfolding shape_of
  setting_case =
      of_choice ShapeCase _ (λ e. another (Err refusal.TypeWord) refl) (λ e. kind_case (eqb-true _ _ (not-false _ e)))

pub field_laws : FieldLaws
unfolding pick bit join with_field byte number bytes_at put fits field_fits field_written window.has_right window.inside window.grants_range
    window.place_from place_of multiple range_judged unit_of units_judged field_shape shape_of too_wide setting_done setting_memory
field_laws =
    record {
      accepted = λ windows m lent word address value place named granted. named_holds windows word address value named m lent granted;
      too_wide = λ windows word address value named h. named_too_wide windows word address value named h;
      only_too_wide = setting_case;
      nothing_done = λ m checksum word value delay. (setting_refused m {q = refusal.TooWide} refl word value, refl);
      seven = refl;
      eight = refl;
      byte_of_more = λ a b c d. ap (λ (x : ℕ). x ∷ b ∷ c ∷ d ∷ []) (omega arith);
    }

-- What each judgement comes to, by the facts that its tests ask. Each law takes the tests of a definition one after the other.
use Rattle.std.proofs.Common.{◌≡◌, ℕ, ◌%◌, Bool, true, false, not, ◌&&◌, List, refl, ap, ◌∙◌, ap₂, arith, eq-eqb}
use Rattle.std.proofs.Common.{Option, Some, None, Ok, Err, ok_or}
use mathlib.Core.Bool.{and-false}
use Rattle.words.specs.rules.Bytes.{size_of}
use Rattle.words.specs.rules.Choice.{pick}
use Rattle.words.specs.declared.Unit.{Unit as UnitOf}
use Rattle.words.specs.declared.Unit.TheVariants.{One}
use Rattle.words.proofs.Choice.{chosen, passed, of_choice}
use Rattle.windows.specs.rules.Window.{place_of}
use Rattle.windows.specs.declared.Window.{Window}
use Rattle.windows.specs.declared.Right.{Right}
use Rattle.windows.specs.declared.Right.TheVariants as right
use Rattle.opcodes.specs.declared.Refusal.{Refusal}
use Rattle.opcodes.specs.declared.Refusal.TheVariants as refusal
use Rattle.commands.specs.rules.Commands.{multiple, barred, range_judged, load_judged, unit_of, units_judged, type_judged, fill_judged, shape_of}
use Rattle.commands.specs.declared.Bits.{Bits}
use Rattle.commands.specs.rules.Commands.{too_wide, shape_judged, setting_judged, entry_judged, Judged, Shape}

-- whole units at an address are judged by their range
pub units_range : (windows : List Window) (wanted : Right) (unit : UnitOf) (address size : ℕ) → address % size_of unit ≡ 0 → size % size_of unit ≡ 0
    → units_judged windows wanted unit address size ≡ range_judged windows wanted address size
unfolding units_judged multiple
units_range windows wanted unit address size a s = passed _ _ _ (ap₂ (λ (t u : Bool). not (t && u)) (eq-eqb _ _ a) (eq-eqb _ _ s))

-- a load is judged as a fill of bytes, for which every address and size is a multiple
pub bytes_judged : (windows : List Window) (address size : ℕ) → fill_judged windows address size 0 ≡ load_judged windows address size
unfolding fill_judged load_judged unit_of
bytes_judged windows address size =
    let one : unit_of 0 ≡ Some One = chosen _ _ _ refl in
    ap (λ (kind : Option UnitOf). type_judged windows address size kind) one ∙ units_range windows right.Load One address size (omega arith) (omega arith)

-- data that are too wide for a field are refused, others judged by the unit
module _ (windows : List Window) (address value : ℕ) {shape : Shape} {bits : Bits} (known : shape ≡ Some bits) where
  pub shape_too_wide : bits.field ≡ true → too_wide bits.width value ≡ true → shape_judged windows shape address value ≡ Err refusal.TooWide
  shape_too_wide f w = rw known (chosen _ _ _ (ap₂ ◌&&◌ f w))

  pub shape_fits : too_wide bits.width value ≡ false
      → shape_judged windows shape address value ≡ units_judged windows right.Set bits.unit address (size_of bits.unit)
  shape_fits w = rw known (passed _ _ _ (ap (λ (t : Bool). bits.field && t) w ∙ and-false bits.field))

-- a later number: of a test that fails it leaves the judgement, of one that holds it refuses what was granted
pub unbarred : (test : Bool) (q : Refusal) (judged : Judged) → test ≡ false → barred test q judged ≡ judged
unbarred test q (Ok place) e = passed _ _ _ e
unbarred test q (Err first) e = refl

pub bars : (test : Bool) (q : Refusal) (place : ℕ) → test ≡ true → barred test q (Ok place) ≡ Err q
bars test q place e = chosen _ _ _ e

-- what is granted after it was granted before it, its test having failed
pub granted_before : (test : Bool) (q : Refusal) (judged : Judged) (place : ℕ) → barred test q judged ≡ Ok place
    → (test ≡ false) × (judged ≡ Ok place)
unfolding pick
granted_before false q (Ok there) place e = (refl, e)
granted_before true q (Ok there) place e = (cc, cc)
granted_before test q (Err first) place e = (cc, cc)

-- what holds of each refusal that a judgement may give
pub record EachRefusal (P : Refusal → Type 0) : Type 0 where
  pub type-word : P refusal.TypeWord
  pub too_wide : P refusal.TooWide
  pub unaligned : P refusal.Unaligned
  pub range : P refusal.Range
  pub entry : P refusal.Entry

abbrev pub Passes : (Refusal → Type 0) → Judged → Type 0
Passes P (Ok place) = Unit {0}
Passes P (Err q) = P q

-- it holds after a later number too, if it holds of that number
pub barred_passes : (P : Refusal → Type 0) (test : Bool) (q : Refusal) (judged : Judged) → P q → Passes P judged → Passes P (barred test q judged)
barred_passes P test q (Ok place) p passes = of_choice (Passes P) test (λ e. p) (λ e. tt)
barred_passes P test q (Err first) p passes = passes

-- it holds of the one given
module _ (P : Refusal → Type 0) (each : EachRefusal P) where
  placed_passes : (q : Refusal) (place : Option ℕ) → P q → Passes P (ok_or place q)
  placed_passes q (Some place) p = tt
  placed_passes q None p = p

  module _ (windows : List Window) where
    range_passes : (wanted : Right) (address size : ℕ) → Passes P (range_judged windows wanted address size)
    unfolding range_judged
    range_passes wanted address size = placed_passes refusal.Range (place_of windows wanted address size) each.range

    units_pass : (wanted : Right) (unit : UnitOf) (address size : ℕ) → Passes P (units_judged windows wanted unit address size)
    unfolding units_judged
    units_pass wanted unit address size = of_choice (Passes P) _ (λ e. each.unaligned) (λ e. range_passes wanted address size)

    type_passes : (address size : ℕ) (kind : Option UnitOf) → Passes P (type_judged windows address size kind)
    type_passes address size None = each.type-word
    type_passes address size (Some unit) = units_pass right.Load unit address size

    pub load_passes : (address size : ℕ) → Passes P (load_judged windows address size)
    unfolding load_judged
    load_passes = range_passes right.Load

    pub fill_passes : (address size kind : ℕ) → Passes P (fill_judged windows address size kind)
    unfolding fill_judged
    fill_passes address size kind = type_passes address size (unit_of kind)

    shape_passes : (shape : Shape) (address value : ℕ) → Passes P (shape_judged windows shape address value)
    shape_passes None address value = each.type-word
    shape_passes (Some bits) address value =
        of_choice (Passes P) _ (λ e. each.too_wide) (λ e. units_pass right.Set bits.unit address (size_of bits.unit))

    pub setting_passes : (word address value : ℕ) → Passes P (setting_judged windows word address value)
    setting_passes word address value = shape_passes (shape_of word) address value

    pub entry_passes : (address : ℕ) → Passes P (entry_judged windows address)
    unfolding entry_judged
    entry_passes address =
        of_choice (Passes P) _ (λ e. each.entry) (λ e. placed_passes refusal.Entry (place_of windows right.Entry address 0) each.entry)

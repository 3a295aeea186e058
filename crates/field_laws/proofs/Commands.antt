-- The command that is made for a name: its words name the line's own bits, and setting them is what the loader does with such a command.
use Prim.Native.Nat.{ℕ, zero, suc, ◌+◌, ◌-◌, ◌^◌, ◌≤◌, ◌<◌}
use mathlib.Core.Bool.{Bool, false, ◌&&◌}
use mathlib.Core.List.{List}
use mathlib.Core.Path.{◌≡◌, refl, sym, ap, ap₂, ◌∙◌}
use native.Mathlib.Nat.{mod-eq_of_lt, lt_of_lt_of_le}
use native.Mathlib.Omega.{arith}
use borrow.Author.Tests.{leb-false}
use Rattle.std.specs.Prelude.{Option, Some, None, Result, Ok, Err}
use Rattle.std.specs.Option.{option_map_or}
use lib.Dec.{leb, ltb, lit<, leb-suc-suc}
use lib.ListN.{get_or}
use lib.Pow.{pow_mono}
use Rattle.words.specs.rules.Bits.{within}
use Rattle.words.specs.rules.Bytes.{byte}
use Rattle.words.proofs.Choice.{of_choice}
use Rattle.commands.specs.rules.Commands.{start_of, stop_of, width_of, too_wide}
use Rattle.law_effects.specs.claims.Fields.{NamesField, field_width}
use Rattle.field_lines.specs.declared.FieldLine.{FieldLine}
use Rattle.field_register.specs.rules.Commands.{start_byte, stop_byte, type_word, words_for, command_of}
use Rattle.field_register.specs.declared.FieldRefusal.{FieldRefusal}
use Rattle.field_register.specs.declared.FieldRefusal.TheVariants.{NoField}
use Rattle.field_laws.specs.claims.WellFormed.{InRanges}

-- what a command that was made says of the line
pub record OfLine (f : Option FieldLine) (value : ℕ) (words : List ℕ) : Type 0 where
  pub line : FieldLine
  pub is_found : f ≡ Some line
  pub fits : too_wide (width_of (start_byte line) (stop_byte line)) value ≡ false
  pub words_are : words_for line value ≡ words

pub of_line : (f : Option FieldLine) (value : ℕ) (words : List ℕ) → option_map_or (λ l. command_of l value) f (Err NoField) ≡ Ok words
    → OfLine f value words
unfolding command_of
of_line None value words = λ e. cc
of_line (Some l) value words =
    of_choice (λ (made : Result (List ℕ) FieldRefusal). made ≡ Ok words → OfLine (Some l) value words)
    (too_wide (width_of (start_byte l) (stop_byte l)) value) (λ wide e. cc)
    (λ fit e. let is : words_for l value ≡ words = cc in record { line = l; is_found = refl; fits = fit; words_are = is })

-- a place below the end of a field is one up to its last bit
same_end : (s t k : ℕ) → s ≤ t → ltb k (s + (t - s + 1)) ≡ leb k t
same_end s t k h =
    let e : s + (t - s + 1) ≡ suc t = omega arith in
    ap (ltb k) e ∙ leb-suc-suc k t

-- the type word of a sound line names its field
module _ (l : FieldLine) (sound : InRanges l) where
  start_is : start_byte l ≡ l.start
  start_is = mod-eq_of_lt (omega (arith, sound))

  stop_is : stop_byte l ≡ l.stop
  stop_is = mod-eq_of_lt (omega (arith, sound))

  pub type_start : start_of (type_word l) ≡ l.start
  unfolding type_word byte
  type_start = rw (start_is, stop_is) (omega (arith, sound))

  pub type_stop : stop_of (type_word l) ≡ l.stop
  unfolding type_word byte
  type_stop = rw (start_is, stop_is) (omega (arith, sound))

  pub type_kind : byte (type_word l) 0 ≡ 3
  unfolding type_word byte
  type_kind = omega (arith, sound)

  type_high : byte (type_word l) 3 ≡ 0
  unfolding type_word byte
  type_high = omega (arith, sound)

  pub names_field : NamesField (type_word l)
  names_field =
      record {
        kind = (omega (arith, type_kind), omega (arith, type_kind));
        order = rw (type_start, type_stop) sound.order;
        last = rw type_stop sound.last;
        high = type_high;
      }

  -- the bits that it names are the line's
  pub names_bits : (bit : ℕ) → within (start_of (type_word l)) (field_width (type_word l)) bit ≡ (leb l.start bit && leb bit l.stop)
  unfolding within
  names_bits bit = rw (type_start, type_stop) (ap (λ (t : Bool). leb l.start bit && t) (same_end l.start l.stop bit sound.order))

  -- and as many as the width that the value must fit
  pub type_width : field_width (type_word l) ≡ width_of (start_byte l) (stop_byte l)
  type_width = ap₂ width_of (type_start ∙ sym start_is) (type_stop ∙ sym stop_is)

  -- each of its five words has 32 bits
  type_small : type_word l < 2 ^ 32
  unfolding type_word
  type_small = omega arith

  value_fits : (value : ℕ) → too_wide (width_of (start_byte l) (stop_byte l)) value ≡ false → value < 2 ^ 32
  unfolding too_wide
  value_fits value e =
      let wide : width_of (start_byte l) (stop_byte l) ≤ 32 = rw (start_is, stop_is) (omega (arith, sound)) in
      lt_of_lt_of_le (leb-false _ _ e) (pow_mono wide)

  pub words_small : (value : ℕ) → too_wide (width_of (start_byte l) (stop_byte l)) value ≡ false → (i : ℕ) → get_or (words_for l value) i 0 < 2 ^ 32
  unfolding words_for
  words_small value e zero = lit< tt
  words_small value e (suc zero) = type_small
  words_small value e (suc (suc zero)) = sound.small
  words_small value e (suc (suc (suc zero))) = value_fits value e
  words_small value e (suc (suc (suc (suc zero)))) = lit< tt
  words_small value e (suc (suc (suc (suc (suc i))))) = lit< tt

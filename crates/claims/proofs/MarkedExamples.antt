-- The definitions compute to the values of the examples. Three facts want a law: memory of which only the first bytes are named has a first
-- word, 32 bits hold every word, and a word all of whose bits are set becomes the data.
use Rattle.std.specs.Prelude.{Ok}
use Prim.Native.Nat.{ℕ, zero, suc, ◌+◌, ◌^◌, ◌<◌}
use mathlib.Core.Bool.{true}
use mathlib.Core.Path.{◌≡◌, refl, ap, ◌∙◌}
use mathlib.Core.List.{List}
use native.Mathlib.Omega.{arith}
use lib.Dec.{leb}
use lib.ListN.{length}
use borrow.Author.Tests.{le-leb, lt-leb}
use Rattle.words.specs.rules.Bits.{bit, join, with_field}
use Rattle.words.specs.rules.Bytes.{byte, number, bytes_at, put, fits, field_fits, field_written}
use Rattle.words.specs.rules.Choice.{pick}
use Rattle.words.specs.declared.Unit.TheVariants.{Four}
use Rattle.words.proofs.Choice.{chosen, passed}
use Rattle.checksum.specs.rules.Checksum.{shifted, fed_bit, fed, fed_words}
use Rattle.windows.specs.rules.Window.{has_right, inside, grants_range, place_from, place_of}
use Rattle.commands.specs.rules.Commands.{multiple, range_judged, load_judged, unit_of, units_judged, fill_judged, fill_memory, memory_if, field_shape}
use Rattle.commands.specs.rules.Commands.{shape_of}
use Rattle.commands.specs.rules.Commands.{too_wide, setting_judged, shape_set, setting_memory, target, sought_from, Judged}
use Rattle.stores.specs.rules.Stores.{words_fed, load_fed, filled}
use Rattle.claims.specs.claims.MarkedExamples.{AllHold, windows, word_then, marked}

module _ (word value : ℕ) (rest : List ℕ) where
  -- memory has a first word, so a field of it is written
  first_set : (start width : ℕ) → leb (start + width) 32 ≡ true
      → field_written (word_then word rest) 0 Four start width value
      ≡ word_then (with_field (number (bytes_at (word_then word rest) 0 4)) start width value) rest
  unfolding field_written field_fits fits put bytes_at
  first_set start width inside = chosen _ _ _ (rw (le-leb 4 (length (word_then word rest)) (omega arith), inside))

  -- a field of all 32 bits leaves nothing of what the word was
  byte_set : (old place : ℕ) → place < 4 → byte (with_field old 0 32 value) place ≡ byte value place
  unfolding with_field join byte
  byte_set old zero h = omega arith
  byte_set old (suc zero) h = omega arith
  byte_set old (suc (suc zero)) h = omega arith
  byte_set old (suc (suc (suc zero))) h = omega arith
  byte_set old (suc (suc (suc (suc place)))) h = omega arith

  all_set : (old : ℕ) → word_then (with_field old 0 32 value) rest ≡ word_then value rest
  all_set old = rw (byte_set old 0 (omega arith), byte_set old 1 (omega arith), byte_set old 2 (omega arith), byte_set old 3 (omega arith))

-- a field of all 32 bits is accepted with every word
word_fits : (value : ℕ) → value < 2 ^ 32 → setting_judged windows 0x001F0003 0x80000000 value ≡ Ok 0
unfolding pick byte has_right inside grants_range place_from place_of multiple range_judged unit_of units_judged field_shape shape_of too_wide
word_fits value fit = passed (leb (2 ^ 32) value) _ _ (lt-leb _ _ fit)

-- a statement and those after it
infixr 4 ◌and◌
pub ◌and◌ : {A B : Type 0} → A → B → A × B
a and b = (a, b)

pub marked_hold : AllHold marked
unfolding pick bit join with_field byte number bytes_at put fits field_fits field_written shifted fed_bit fed fed_words
    has_right inside grants_range place_from place_of multiple range_judged load_judged words_fed load_fed unit_of units_judged fill_judged filled fill_memory
    field_shape shape_of too_wide setting_memory target sought_from
marked_hold =
    refl
    and refl
    and (λ rest. first_set 0x7F 1 rest 4 3 refl)
    and (λ rest. (refl, refl))
    and (λ word value rest fit.
    ap (λ (judged : Judged). memory_if judged (λ place. shape_set (word_then word rest) place (shape_of 0x001F0003) value) (word_then word rest))
    (word_fits value fit)
    ∙ first_set word value rest 0 32 refl ∙ all_set word value rest _)
    and (λ value. refl)
    and refl
    and refl
    and refl
    and (λ a b c d e f rest. refl)
    and refl
    and refl
    and refl
    and refl
    and refl
    and tt

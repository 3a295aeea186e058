-- The definitions compute to the values of the examples, whatever the bytes were that a fill goes over; and no place is a refusal of 7.
use Rattle.std.specs.Prelude.{None}
use Prim.Native.Nat.{ℕ}
use mathlib.Core.List.{List}
use mathlib.Core.Path.{◌≡◌, refl}
use Rattle.words.specs.rules.Bits.{join, with_field}
use Rattle.words.specs.rules.Bytes.{byte, number, bytes_at, put, fits, field_fits, field_written}
use Rattle.words.specs.rules.Choice.{pick}
use Rattle.windows.specs.rules.Window.{has_right, inside, place_from, place_of, sum_of}
use Rattle.windows.specs.rules.Map.{sound_window, all_sound, rising, good_map, kept_of}
use Rattle.windows.specs.declared.Window.{Window}
use Rattle.windows.specs.declared.Right.{Right}
use Rattle.commands.specs.rules.Commands.{judged_code, multiple, range_judged, load_judged, unit_of, units_judged, fill_judged, fill_memory, field_shape}
use Rattle.commands.specs.rules.Commands.{shape_of}
use Rattle.commands.specs.rules.Commands.{too_wide, setting_memory, entry_judged}
use Rattle.stores.specs.rules.Stores.{filled}
use Rattle.claims.specs.claims.MarkedExamples.{AllHold}
use Rattle.claims.specs.claims.TouchingExamples.{touching}
use Rattle.claims.proofs.MarkedExamples.{◌and◌}

-- no place is a refusal of 7, on any map
no_place : (windows : List Window) (right : Right) (address size : ℕ) → place_of windows right address size ≡ None
    → judged_code (range_judged windows right address size) ≡ 7
unfolding range_judged
no_place windows right address size e = rw e refl

pub touching_hold : AllHold touching
unfolding pick join with_field byte number bytes_at put fits field_fits field_written has_right inside place_from place_of sum_of sound_window all_sound
    rising good_map kept_of multiple range_judged load_judged unit_of units_judged fill_judged filled fill_memory field_shape shape_of too_wide setting_memory
    entry_judged
touching_hold =
    (refl, refl)
    and (refl, refl)
    and (refl, refl)
    and (refl, refl)
    and (refl, refl)
    and refl
    and refl
    and refl
    and refl
    and refl
    and refl
    and refl
    and refl
    and refl
    and refl
    and refl
    and refl
    and refl
    and refl
    and refl
    and refl
    and refl
    and refl
    and refl
    and (λ a b c d e f g h. refl)
    and (refl, refl)
    and no_place
    and tt

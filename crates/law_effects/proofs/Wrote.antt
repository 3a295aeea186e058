-- Commands tell what they wrote: what is told is their effect's first bit and count, by the same cases.
use Rattle.std.specs.Prelude.{Option, Some, None, Ok}
use Prim.Native.Nat.{ℕ}
use mathlib.Core.List.{List}
use mathlib.Core.Path.{◌≡◌, refl, sym}
use native.Mathlib.Omega.{arith}
use Rattle.words.proofs.Choice.{passed}
use Rattle.words.proofs.Ranges.{above}
use Rattle.windows.specs.declared.Window.{Window}
use Rattle.words.specs.declared.Unit.{Unit as UnitOf}
use Rattle.commands.specs.rules.Commands.{unit_of, type_judged, fill_judged, shape_of, Shape}
use Rattle.commands.specs.rules.Wrote.{bytes_wrote, shape_wrote}
use Rattle.law_effects.specs.claims.Effects.{no_effect, fill_effect, setting_effect, DoesInside}
use Rattle.law_effects.specs.claims.Wrote.{Reports, CommandsTell}
use Rattle.law_effects.proofs.Effects.{load_granted, fill_granted, setting_granted}

-- an effect of no bits
none_does : (m : List ℕ) → DoesInside no_effect m m
none_does m = record { does = record { same_length = refl; each_bit = λ p h. sym (passed _ _ _ (above 0 0 p (omega arith))) }; lies = omega arith }

type_reports : (windows : List Window) (address size pattern place number : ℕ) (kind : Option UnitOf) → type_judged windows address size kind ≡ Ok place
    → Reports (bytes_wrote (Ok place) size number) (fill_effect place size kind pattern)
type_reports windows address size pattern place number None e = absurd (let z : ◌≡◌ {A = ℕ} 0 1 = cc in omega arith)
type_reports windows address size pattern place number (Some unit) e = (omega arith, refl)

pub fill_reports : (windows : List Window) (address size kind pattern place number : ℕ) → fill_judged windows address size kind ≡ Ok place
    → Reports (bytes_wrote (Ok place) size number) (fill_effect place size (unit_of kind) pattern)
unfolding fill_judged
fill_reports windows address size kind pattern place number e = type_reports windows address size pattern place number (unit_of kind) e

pub shape_reports : (place value number : ℕ) (shape : Shape) → Reports (shape_wrote place shape number) (setting_effect place shape value)
shape_reports place value number None = (refl, refl)
shape_reports place value number (Some bits) = (refl, refl)

pub commands_tell : CommandsTell
commands_tell =
    record {
      nothing = λ m. record { reports = (refl, refl); does = none_does m };
      load = λ windows m lent address place number bytes e.
          record { reports = (omega arith, refl); does = load_granted windows m lent address bytes e };
      fill = λ windows m lent address size kind pattern place number e.
          record {
            reports = fill_reports windows address size kind pattern place number e;
            does = fill_granted windows m lent address size kind pattern e;
          };
      setting = λ windows m lent word address value place number e.
          record { reports = shape_reports place value number (shape_of word); does = setting_granted windows m lent word address value e };
    }

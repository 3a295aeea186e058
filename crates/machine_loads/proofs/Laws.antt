-- A granted load lies inside the lent memory, and the bytes of a data word that belong to the load, by their place.
use Rattle.std.specs.Prelude.{Option, Some, None, Ok, ok_or}
use Prim.Native.Nat.{ℕ, zero, suc, ◌+◌, ◌≤◌, ◌<◌, min}
use mathlib.Core.List.{List, [], ◌∷◌}
use mathlib.Core.Path.{◌≡◌, refl, ap, ◌∙◌}
use native.Mathlib.Omega.{arith}
use lib.ListN.{length, get_or, length-take}
use lib.Seq.{get_or-take}
use Rattle.words.specs.rules.Bytes.{byte}
use Rattle.windows.specs.rules.Window.{place_of, sum_of}
use Rattle.windows.specs.declared.Right.TheVariants.{Load}
use Rattle.windows.specs.declared.Window.{Window}
use Rattle.windows.proofs.Laws.{placed_inside}
use Rattle.opcodes.specs.declared.Refusal.TheVariants as why
use Rattle.commands.specs.rules.Commands.{range_judged, load_judged}
use Rattle.machine_loads.specs.rules.Loads.{data_bytes}

-- a load that is granted lies inside the lent memory
pub granted_inside : (windows : List Window) (address size place : ℕ) → load_judged windows address size ≡ Ok place
    → place + size ≤ sum_of windows
unfolding load_judged range_judged
granted_inside windows address size place granted = go (place_of windows Load address size) refl granted
  where
    go : (found : Option ℕ) → place_of windows Load address size ≡ found → ok_or found why.Range ≡ Ok place → place + size ≤ sum_of windows
    go (Some q) e g =
        let same : q ≡ place = cc in
        placed_inside windows Load address size place (e ∙ ap Some same)
    go None e g = let z : ◌≡◌ {A = ℕ} 0 1 = cc in omega arith

-- the bytes of a word, by their place
four_bytes : (word i : ℕ) → i < 4 → get_or (byte word 0 ∷ byte word 1 ∷ byte word 2 ∷ byte word 3 ∷ []) i 0 ≡ byte word i
four_bytes word zero h = refl
four_bytes word (suc zero) h = refl
four_bytes word (suc (suc zero)) h = refl
four_bytes word (suc (suc (suc zero))) h = refl
four_bytes word (suc (suc (suc (suc i)))) h = omega arith

-- those of them that belong to the load
pub data_byte : (word left i : ℕ) → i < min left 4 → get_or (data_bytes word left) i 0 ≡ byte word i
data_byte word left i h = get_or-take left _ i 0 (omega arith) ∙ four_bytes word i (omega arith)

pub data_length : (word left : ℕ) → length (data_bytes word left) ≡ min left 4
data_length word left = length-take left _

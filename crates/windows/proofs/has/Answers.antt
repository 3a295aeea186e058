-- `windows::has` meets its contract: in the case of each right its number is a literal.
use mathlib.Core.Path.{◌≡◌, refl, ap}
use Prim.Native.Nat.{ℕ, ◌/◌, ◌%◌}
use native.Mathlib.Omega.{arith}
use lib.Dec.{eqb}
use Rattle.windows.specs.rules.Window.{has_right}
use Rattle.windows.proofs.has.Goals as goal

-- to divide by 1 changes nothing
by_one : (n : ℕ) → n % 2 ≡ n / 1 % 2
by_one n = omega arith

pub returns-in-Load : goal.returns-in-Load
unfolding has_right
returns-in-Load c = rw c.in-Load.is (ap (λ (n : ℕ). eqb n 1) (by_one c.args.window.rights))

pub returns-in-Set : goal.returns-in-Set
unfolding has_right
returns-in-Set c = rw c.in-Set.is refl

pub returns-in-Entry : goal.returns-in-Entry
unfolding has_right
returns-in-Entry c = rw c.in-Entry.is refl

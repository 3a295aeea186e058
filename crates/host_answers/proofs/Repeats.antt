-- What goes out again is what a wait sends on entering, but for an echo.
use Prim.Native.Nat.{ℕ}
use mathlib.Core.List.{List}
use mathlib.Core.Path.{◌≡◌, refl}
use Rattle.host_answers.specs.rules.Sendings.{opens, repeats}
use Rattle.host_answers.specs.declared.Host.{Host}
use Rattle.host_answers.specs.declared.Wait.{Wait}
use Rattle.host_answers.specs.declared.Wait.TheVariants.{Greeting, Start, Ping, Echo, Nothing, Opcode, Over, Closing}

pub as_on_entering : (w : Wait) (h : Host) (image : List ℕ) → ((left : ℕ) → w ≡ Echo left → ⊥)
    → opens w h image ≡ repeats w h image
as_on_entering Greeting h image other = refl
as_on_entering Start h image other = refl
as_on_entering Ping h image other = refl
as_on_entering (Echo k) h image other = absurd (other k refl)
as_on_entering Nothing h image other = refl
as_on_entering (Opcode command end) h image other = refl
as_on_entering (Over offset) h image other = refl
as_on_entering Closing h image other = refl

-- The bits that are left lead from the checksum reached to the same end.
use Prim.Native.Nat.{suc, ◌-◌}
use mathlib.Core.Path.{◌≡◌}
use native.Mathlib.Omega.{arith}
use Rattle.words.specs.rules.Bits.{bit}
use Rattle.checksum.specs.rules.Checksum.{fed}
use Rattle.checksum.proofs.feed_low.Goals as goal

pub loop-place-preserved : goal.loop-place-preserved
unfolding bit fed
loop-place-preserved c =
    let one_more : suc (c.loop-place.place - 1) ≡ c.loop-place.place = omega arith in
    rw c.feed_bit-reached.ensures (rw (← one_more) at c.loop-place.invariant)

pub returns : goal.returns
unfolding fed
returns c =
    let none : c.loop-place.place ≡ 0 = omega arith in
    rw none at c.loop-place.invariant

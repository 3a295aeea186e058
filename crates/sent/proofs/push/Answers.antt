-- `sent::push` meets its contract: a unit moved up to the top of a word fits.
use Prim.Native.Nat.{◌<◌}
use native.Mathlib.Omega.{arith}
use Rattle.sent.specs.rules.Bus.{pushed}
use Rattle.sent.proofs.push.Goals as goal

pub returns-in-Bytes : goal.returns-in-Bytes
unfolding pushed
returns-in-Bytes c =
    let small : c.args.unit < 256 = rw c.in-Bytes.is at c.requires in
    rw c.in-Bytes.is (omega (arith, small))

pub returns-in-Halves : goal.returns-in-Halves
unfolding pushed
returns-in-Halves c =
    let small : c.args.unit < 65536 = rw c.in-Halves.is at c.requires in
    rw c.in-Halves.is (omega (arith, small))

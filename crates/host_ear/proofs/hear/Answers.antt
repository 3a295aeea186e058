-- `host_ear::hear` meets its contract: it is the definition, field by field; one more than the lesser of a count and 7 is the lesser of one more and 8.
use Prim.Native.Nat.{◌+◌}
use mathlib.Core.Path.{◌≡◌}
use native.Mathlib.Omega.{arith}
use Rattle.std.specs.Prelude.{min}
use Rattle.host_ear.specs.rules.Ear.{hearing}
use Rattle.host_ear.proofs.hear.Goals as goal

pub returns : goal.returns
unfolding hearing
returns c =
    let ear = c.args.ear in
    let one : min ear.count 7 + 1 ≡ min (ear.count + 1) 8 = omega arith in
    rw (c.push.ensures, c.min.ensures, one)

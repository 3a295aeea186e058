-- `bit_report::spread_on` meets its contract: both ends are what the calls promise.
use Prim.Native.Nat.{◌+◌, ◌*◌}
use mathlib.Core.Path.{◌≡◌}
use native.Mathlib.Omega.{arith}
use Rattle.bit_report.specs.rules.Deeds.{spread}
use Rattle.bit_report.proofs.spread_on.Goals as goal

pub returns : goal.returns
unfolding spread
returns c =
    let a = c.args in
    let none : 8 * a.wrote.place + a.wrote.start + 0 ≡ 8 * a.wrote.place + a.wrote.start = omega arith in
    rw (c.bits_below-to.ensures, c.bits_below-from.ensures, none)

-- `host_ear::ends_with` meets its contract: its tests are those of the definition; the newest none of the bytes are 0.
use Prim.Native.Nat.{ℕ, ◌/◌, ◌^◌}
use mathlib.Core.Bool.{◌&&◌, Bool}
use mathlib.Core.Path.{sym, ap, ◌∙◌, ◌≡◌}
use native.Mathlib.Omega.{arith}
use lib.Dec.{eqb}
use borrow.Author.Tests.{le-leb, lt-leb}
use Rattle.host_ear.specs.rules.Ear.{newest}
use Rattle.host_ear.proofs.ends_with.Goals as goal

pub returns-then-ear-count : goal.returns-then-ear-count
returns-then-ear-count c = simp (lt-leb _ _ c.if-ear-count.true)

pub returns-then-count-eq0 : goal.returns-then-count-eq0
unfolding newest
returns-then-count-eq0 c =
    let a = c.args in
    let none : a.ear.last / 2 ^ 64 ≡ 0 = omega arith in
    sym (ap (λ (t : Bool). t && eqb (newest a.ear a.count) a.number) (le-leb _ _ c.if-ear-count.false)
    ∙ ap (λ (n : ℕ). eqb (newest a.ear n) a.number) c.if-count-eq0.true
    ∙ ap (λ (n : ℕ). eqb n a.number) none)

pub returns : goal.returns
unfolding newest
returns c =
    let a = c.args in
    sym (ap (λ (t : Bool). t && eqb (newest a.ear a.count) a.number) (le-leb _ _ c.if-ear-count.false))

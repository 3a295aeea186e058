-- `bench_sessions::is_for` meets its contract: what is no multiple of 64 is 64 times no number.
use Prim.Native.Nat.{◌*◌, ◌/◌}
use mathlib.Core.Path.{sym}
use native.Mathlib.Omega.{arith}
use borrow.Author.Tests.{ne_eqb}
use Rattle.bench_sessions.proofs.Barring.{same_test}
use Rattle.bench_sessions.proofs.is_for.Goals as goal

pub returns-then-lent-eq0 : goal.returns-then-lent-eq0
returns-then-lent-eq0 c =
    let a = c.args in
    let whole = c.if-lent-eq0.true in
    same_test (a.lent / 64) a.count a.lent (64 * a.count) (λ e. omega (arith, e, whole)) (λ e. omega (arith, e, whole))

pub returns : goal.returns
returns c =
    let a = c.args in
    sym (ne_eqb a.lent (64 * a.count) (λ e. c.if-lent-eq0.false (omega (arith, e))))

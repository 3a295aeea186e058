-- `bench_sessions::are_whole` meets its contract: every number is a multiple of 1.
use Prim.Native.Nat.{◌%◌}
use mathlib.Core.Path.{◌≡◌, sym, ap}
use native.Mathlib.Omega.{arith}
use lib.Dec.{eqb}
use borrow.Author.Tests.{eq-eqb}
use Rattle.sent.specs.declared.Bus.{Bus}
use Rattle.bench_sessions.specs.rules.Feeding.{unit_bytes}
use Rattle.bench_sessions.proofs.are_whole.Goals as goal

pub returns-in-Bytes : goal.returns-in-Bytes
returns-in-Bytes c =
    let whole : c.args.lent % 1 ≡ 0 = omega arith in
    rw c.in-Bytes.is (sym (eq-eqb _ _ whole))

pub returns-in-Halves : goal.returns-in-Halves
returns-in-Halves c = sym (ap (λ (bus : Bus). eqb (c.args.lent % unit_bytes bus) 0) c.in-Halves.is)

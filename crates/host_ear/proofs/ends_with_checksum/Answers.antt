-- `host_ear::ends_with_checksum` meets its contract: its tests are those of the definition.
use Prim.Native.Nat.{◌^◌, ◌%◌}
use mathlib.Core.Bool.{◌&&◌, Bool}
use mathlib.Core.Path.{sym, ap}
use lib.Dec.{eqb}
use borrow.Author.Tests.{le-leb, lt-leb}
use Rattle.machine_answers.specs.rules.Replies.{acknowledged}
use Rattle.host_ear.specs.rules.Ear.{ends_with_checksum}
use Rattle.host_ear.proofs.ends_with_checksum.Goals as goal

pub returns-then-ear-ge8 : goal.returns-then-ear-ge8
unfolding ends_with_checksum
returns-then-ear-ge8 c =
    let a = c.args in
    rw c.acknowledgement.ensures
    (sym (ap (λ (t : Bool). t && eqb (a.ear.last % 2 ^ 32) (acknowledged a.opcode)) (le-leb _ _ c.if-ear-ge8.true)))

pub returns-else-ear-ge8 : goal.returns-else-ear-ge8
unfolding ends_with_checksum
returns-else-ear-ge8 c = simp (lt-leb _ _ c.if-ear-ge8.false)

-- `windows::kept` meets its contract: to keep the first count of the windows as they are now, or as many as were looked at, gives what was asked of the windows
-- at the start.
use mathlib.Core.Path.{◌∙◌}
use Prim.Native.Nat.{max}
use native.Mathlib.Omega.{arith}
use lib.ListN.{length-set}
use Rattle.windows.proofs.Left.{kept_past, kept_counted, kept_all}
use Rattle.windows.proofs.kept.Goals as goal
use Rattle.windows.proofs.kept.Goals.{then-count-i, else-count-i}

pub loop-i-preserved : goal.loop-i-preserved
loop-i-preserved c =
    let inv = c.loop-i.invariant in
    elim c.if-count-i.branch [
      | then-count-i w ↦ rw w.left-is (length-set _ _ _ ∙ inv.0, kept_past _ _ _ inv.0 (omega arith) w.if-count-i.true ∙ inv.1)
      | else-count-i w ↦ rw w.left-is (inv.0, kept_counted _ _ _ w.if-count-i.false ∙ inv.1)
    ]

pub returns : goal.returns
returns c = kept_all _ (max c.loop-i.i c.args.count) (omega arith) (omega arith) ∙ c.loop-i.invariant.1

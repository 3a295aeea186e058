-- `machine_loads::begin_load` meets its contract: a range that is granted, 18 and 25 having been asked, ends inside the memory.
use Rattle.std.proofs.Common.{sym, ◌∙◌}
use Rattle.commands.proofs.Judging.{granted_before}
use Rattle.machine_loads.proofs.Laws.{granted_inside}
use Rattle.machine_loads.proofs.begin_load.Goals as goal

pub end_of-requires : goal.end_of-requires
end_of-requires c =
    let judged = rw c.judge_load.ensures at c.judge_count-judged.ensures in
    granted_inside _ c.args.address _ _ (granted_before _ _ _ _ (granted_before _ _ _ _ (sym judged ∙ c.in-Ok.is)).1).1

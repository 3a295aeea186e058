-- `agreement::run_flash` meets its contract: the image is opened in the check program's window and run.
use mathlib.Core.Path.{refl}
use Rattle.agreement.proofs.run_flash.Goals as goal

pub returns : goal.returns
returns c =
    let map = c.windows.ensures in
    let opens = c.open-opened.ensures in
    let run = rw (opens, map) at c.run_told.ensures in
    record { value = rw (c.end_of.ensures, run.called_value, run.told_value) refl; memory_after = run.memory_after; room_after = run.room_after }

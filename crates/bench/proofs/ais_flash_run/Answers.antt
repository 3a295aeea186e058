-- `bench::ais_flash_run` meets its contract: the run of the image, answered by its report.
use Rattle.std.proofs.Common.{ap, ◌∙◌}
use Rattle.bench.specs.rules.Runs.{reported}
use Rattle.bench.proofs.ais_flash_run.Goals as goal

pub returns : goal.returns
returns c =
    let ran = c.run_image.ensures in
    record { value = c.report.ensures ∙ ap reported ran.value; memory_after = ran.memory_after }

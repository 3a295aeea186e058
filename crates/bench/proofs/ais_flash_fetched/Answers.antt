-- `bench::ais_flash_fetched` meets its contract: the run of the image, answered by the words that it fetched.
use Rattle.std.proofs.Common.{ap, ◌∙◌}
use Rattle.bench.specs.rules.Fetched.{fetched_report}
use Rattle.bench.proofs.ais_flash_fetched.Goals as goal

pub returns : goal.returns
returns c =
    let ran = c.run_image.ensures in
    record { value = c.report_fetched.ensures ∙ ap fetched_report ran.value; memory_after = ran.memory_after }

-- `bench::run_image` meets its contract: the run from the opening on the windows that the map's bytes hold; its offset is within the image.
use Rattle.bench.proofs.RunOffsets.{opened_within, ran_at}
use Rattle.bench.proofs.run_image.Goals as goal

pub returns : goal.returns
returns c =
    let led = rw (c.open-opened.ensures, c.windows_of.ensures, c.count_of.ensures) at c.run_plain.ensures in
    record { value = led.value; at_bound = rw led.value (ran_at _ _ _ (opened_within _ _ _ _ _)); memory_after = led.memory_after }

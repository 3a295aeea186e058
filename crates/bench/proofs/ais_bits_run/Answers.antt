-- `bench::ais_bits_run` meets its contract: 19 for a dialect that there is not; else the run from the opening on the windows that the map's bytes hold.
use mathlib.Core.Path.{refl}
use Rattle.bench.proofs.BitRuns.{noted, run_unknown, run_known}
use Rattle.bench.proofs.RunOffsets.{numbered_within}
use Rattle.bench.proofs.ais_bits_run.Goals as goal

pub returns-then-dialect-gt1 : goal.returns-then-dialect-gt1
returns-then-dialect-gt1 c =
    let a = c.args in
    let done =
    noted (run_unknown a.dialect a.map.now a.chosen.now a.memory.now a.numbers.now a.image.now a.limit c.if-dialect-gt1.true)
    (c.only_refusal.ensures, (refl, refl)) in
    record { value = done.0; memory_after = done.1.0; numbers_after = done.1.1 }

pub bits_from-requires : goal.bits_from-requires
bits_from-requires c = rw c.open_numbering-opened.ensures (numbered_within _ _ _ _ _)

pub returns : goal.returns
returns c =
    let a = c.args in
    let led = rw (
      c.choose_on-choice.ensures,
      c.open_numbering-opened.ensures,
      c.windows_of.ensures,
      c.count_of.ensures,
      c.dialect_of.ensures,
    ) at c.bits_from.ensures in
    let done =
    noted (run_known a.dialect a.map.now a.chosen.now a.memory.now a.numbers.now a.image.now a.limit c.if-dialect-gt1.false)
    (led.value, (led.memory_after, led.numbers_after)) in
    record { value = done.0; memory_after = done.1.0; numbers_after = done.1.1 }

-- `bench_events::flash_events` meets its contract: refused before it begins, or the run with its events told.
use mathlib.Core.Path.{sym, ◌∙◌}
use native.Mathlib.Omega.{arith}
use Rattle.bench_events.proofs.Telling.{flash_unknown, flash_short, flash_ran}
use Rattle.bench_events.proofs.flash_events.Goals as goal

pub returns-then-dialect-gt1 : goal.returns-then-dialect-gt1
returns-then-dialect-gt1 c =
    let a = c.args in
    flash_unknown a.dialect a.map.now a.memory.now a.image.now a.limit a.room.now c.if-dialect-gt1.true c.only_refusal.ensures

pub returns-then-is_short : goal.returns-then-is_short
returns-then-is_short c =
    let a = c.args in
    flash_short a.dialect a.map.now a.memory.now a.image.now a.limit a.room.now (omega (arith, c.if-dialect-gt1.false))
    (sym c.is_short.ensures ∙ c.if-is_short.true) c.only_refusal-then-is_short.ensures

pub returns : goal.returns
returns c =
    let a = c.args in
    flash_ran a.dialect a.map.now a.memory.now a.image.now a.limit a.room.now (omega (arith, c.if-dialect-gt1.false))
    (sym c.is_short.ensures ∙ c.if-is_short.false) c.dialect_of.ensures c.count_of.ensures
    c.windows_of.ensures c.open-opened.ensures (let ran = c.run_told-ran.ensures in (ran.called_value, (ran.memory_after, (ran.told_value, ran.room_after))))
    c.code_of.ensures c.value_of.ensures

-- `bench_events::host_events` meets its contract: refused before it begins, or the exchange with its events told.
use mathlib.Core.Path.{sym, ◌∙◌}
use Rattle.opcodes.proofs.Verdicts.{numbered, none_of}
use Rattle.bench_events.proofs.Telling.{host_unnamed, host_short, host_barred, host_exchanged}
use Rattle.bench_events.proofs.host_events.Goals as goal

pub returns-then-not-are_named : goal.returns-then-not-are_named
returns-then-not-are_named c =
    let a = c.args in
    host_unnamed a.line a.dialect a.map.now a.memory.now a.image.now a.tries a.limit a.pings a.room.now
    (sym c.are_named.ensures ∙ c.if-not-are_named.true) c.only_refusal.ensures

pub returns-then-is_short : goal.returns-then-is_short
returns-then-is_short c =
    let a = c.args in
    host_short a.line a.dialect a.map.now a.memory.now a.image.now a.tries a.limit a.pings a.room.now
    (sym c.are_named.ensures ∙ c.if-not-are_named.false) (sym c.is_short.ensures ∙ c.if-is_short.true)
    c.only_refusal-then-is_short.ensures

pub returns-in-Some : goal.returns-in-Some
returns-in-Some c =
    let a = c.args in
    host_barred a.line a.dialect a.map.now a.memory.now a.image.now a.tries a.limit a.pings a.room.now
    (sym c.are_named.ensures ∙ c.if-not-are_named.false) (sym c.is_short.ensures ∙ c.if-is_short.false)
    (sym c.in-Some.is ∙ c.bar.ensures) (numbered c.in-Some.refusal) c.only_refusal-in-Some.ensures

pub returns : goal.returns
returns c =
    let a = c.args in
    host_exchanged a.line a.dialect a.map.now a.memory.now a.image.now a.tries a.limit a.pings a.room.now
    (sym c.are_named.ensures ∙ c.if-not-are_named.false) (sym c.is_short.ensures ∙ c.if-is_short.false)
    c.bar.ensures (none_of _ c.in_default.not-Some) c.line_of-bus.ensures c.dialect_of.ensures
    c.count_of.ensures c.windows_of.ensures (let ended = c.exchange-exchanged.ensures in (ended.value, (ended.memory_after, ended.room_after)))
    (rw c.code_of.ensures at c.value_of.ensures)

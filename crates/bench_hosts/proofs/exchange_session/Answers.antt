-- `bench_hosts::exchange_session` meets its contract: refused before it begins, or the exchange.
use mathlib.Core.Path.{sym, ◌∙◌}
use Rattle.opcodes.proofs.Verdicts.{numbered, none_of}
use Rattle.bench_hosts.proofs.Calls.{session_barred, exchanged_call}
use Rattle.bench_hosts.proofs.exchange_session.Goals as goal

pub returns-in-Some : goal.returns-in-Some
returns-in-Some c =
    let a = c.args in
    session_barred a.line a.dialect a.map.now a.memory.now a.image.now a.tries a.limit a.pings
    (sym c.in-Some.is ∙ c.bar.ensures) (numbered c.in-Some.refusal) c.only_refusal.ensures

pub returns : goal.returns
returns c =
    let a = c.args in
    exchanged_call a.line a.dialect a.map.now a.memory.now a.image.now a.tries a.limit a.pings
    c.bar.ensures (none_of _ c.in_default.not-Some)
    c.line_of-bus.ensures c.dialect_of.ensures c.count_of.ensures
    c.windows_of.ensures c.exchange-exchanged.ensures.value c.exchange-exchanged.ensures.memory_after
    c.exchange_value.ensures

-- `bench_hosts::open_host` meets its contract: another length, line or dialect, or the opening.
use mathlib.Core.Path.{refl, sym, ◌∙◌}
use Rattle.bench_hosts.proofs.Calls.{same_call, not_a_host, not_named, opened_call}
use Rattle.bench_hosts.proofs.open_host.Goals as goal

pub returns-then-host-ne-HOST_BYTES : goal.returns-then-host-ne-HOST_BYTES
returns-then-host-ne-HOST_BYTES c =
    let a = c.args in
    same_call c.code.ensures refl
    ∙ not_a_host a.host.now a.line a.dialect a.image.now a.tries a.limit a.pings c.if-host-ne-HOST_BYTES.true

pub returns-then-not-are_named : goal.returns-then-not-are_named
returns-then-not-are_named c =
    let a = c.args in
    same_call c.code-then-not-are_named.ensures refl
    ∙ not_named a.host.now a.line a.dialect a.image.now a.tries a.limit a.pings
    (sym c.are_named.ensures ∙ c.if-not-are_named.true)

pub returns : goal.returns
returns c =
    let a = c.args in
    let named = sym c.are_named.ensures ∙ c.if-not-are_named.false in
    opened_call a.host.now a.line a.dialect a.image.now a.tries a.limit a.pings c.if-host-ne-HOST_BYTES.false named
    c.line_of-bus.ensures c.dialect_of.ensures c.open-opened.ensures c.code_of.ensures
    c.write_host.ensures

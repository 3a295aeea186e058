-- `bench_hosts::turn_host` meets its contract: another length, or the turn.
use mathlib.Core.Path.{refl, ◌∙◌}
use Rattle.bench_hosts.proofs.Calls.{same_call, no_turn, turned_call}
use Rattle.bench_hosts.proofs.Outgoing.{each_in_image}
use Rattle.bench_hosts.proofs.turn_host.Goals as goal

pub returns-then-host-ne-HOST_BYTES : goal.returns-then-host-ne-HOST_BYTES
returns-then-host-ne-HOST_BYTES c =
    let a = c.args in
    same_call c.only_refusal.ensures refl ∙ no_turn a.host.now a.image.now c.if-host-ne-HOST_BYTES.true

pub turn_value-requires : goal.turn_value-requires
turn_value-requires c =
    rw c.turn-turned.ensures (each_in_image c.read_host-standing.result c.args.image.now)

pub returns : goal.returns
returns c =
    let a = c.args in
    turned_call a.host.now a.image.now c.if-host-ne-HOST_BYTES.false c.read_host-standing.ensures
    c.turn-turned.ensures c.turn_value.ensures c.write_host.ensures

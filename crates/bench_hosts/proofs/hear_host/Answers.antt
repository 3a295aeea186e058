-- `bench_hosts::hear_host` meets its contract: another length, or the byte is heard.
use mathlib.Core.Path.{refl, ◌∙◌}
use Rattle.bench_hosts.proofs.Calls.{same_call, hears_nothing, heard_call}
use Rattle.bench_hosts.proofs.hear_host.Goals as goal

pub returns-then-host-ne-HOST_BYTES : goal.returns-then-host-ne-HOST_BYTES
returns-then-host-ne-HOST_BYTES c =
    let a = c.args in
    same_call c.code.ensures refl ∙ hears_nothing a.host.now a.byte c.if-host-ne-HOST_BYTES.true

pub returns : goal.returns
returns c =
    let a = c.args in
    heard_call a.host.now a.byte c.if-host-ne-HOST_BYTES.false c.read_host-standing.ensures c.hear.ensures
    c.write_host.ensures

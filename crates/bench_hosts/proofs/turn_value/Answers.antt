-- `bench_hosts::turn_value` meets its contract: the parts stand side by side.
use native.Mathlib.Omega.{arith}
use Rattle.bench_hosts.proofs.Calls.{flag_small}
use Rattle.bench_hosts.proofs.turn_value.Goals as goal

pub overflow_add-result : goal.overflow_add-result
overflow_add-result c = omega (arith, flag_small c.args.turned.host.ended c.flag-ended.ensures)

pub overflow_add-result-2 : goal.overflow_add-result-2
overflow_add-result-2 c =
    let small = flag_small c.args.turned.host.ended c.flag-ended.ensures in
    omega (arith, small, c.sent_value.ensures.upper_bound)

pub returns : goal.returns
returns c =
    let small = flag_small c.args.turned.host.ended c.flag-ended.ensures in
    omega (arith, small, c.sent_value.ensures.value, c.sent_value.ensures.upper_bound, c.code_of.ensures, c.flag-ended.ensures)

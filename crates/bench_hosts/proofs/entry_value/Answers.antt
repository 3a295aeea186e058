-- `bench_hosts::entry_value` meets its contract: each arm is one case of the definition.
use mathlib.Core.Path.{ap}
use native.Mathlib.Omega.{arith}
use Rattle.bench_hosts.specs.rules.HostCalls.{entry_value}
use Rattle.bench_hosts.proofs.entry_value.Goals as goal

pub returns-in-Enter : goal.returns-in-Enter
returns-in-Enter c = record { value = omega (arith, ap entry_value c.in-Enter.is); upper_bound = omega arith }

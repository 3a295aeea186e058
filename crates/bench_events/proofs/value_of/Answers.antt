-- `bench_events::value_of` meets its contract: both parts fit one above the other.
use native.Mathlib.Omega.{arith}
use Rattle.bench_events.specs.rules.Events.{told_value}
use Rattle.bench_events.proofs.value_of.Goals as goal

pub returns : goal.returns
unfolding told_value
returns c = omega arith

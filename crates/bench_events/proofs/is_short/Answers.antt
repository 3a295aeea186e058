-- `bench_events::is_short` meets its contract: its test is the definition's.
use Prim.Native.Nat.{ℕ}
use mathlib.Core.Path.{ap}
use lib.Dec.{ltb}
use Rattle.bench_events.specs.rules.Events.{is_short}
use Rattle.bench_events.proofs.is_short.Goals as goal

pub returns : goal.returns
unfolding is_short
returns c = ap (λ (n : ℕ). ltb c.args.lent n) c.room_for.ensures

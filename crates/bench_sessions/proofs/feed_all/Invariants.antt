-- What each turn keeps.
use Prim.Native.Nat.{◌+◌, ◌*◌, ◌≤◌, ◌<◌}
use mathlib.Core.Path.{◌≡◌}
use lib.ListN.{take, drop}
use Rattle.sent.specs.rules.Bus.{units_fed}
use Rattle.bench_sessions.specs.rules.Feeding.{opening_room, unit_room}
use Rattle.bench_sessions.proofs.Reaching.{leads}
use Rattle.bench_sessions.proofs.feed_all.Given as goal

abbrev pub invariant-loop-i : goal.invariant-loop-i
invariant-loop-i l = record {
  small : l.first < 256;
  few : l.count ≤ 262144;
  paid : l.count + unit_room l.bus * l.live.line.have ≤ opening_room l.bus + unit_room l.bus * l.i;
  led : leads l.bus (take l.chosen l.places) (record { session = l.live; memory = l.memory }) (drop l.i (units_fed l.bus l.fed)) l.room l.count l.first
      l.numbers
      ≡ leads l.bus (take l.chosen l.places) (record { session = l.initial.live; memory = l.initial.memory }) (units_fed l.bus l.fed) l.initial.room
      l.initial.count l.initial.first l.initial.numbers;
}

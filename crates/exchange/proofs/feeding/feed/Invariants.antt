-- What each turn keeps: what is left to feed leads to the same end.
use Rattle.std.proofs.Common.{◌≡◌, length, drop}
use Rattle.sent.specs.rules.Bus.{units_fed}
use Rattle.exchange.specs.rules.Standing.{standing_fed, memory_fed, room_fed}
use Rattle.exchange.proofs.feeding.feed.Given as goal

abbrev pub invariant-loop-i : goal.invariant-loop-i
invariant-loop-i l = record {
  stands : standing_fed (length l.room) l.bus l.live l.memory (drop l.i (units_fed l.bus l.fed))
      ≡ standing_fed (length l.initial.room) l.bus l.initial.live l.initial.memory (units_fed l.bus l.fed);
  remembers : memory_fed l.bus l.live l.memory (drop l.i (units_fed l.bus l.fed)) ≡ memory_fed l.bus l.initial.live l.initial.memory (units_fed l.bus l.fed);
  tells : room_fed l.bus l.live l.memory l.room (drop l.i (units_fed l.bus l.fed))
      ≡ room_fed l.bus l.initial.live l.initial.memory l.initial.room (units_fed l.bus l.fed);
}

-- What each turn keeps.
use mathlib.Core.Path.{◌≡◌}
use lib.ListN.{length}
use Rattle.host_answers.specs.rules.Ends.{most_turns}
use Rattle.exchange.specs.rules.Exchange.{Talk}
use Rattle.exchange.proofs.Settling.{Reaches}
use Rattle.exchange.proofs.exchange.Given as goal

abbrev pub invariant-loop-live : goal.invariant-loop-live
invariant-loop-live l =
    (length l.memory ≡ length l.initial.memory) × (length l.room ≡ length l.initial.room)
    × ((end : Talk) → Reaches l.image l.initial.room end l.initial.live l.initial.memory l.initial.room
    → Reaches l.image l.initial.room end l.live l.memory l.room)

abbrev pub decreases-loop-live : goal.decreases-loop-live
decreases-loop-live l = most_turns l.live.host

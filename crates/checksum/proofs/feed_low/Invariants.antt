-- What each turn keeps: the bits that are left lead to the same end.
use mathlib.Core.Path.{◌≡◌}
use Rattle.checksum.specs.rules.Checksum.{fed}
use Rattle.checksum.proofs.feed_low.Given as goal

abbrev pub invariant-loop-place : goal.invariant-loop-place
invariant-loop-place l = fed l.reached l.value l.place ≡ fed l.checksum l.value l.count

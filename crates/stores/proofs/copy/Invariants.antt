-- What each turn keeps.
use Rattle.std.proofs.Common.{◌≡◌, get_or}
use Rattle.words.specs.rules.Bytes.{put}
use Rattle.stores.proofs.copy.Given as goal

abbrev pub invariant-loop-i : goal.invariant-loop-i
invariant-loop-i l = l.memory ≡ put l.initial.memory l.place l.i (λ k. get_or l.bytes k 0)

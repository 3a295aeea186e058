-- What each turn keeps: the bytes that are left lead to the same end.
use Prim.Native.Nat.{◌+◌, ◌/◌}
use mathlib.Core.Path.{◌≡◌}
use lib.ListN.{length}
use Rattle.stores.specs.rules.Stores.{words_fed}
use Rattle.stores.proofs.feed_data.Given as goal

abbrev pub invariant-loop-word : goal.invariant-loop-word
invariant-loop-word l =
    (l.word-iterator.size ≡ 4)
    × (words_fed l.reached ((length l.word-iterator.rest.now + 3) / 4) l.word-iterator.rest.now ≡ words_fed l.checksum ((length l.bytes + 3) / 4) l.bytes)

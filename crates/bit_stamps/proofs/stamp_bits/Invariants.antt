-- What each turn keeps.
use Prim.Native.Nat.{◌*◌, ◌%◌}
use mathlib.Core.Path.{◌≡◌}
use Rattle.words.specs.rules.Bytes.{byte, put}
use Rattle.bit_stamps.proofs.stamp_bits.Given as goal

abbrev pub invariant-loop-i : goal.invariant-loop-i
invariant-loop-i l = l.entries ≡ put l.initial.entries l.at (2 * l.i) (λ k. byte l.number (k % 2))

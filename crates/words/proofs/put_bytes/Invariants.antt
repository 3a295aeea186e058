-- What each turn keeps.
use Prim.Native.Nat.{◌*◌, ◌/◌, ◌^◌}
use mathlib.Core.Path.{◌≡◌}
use Rattle.words.specs.rules.Bytes.{byte, put}
use Rattle.words.proofs.put_bytes.Given as goal

abbrev pub invariant-loop-i : goal.invariant-loop-i
invariant-loop-i l = (l.m ≡ put l.initial.m l.at l.i (byte l.value)) × (l.rest ≡ l.value / 2 ^ (8 * l.i))

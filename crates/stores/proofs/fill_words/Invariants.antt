-- What each turn keeps.
use Prim.Native.Nat.{◌*◌}
use mathlib.Core.Path.{◌≡◌}
use Rattle.words.specs.declared.Unit.TheVariants.{Four}
use Rattle.stores.specs.rules.Stores.{filled}
use Rattle.stores.proofs.fill_words.Given as goal

abbrev pub invariant-loop-i : goal.invariant-loop-i
invariant-loop-i l = l.memory ≡ filled l.initial.memory l.place (4 * l.i) Four l.word

-- `field_register::words_for` meets its contract: word by word.
use native.Mathlib.Omega.{arith}
use mathlib.Core.List.{[], ◌∷◌}
use mathlib.Core.Path.{ap}
use Prim.Native.Nat.{ℕ}
use Rattle.field_register.specs.rules.Commands.{type_word, words_for}
use Rattle.field_register.proofs.words_for.Goals as goal

pub returns : goal.returns
unfolding type_word words_for
returns c = ap (λ (k : ℕ). 0x58535907 ∷ k ∷ c.args.line.word ∷ c.args.value ∷ 0 ∷ []) (omega arith)

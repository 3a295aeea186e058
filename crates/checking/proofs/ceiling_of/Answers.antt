-- `checking::ceiling_of` meets its contract: an image is at most 65,536 bytes long, so that the product fits.
use Prim.Native.Nat.{◌+◌, ◌/◌}
use mathlib.Core.Path.{sym, ◌∙◌}
use native.Mathlib.Nat.{mul-le-mul}
use native.Mathlib.Omega.{arith}
use Rattle.words.proofs.Choice.{chosen, passed}
use Rattle.flash_session.proofs.Lengths.{length_small}
use Rattle.checking.specs.rules.Counting.{most_of}
use Rattle.checking.proofs.ceiling_of.Goals as goal

pub overflow_cast-result-then-is_length : goal.overflow_cast-result-then-is_length
overflow_cast-result-then-is_length c = omega (arith, length_small c.args.n (sym c.is_length.ensures ∙ c.if-is_length.true))

pub overflow_mul-result : goal.overflow_mul-result
overflow_mul-result c =
    let a = c.args in
    let short = length_small a.n (sym c.is_length.ensures ∙ c.if-is_length.true) in
    omega (arith, mul-le-mul {n₁ = a.limit + 1} {m₁ = a.n / 4} {n₂ = 256} {m₂ = 16384} (omega arith) (omega arith))

pub returns-then-is_length : goal.returns-then-is_length
unfolding most_of
returns-then-is_length c = sym (chosen _ _ _ (sym c.is_length.ensures ∙ c.if-is_length.true))

pub returns-else-is_length : goal.returns-else-is_length
unfolding most_of
returns-else-is_length c = sym (passed _ _ _ (sym c.is_length.ensures ∙ c.if-is_length.false))

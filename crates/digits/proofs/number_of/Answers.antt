-- `digits::number_of` meets its contract: the number of the digits so far leads with those that are left to the number of all.
use mathlib.Core.Path.{◌∙◌}
use Prim.Native.Nat.{◌*◌, ◌≤◌}
use borrow.Author.Rules.{rules}
use native.Mathlib.Omega.{arith}
use native.Mathlib.Nat.{mul-le-mul}
use Rattle.std.proofs.lemmas.Grind.{common_steps}
use Rattle.digits.proofs.Reading.{number_empty, number_begins, number_large, number_made, number_next, number_wrong}
use Rattle.digits.proofs.number_of.Goals as goal

pub returns-then-is_empty : goal.returns-then-is_empty
returns-then-is_empty c = number_empty _ _ c.args.text.now (grind (arith, common_steps))

pub loop-byte-init : goal.loop-byte-init
loop-byte-init c = (search rules, number_begins _ _ _ (search rules))

pub returns-then-base-digit : goal.returns-then-base-digit
returns-then-base-digit c =
    let text = c.args.text.now in
    number_wrong _ _ _ text c.loop-byte.byte-index (search rules) _ c.value_of-digit.ensures c.if-base-digit.true
    ∙ c.loop-byte.invariant.1

pub overflow_mul-value : goal.overflow_mul-value
overflow_mul-value c =
    let product : c.loop-byte.value * c.args.base ≤ c.args.most * 16 = mul-le-mul c.loop-byte.invariant.0 c.requires.1.0 in
    record { fits = omega (arith, product, c.requires) }

pub overflow_add-value : goal.overflow_add-value
overflow_add-value c =
    let product : c.loop-byte.value * c.args.base ≤ c.args.most * 16 = mul-le-mul c.loop-byte.invariant.0 c.requires.1.0 in
    record { fits = omega (arith, product, c.requires) }

pub returns-then-most-value : goal.returns-then-most-value
returns-then-most-value c =
    let text = c.args.text.now in
    number_large c.args.base c.requires.0 _ _ _ c.if-most-value.true
    ∙ number_next _ _ _ text c.loop-byte.byte-index (search rules) _ c.value_of-digit.ensures c.if-base-digit.false
    ∙ c.loop-byte.invariant.1

pub loop-byte-preserved : goal.loop-byte-preserved
loop-byte-preserved c =
    let text = c.args.text.now in (
      search rules,
      number_next _ _ _ text c.loop-byte.byte-index (search rules) _ c.value_of-digit.ensures c.if-base-digit.false
          ∙ c.loop-byte.invariant.1,
    )

pub returns : goal.returns
returns c =
    number_made _ _ _ c.args.text.now c.loop-byte.byte-index (search rules) c.loop-byte.invariant.0
    ∙ c.loop-byte.invariant.1

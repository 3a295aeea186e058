-- `words::bit_of` meets its contract: below 32 the code is the definition, and from 32 on a value has no bits.
use borrow.Author.Rules.{rules}
use mathlib.Core.Path.{sym}
use Rattle.words.specs.rules.Bits.{bit}
use Rattle.words.proofs.Joins.{bit_past}
use Rattle.words.proofs.bit_of.Goals as goal

pub returns-then-place-lt32 : goal.returns-then-place-lt32
unfolding bit
returns-then-place-lt32 c = search rules

pub returns-else-place-lt32 : goal.returns-else-place-lt32
returns-else-place-lt32 c = sym (bit_past c.ranges.value.fits c.if-place-lt32.false)

-- `stores::widened` meets its contract: each product is the word of four, two or one copies of the low unit.
use native.Mathlib.Omega.{arith}
use lib.Dec.{lit<}
use Rattle.words.specs.rules.Bits.{join}
use Rattle.stores.proofs.Filling.{copies, copies_round}
use Rattle.stores.proofs.widened.Goals as goal

pub returns-in-One : goal.returns-in-One
unfolding copies join
returns-in-One c = rw c.in-One.is (copies_round 1 c.args.pattern 4 (omega arith) (lit< tt))

pub returns-in-Two : goal.returns-in-Two
unfolding copies join
returns-in-Two c = rw c.in-Two.is (copies_round 2 c.args.pattern 2 (omega arith) (lit< tt))

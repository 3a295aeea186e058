-- `words::number_by` meets its contract: the sum is the list's number written out, and each byte is below 256.
use borrow.Author.Rules.{rules}
use Rattle.words.specs.rules.Bits.{join}
use Rattle.words.specs.rules.Bytes.{number}
use Rattle.words.proofs.number_by.Goals as goal

pub returns : goal.returns
unfolding number join
returns c = search rules

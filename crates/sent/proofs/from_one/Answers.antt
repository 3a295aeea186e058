-- `sent::from_one` meets its contract: the totals are numbered from 1, all else as it was.
use Rattle.sent.proofs.from_one.Goals as goal

pub returns : goal.returns
returns c = rw c.from_one.ensures

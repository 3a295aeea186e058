-- `sent::begin` meets its contract: the totals are those of an opening, and all else is written out.
use Rattle.sent.proofs.begin.Goals as goal

pub returns : goal.returns
returns c = rw c.zero-totals.ensures

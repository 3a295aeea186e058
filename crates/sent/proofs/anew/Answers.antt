-- `sent::anew` meets its contract: each field is the session's own.
use Rattle.sent.proofs.anew.Goals as goal

pub returns : goal.returns
returns c = rw c.anew.ensures

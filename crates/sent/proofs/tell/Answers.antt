-- `sent::tell` meets its contract: it is the definition, field by field, and writes nothing.
use Rattle.sent.proofs.tell.Goals as goal

pub returns : goal.returns
returns c = rw c.wrote_none.ensures

-- `host_ear::acknowledges` meets its contract: an acknowledgement is one word.
use Rattle.host_ear.proofs.acknowledges.Goals as goal

pub returns : goal.returns
returns c = rw (c.ends_with_word.ensures, c.acknowledgement.ensures)

-- `sent::take_unit` meets its contract: the unit is heard by the same session.
use Rattle.sent.proofs.take_unit.Goals as goal

pub returns : goal.returns
returns c = record { value = rw c.anew.ensures at c.hear.ensures.value; memory_after = rw c.anew.ensures at c.hear.ensures.memory_after }

-- `sent::Session::step_at` meets its contract: the unit at the place is taken.
use Rattle.sent.proofs.Session.step_at.Goals as goal

pub take_unit-requires : goal.take_unit-requires
take_unit-requires c = c.unit_at.ensures.upper_bound

pub returns : goal.returns
returns c = record {
  value = rw c.unit_at.ensures.value at c.take_unit.ensures.value;
  memory_after = rw c.unit_at.ensures.value at c.take_unit.ensures.memory_after;
}

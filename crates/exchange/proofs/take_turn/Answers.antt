-- `exchange::take_turn` meets its contract: it is the definition, field by field.
use Rattle.exchange.proofs.take_turn.Goals as goal

pub returns : goal.returns
returns c = rw c.first_but_ended.ensures

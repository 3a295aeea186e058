-- `ledger::Totals::differ` meets its contract: two standings of a DM648 are equal where both totals are.
use Rattle.ledger.proofs.Totals.differ.Goals as goal
use Rattle.ledger.specs.rules.Totals.{is_other}

pub returns-in-Dm648 : goal.returns-in-Dm648
unfolding is_other
returns-in-Dm648 c = rw (c.in-Dm648.is, c.ne.ensures)

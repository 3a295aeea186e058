-- `ledger::Totals::settle` meets its contract: by whether a Request stands.
use Rattle.words.specs.rules.Choice.{pick}
use Rattle.ledger.proofs.Totals.settle.Goals as goal

pub returns-then-self : goal.returns-then-self
unfolding pick
returns-then-self c = rw (c.if-self.true, c.mark.ensures)

pub returns : goal.returns
unfolding pick
returns c = rw c.if-self.false

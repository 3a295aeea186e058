-- `ledger::is_past` meets its contract: the first test decides where it holds, else the second.
use Rattle.std.proofs.Common.{le-ltb, lt-ltb}
use Rattle.ledger.specs.rules.Totals.{is_past}
use Rattle.ledger.proofs.is_past.Goals as goal

pub returns-then-now-gt-MOST : goal.returns-then-now-gt-MOST
unfolding is_past
returns-then-now-gt-MOST c = rw (lt-ltb _ _ c.if-now-gt-MOST.true)

pub returns-else-now-gt-MOST : goal.returns-else-now-gt-MOST
unfolding is_past
returns-else-now-gt-MOST c = rw (le-ltb _ _ c.if-now-gt-MOST.false)

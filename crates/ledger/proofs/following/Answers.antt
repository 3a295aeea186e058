-- `ledger::following` meets its contract, by its two tests.
use Rattle.std.proofs.Common.{eq-eqb, ne_eqb, le-leb}
use borrow.Author.Tests.{lt-leb}
use Rattle.words.specs.rules.Choice.{pick}
use Rattle.ledger.specs.rules.Totals.{following}
use Rattle.ledger.proofs.following.Goals as goal

pub returns-then-number-eq0 : goal.returns-then-number-eq0
unfolding following pick
returns-then-number-eq0 c = rw (eq-eqb _ _ c.if-number-eq0.true)

pub returns-then-number-ge-SPENT : goal.returns-then-number-ge-SPENT
unfolding following pick
returns-then-number-ge-SPENT c = rw (ne_eqb _ _ c.if-number-eq0.false, le-leb _ _ c.if-number-ge-SPENT.true)

pub returns : goal.returns
unfolding following pick
returns c = rw (ne_eqb _ _ c.if-number-eq0.false, lt-leb _ _ c.if-number-ge-SPENT.false)

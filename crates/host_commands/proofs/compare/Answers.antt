-- `host_commands::compare` meets its contract: a match, spent retries and the seek are tested in the definition's order.
use mathlib.Core.Path.{sym, ◌∙◌}
use borrow.Author.Tests.{le-leb, lt-leb, eq-eqb, ne_eqb}
use Rattle.words.proofs.Choice.{chosen, passed}
use Rattle.host_commands.specs.rules.Commands.{compared}
use Rattle.host_commands.proofs.compare.Goals as goal

pub returns-then-argument_at-checksum : goal.returns-then-argument_at-checksum
unfolding compared
returns-then-argument_at-checksum c =
    rw (c.send.ensures, c.go_to.ensures)
    (sym (chosen _ _ _ (eq-eqb _ _ (sym c.argument_at.ensures ∙ c.if-argument_at-checksum.true))))

pub returns-then-host : goal.returns-then-host
unfolding compared
returns-then-host c =
    c.refuse.ensures
    ∙ sym (passed _ _ _ (ne_eqb _ _ (rw c.argument_at.ensures at c.if-argument_at-checksum.false))
    ∙ chosen _ _ _ (le-leb _ _ c.if-host.true))

pub returns : goal.returns
unfolding compared
returns c =
    rw (c.retry.ensures, c.argument_at-2.ensures)
    (sym (passed _ _ _ (ne_eqb _ _ (rw c.argument_at.ensures at c.if-argument_at-checksum.false))
    ∙ passed _ _ _ (lt-leb _ _ c.if-host.false)))

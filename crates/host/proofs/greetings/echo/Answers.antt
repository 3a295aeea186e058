-- `host::greetings::echo` meets its contract: its tests are those of the definition, in their order.
use mathlib.Core.Bool.{not}
use mathlib.Core.Path.{sym, ap, ◌∙◌}
use borrow.Author.Tests.{lt-ltb, le-ltb, eq-eqb, ne_eqb}
use Rattle.words.proofs.Choice.{chosen, passed}
use Rattle.host.specs.rules.Turn.{echo_heard}
use Rattle.host.proofs.greetings.echo.Goals as goal

pub returns-then-host-lt4 : goal.returns-then-host-lt4
unfolding echo_heard
returns-then-host-lt4 c = c.again.ensures ∙ sym (chosen _ _ _ (lt-ltb _ _ c.if-host-lt4.true))

pub returns-then-newest_word-echo_of : goal.returns-then-newest_word-echo_of
unfolding echo_heard
returns-then-newest_word-echo_of c =
    c.refuse.ensures
    ∙ sym (passed _ _ _ (le-ltb _ _ c.if-host-lt4.false)
    ∙ chosen _ _ _ (ap not (ne_eqb _ _ (rw (c.echo_of.ensures, c.newest_word.ensures) at c.if-newest_word-echo_of.true))))

pub returns-then-k-host : goal.returns-then-k-host
unfolding echo_heard
returns-then-k-host c =
    c.enter.ensures
    ∙ sym (passed _ _ _ (le-ltb _ _ c.if-host-lt4.false)
    ∙ passed _ _ _ (ap not (eq-eqb _ _ (sym c.newest_word.ensures ∙ c.if-newest_word-echo_of.false ∙ c.echo_of.ensures)))
    ∙ chosen _ _ _ (lt-ltb _ _ c.if-k-host.true))

pub returns : goal.returns
unfolding echo_heard
returns c =
    c.enter-2.ensures
    ∙ sym (passed _ _ _ (le-ltb _ _ c.if-host-lt4.false)
    ∙ passed _ _ _ (ap not (eq-eqb _ _ (sym c.newest_word.ensures ∙ c.if-newest_word-echo_of.false ∙ c.echo_of.ensures)))
    ∙ passed _ _ _ (le-ltb _ _ c.if-k-host.false))

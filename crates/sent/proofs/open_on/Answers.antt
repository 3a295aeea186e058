-- `sent::open_on` meets its contract: the map is tested as in the definition.
use mathlib.Core.Bool.{not}
use mathlib.Core.Path.{sym, ap, ◌∙◌}
use Rattle.words.proofs.Choice.{chosen, passed}
use Rattle.sent.specs.rules.Opening.{opened_by}
use Rattle.sent.proofs.open_on.Goals as goal

pub returns-then-not-is_good : goal.returns-then-not-is_good
unfolding opened_by
returns-then-not-is_good c = c.shut.ensures ∙ sym (chosen _ _ _ (ap not (rw c.is_good.ensures at c.if-not-is_good.true)))

pub returns : goal.returns
unfolding opened_by
returns c =
    rw (c.begin.ensures, c.kept.ensures, c.greet.ensures)
    (sym (passed _ _ _ (ap not (rw c.is_good.ensures at c.if-not-is_good.false))))

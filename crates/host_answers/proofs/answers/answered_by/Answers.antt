-- `host_answers::answers::answered_by` meets its contract: its test is that of the definition.
use mathlib.Core.Path.{sym, ◌∙◌}
use Rattle.words.proofs.Choice.{chosen, passed}
use Rattle.host_answers.specs.rules.Answers.{answered_by}
use Rattle.host_answers.proofs.answers.answered_by.Goals as goal

pub returns-then-right : goal.returns-then-right
unfolding answered_by
returns-then-right c = sym (chosen _ _ _ c.if-right.true)

pub returns : goal.returns
unfolding answered_by
returns c = c.again.ensures ∙ sym (passed _ _ _ c.if-right.false)

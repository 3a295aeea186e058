-- `host_answers::answers::repeat` meets its contract: what was heard is tested as in the definition.
use mathlib.Core.Path.{sym, ◌∙◌}
use Rattle.words.proofs.Choice.{chosen, passed}
use Rattle.host_answers.proofs.answers.repeat.Goals as goal

pub returns-then-host : goal.returns-then-host
returns-then-host c = sym (chosen _ _ _ c.if-host.true)

pub returns : goal.returns
returns c = c.repetition.ensures ∙ sym (passed _ _ _ c.if-host.false)

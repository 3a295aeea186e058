-- `host_answers::stretch` meets its contract: each arm is one case of the definition.
use mathlib.Core.Path.{sym, ap, ◌∙◌}
use Rattle.host_answers.specs.declared.Sending.{Sending}
use Rattle.host_answers.specs.rules.Sendings.{stretch_of}
use Rattle.host_answers.proofs.stretch.Goals as goal

pub returns-in-Nothing : goal.returns-in-Nothing
returns-in-Nothing c =
    let a = c.args in
    sym (ap (λ (s : Sending). stretch_of s a.image.now) c.in-Nothing.is)

pub returns-in-Start : goal.returns-in-Start
returns-in-Start c =
    let a = c.args in
    sym (ap (λ (s : Sending). stretch_of s a.image.now) c.in-Start.is)

pub returns-in-Word : goal.returns-in-Word
returns-in-Word c =
    let a = c.args in
    sym (ap (λ (s : Sending). stretch_of s a.image.now) c.in-Word.is)

pub returns-in-Stretch : goal.returns-in-Stretch
returns-in-Stretch c =
    let a = c.args in
    c.part.ensures ∙ sym (ap (λ (s : Sending). stretch_of s a.image.now) c.in-Stretch.is)

-- `host_answers::sendings::repetition` meets its contract: an echo is one case of the definition, and all other waits send what they sent on entering.
use mathlib.Core.Path.{sym, ap, ◌∙◌}
use Rattle.host_answers.specs.declared.Wait.{Wait}
use Rattle.host_answers.specs.rules.Sendings.{repeats}
use Rattle.host_answers.proofs.Repeats.{as_on_entering}
use Rattle.host_answers.proofs.sendings.repetition.Goals as goal

pub returns-in-Echo : goal.returns-in-Echo
returns-in-Echo c =
    let a = c.args in
    sym (ap (λ (w : Wait). repeats w a.host a.image.now) c.in-Echo.is)

pub returns-in_default : goal.returns-in_default
returns-in_default c =
    let a = c.args in
    c.opening.ensures ∙ as_on_entering a.wait a.host a.image.now c.in_default.not-Echo

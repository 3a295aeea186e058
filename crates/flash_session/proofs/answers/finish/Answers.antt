-- `flash_session::answers::finish` meets its contract: a command is accepted exactly where nothing is refused.
use mathlib.Core.Path.{sym, ap, ◌∙◌}
use Rattle.words.proofs.Choice.{chosen, passed}
use Rattle.opcodes.specs.rules.Answers.{accepted}
use Rattle.opcodes.specs.rules.Refusals.{Verdict}
use Rattle.opcodes.proofs.Verdicts.{refused_not}
use Rattle.flash_session.specs.rules.Sessions.{stopped, after}
use Rattle.flash_session.proofs.answers.finish.Goals as goal

pub returns-in-None : goal.returns-in-None
unfolding after
returns-in-None c =
    rw (c.proceed.ensures, c.moved-past.ensures, c.event_anew-event.ensures)
    (sym (chosen _ _ _ (ap (λ (q : Verdict). accepted q) c.in-None.is)))

pub returns-in-Some : goal.returns-in-Some
unfolding after
returns-in-Some c =
    c.halt.ensures
    ∙ sym (
    passed _ _ _ (ap (λ (q : Verdict). accepted q) c.in-Some.is ∙ refused_not c.in-Some.refusal)
    ∙ ap (λ (q : Verdict). stopped q c.args.session) c.in-Some.is
    )

-- `machine_answers::finish` meets its contract: a command is accepted exactly where nothing is refused.
use mathlib.Core.Path.{sym, ◌∙◌}
use Rattle.std.proofs.Common.{ap}
use Rattle.words.proofs.Choice.{chosen, passed}
use Rattle.opcodes.proofs.Verdicts.{refused_not}
use Rattle.opcodes.specs.rules.Refusals.{Verdict}
use Rattle.opcodes.specs.rules.Answers.{accepted}
use Rattle.machine_answers.specs.rules.Answers.{refused, after}
use Rattle.machine_answers.proofs.finish.Goals as goal

pub returns-in-None : goal.returns-in-None
unfolding after
returns-in-None c =
    rw (c.wrote_none.ensures, c.moved.ensures, c.silent.ensures)
    (sym (chosen _ _ _ (ap (λ (q : Verdict). accepted q) c.in-None.is)))

pub returns-in-Some : goal.returns-in-Some
unfolding after
returns-in-Some c =
    c.refuse.ensures
    ∙ sym (
    passed _ _ _ (ap (λ (q : Verdict). accepted q) c.in-Some.is ∙ refused_not c.in-Some.refusal)
    ∙ ap (λ (q : Verdict). refused c.args.core q) c.in-Some.is
    )

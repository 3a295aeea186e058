-- `machine::advance` meets its contract: each arm is one side of the choice.
use mathlib.Core.Path.{sym, ap, ◌∙◌}
use borrow.Author.Tests.{eq-eqb, ne_eqb}
use Rattle.words.proofs.Choice.{chosen, passed}
use Rattle.machine_answers.specs.rules.Answers.{WordOutcome}
use Rattle.machine.proofs.advance.Goals as goal

pub returns-then-step-eq0 : goal.returns-then-step-eq0
returns-then-step-eq0 c =
    let done = sym (chosen _ _ _ (eq-eqb _ _ c.if-step-eq0.true)) in record {
      value = c.perform.ensures.value ∙ ap (λ (o : WordOutcome). o.answer) done;
      memory_after = c.perform.ensures.memory_after
          ∙ ap (λ (o : WordOutcome). o.memory) done;
    }

pub returns : goal.returns
returns c =
    let asked = sym (passed _ _ _ (ne_eqb _ _ c.if-step-eq0.false)) in
    record {
      value = rw c.keep-kept.ensures at c.ask.ensures ∙ ap (λ (o : WordOutcome). o.answer) asked;
      memory_after = ap (λ (o : WordOutcome). o.memory) asked;
    }

-- `machine::take_command` meets its contract: an opcode begins the session and is acknowledged, another word is neither.
use mathlib.Core.Path.{sym, ap, ◌∙◌}
use Rattle.words.proofs.Choice.{chosen, passed}
use Rattle.machine_answers.specs.rules.Answers.{WordOutcome}
use Rattle.machine.proofs.take_command.Goals as goal

pub returns-then-step : goal.returns-then-step
returns-then-step c =
    let opened = sym (chosen _ _ _ c.if-step.true) in
    let core = c.begun_by.ensures ∙ chosen _ _ _ c.if-step.true in
    let done = rw core at c.advance-taken.ensures in
    record {
      value = rw done.value at c.acknowledge.ensures ∙ ap (λ (o : WordOutcome). o.answer) opened;
      memory_after = done.memory_after ∙ ap (λ (o : WordOutcome). o.memory) opened;
    }

pub returns : goal.returns
returns c =
    let went = sym (passed _ _ _ c.if-step.false) in
    let core = c.begun_by.ensures ∙ passed _ _ _ c.if-step.false in
    let done = rw core at c.advance-taken.ensures in
    record { value = done.value ∙ ap (λ (o : WordOutcome). o.answer) went; memory_after = done.memory_after ∙ ap (λ (o : WordOutcome). o.memory) went }

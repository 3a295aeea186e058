-- `machine::take_word` meets its contract: a word that is refused, and one that has a purpose.
use mathlib.Core.Path.{sym, ◌∙◌}
use Rattle.machine.proofs.Cases.{served_answer, served_memory}
use Rattle.machine.proofs.take_word.Goals as goal

pub returns-in-Err : goal.returns-in-Err
returns-in-Err c =
    let a = c.args in
    let known = sym c.in-Err.ensures in
    record { value = c.refuse.ensures ∙ served_answer a.core a.memory.now a.word known; memory_after = served_memory a.core a.memory.now a.word known }

pub returns-in-Ok : goal.returns-in-Ok
returns-in-Ok c =
    let a = c.args in
    let known = sym c.in-Ok.ensures in
    record {
      value = c.serve.ensures.value ∙ served_answer a.core a.memory.now a.word known;
      memory_after = c.serve.ensures.memory_after ∙ served_memory a.core a.memory.now a.word known;
    }

-- `sent::hear` meets its contract: its tests are those of the definition, in their order, and what is left is the whole word.
use Prim.Native.Nat.{ℕ}
use mathlib.Core.List.{List}
use mathlib.Core.Path.{◌≡◌, refl, sym, ap, ◌∙◌}
use borrow.Author.Tests.{not-true, not-false}
use Rattle.sent.specs.rules.Bus.{pushed}
use Rattle.sent.specs.rules.Line.{UnitOutcome}
use Rattle.machine.specs.rules.Machine.{word_step}
use Rattle.sent.specs.declared.Answer.{Answer}
use Rattle.sent.proofs.Cases.{carried_answer, carried_memory, unit_ended, unit_memory, unit_start, unit_dropped, unit_gathered, unit_whole}
use Rattle.sent.proofs.hear.Goals as goal

told : {o p : UnitOutcome} {a : Answer} → o ≡ p → a ≡ p.answer → a ≡ o.answer
told e h = h ∙ sym (ap (λ (o : UnitOutcome). o.answer) e)

left_in : {o p : UnitOutcome} {m : List ℕ} → o ≡ p → m ≡ p.memory → m ≡ o.memory
left_in e h = h ∙ sym (ap (λ (o : UnitOutcome). o.memory) e)

pub returns-then-core : goal.returns-then-core
returns-then-core c =
    let a = c.args in
    let case = unit_ended a.bus a.session a.memory.now a.unit c.if-core.true in
    record { value = told case (rw c.silent.ensures at c.tell.ensures); memory_after = left_in case refl }

pub returns-then-memory-sum : goal.returns-then-memory-sum
returns-then-memory-sum c =
    let a = c.args in
    let case = unit_memory a.bus a.session a.memory.now a.unit c.if-core.false
    (rw c.sum.ensures at c.if-memory-sum.true) in
    record { value = told case (rw c.silent-then-memory-sum.ensures at c.tell-then-memory-sum.ensures); memory_after = left_in case refl }

pub returns-then-is_start : goal.returns-then-is_start
returns-then-is_start c =
    let a = c.args in
    let lent = c.if-memory-sum.false ∙ c.sum.ensures in
    let start = sym c.is_start.ensures ∙ c.if-is_start.true in
    let case = unit_start a.bus a.session a.memory.now a.unit
    c.if-core.false lent start in
    record { value = told case (rw (c.start_reply.ensures, c.gather-started.ensures) at c.tell-then-is_start.ensures); memory_after = left_in case refl }

pub returns-then-not-line : goal.returns-then-not-line
returns-then-not-line c =
    let a = c.args in
    let lent = c.if-memory-sum.false
    ∙ c.sum.ensures in
    let other = sym c.is_start.ensures ∙ c.if-is_start.false in
    let case = unit_dropped a.bus a.session a.memory.now a.unit
    c.if-core.false lent other (not-true _ c.if-not-line.true) in
    record { value = told case (rw c.silent-then-not-line.ensures at c.tell-then-not-line.ensures); memory_after = left_in case refl }

pub returns-then-line-last_unit : goal.returns-then-line-last_unit
returns-then-line-last_unit c =
    let a = c.args in
    let lent = c.if-memory-sum.false ∙ c.sum.ensures in
    let other = sym c.is_start.ensures ∙ c.if-is_start.false in
    let few = rw c.last_unit.ensures at c.if-line-last_unit.true in
    let case = unit_gathered a.bus a.session a.memory.now a.unit c.if-core.false lent other (not-false _ c.if-not-line.false) few in
    record {
      value = told case (rw (c.silent-then-line-last_unit.ensures, c.gather-gathered.ensures, c.push-word.ensures) at c.tell-then-line-last_unit.ensures);
      memory_after = left_in case refl;
    }

pub returns : goal.returns
returns c =
    let a = c.args in
    let lent = c.if-memory-sum.false ∙ c.sum.ensures in
    let other = sym c.is_start.ensures ∙ c.if-is_start.false in
    let all = rw c.last_unit.ensures at c.if-line-last_unit.false in
    let case = unit_whole a.bus a.session a.memory.now a.unit c.if-core.false lent other (not-false _ c.if-not-line.false) all in
    let step = word_step a.session.core a.memory.now (pushed a.bus a.session.line.word a.unit) in
    record {
      value = told case (rw (c.take_word.ensures.value, c.push-word.ensures) at c.carry.ensures ∙ carried_answer a.session step);
      memory_after = left_in case (rw c.push-word.ensures at c.take_word.ensures.memory_after ∙ carried_memory a.session step);
    }

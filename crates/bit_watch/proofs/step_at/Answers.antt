-- `bit_watch::step_at` meets its contract: the step is the plain one, and what it tells that it wrote is stamped.
use mathlib.Core.Path.{ap}
use Rattle.sent.specs.declared.Answer.{Answer}
use Rattle.bit_watch.proofs.Telling.{all_told, nothing_told, no_word_told}
use Rattle.bit_watch.proofs.step_at.Goals as goal

pub returns-then-wrote-eq0 : goal.returns-then-wrote-eq0
returns-then-wrote-eq0 c =
    let a = c.args in
    let step = c.step_at-answer in
    let same = ap (λ (x : Answer). x.wrote) step.ensures.value in
    record {
      value = step.ensures.value;
      memory_after = step.ensures.memory_after;
      entries_after = nothing_told a.entries.now a.places.now a.count same c.if-wrote-eq0.true;
    }

pub returns-then-count-eq0 : goal.returns-then-count-eq0
returns-then-count-eq0 c =
    let a = c.args in
    let step = c.step_at-answer in
    let same = ap (λ (x : Answer). x.wrote) step.ensures.value in
    record {
      value = step.ensures.value;
      memory_after = step.ensures.memory_after;
      entries_after = no_word_told a.entries.now a.places.now a.count same c.if-count-eq0.true;
    }

pub returns : goal.returns
returns c =
    let a = c.args in
    let step = c.step_at-answer in
    let same = ap (λ (x : Answer). x.wrote) step.ensures.value in
    record {
      value = step.ensures.value;
      memory_after = step.ensures.memory_after;
      entries_after = all_told a.entries.now a.places.now a.count same c.stamp.ensures;
    }

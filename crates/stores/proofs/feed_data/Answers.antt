-- `stores::feed_data` meets its contract: the words that are left lead from the checksum reached to the same end.
use mathlib.Core.Path.{sym, ◌∙◌}
use Rattle.stores.proofs.Feeding.{next_word, no_word}
use Rattle.stores.proofs.feed_data.Goals as goal

pub loop-word-preserved : goal.loop-word-preserved
loop-word-preserved c =
    let l = c.loop-word in
    let step = c.in-Some.ensures.steps in (
      step.0 ∙ l.invariant.0,
      rw (c.feed-reached.ensures, c.number_of.ensures)
          (sym (next_word l.reached c.in-Some.word.now c.next.new.self.rest.now _ l.invariant.0 step.1.0 step.1.1 step.1.2) ∙ l.invariant.1),
    )

pub returns : goal.returns
returns c = sym (no_word _ _ c.in-None.ensures.steps.1.0) ∙ c.loop-word.invariant.1

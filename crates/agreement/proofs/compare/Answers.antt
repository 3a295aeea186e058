-- `agreement::compare` meets its contract: both memories are of zeros when they are lent, and what is compared is what the two sides left.
use mathlib.Core.Path.{ap₂, ◌∙◌}
use Rattle.agreement.specs.rules.Comparison.{difference_of, compared_of}
use Rattle.agreement.proofs.Comparing.{same_compared}
use Rattle.agreement.proofs.compare.Goals as goal

pub returns : goal.returns
unfolding compared_of
returns c =
    let run = c.run_flash-ran.ensures in
    let map = c.windows.ensures in
    let talk = rw map at c.exchange-talked.ensures in
    let ends = c.compare_ends.ensures in
    let left = ap₂ difference_of run.memory_after talk.memory_after in
    record {
      value = same_compared (ends.flash_value ∙ run.value) (ends.line_value ∙ talk.value) (ends.difference_value ∙ left);
      first_after = run.room_after;
      second_after = talk.room_after;
    }

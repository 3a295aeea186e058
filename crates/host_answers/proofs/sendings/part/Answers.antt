-- `host_answers::sendings::part` meets its contract: the part is taken where it is there.
use mathlib.Core.Path.{sym, ◌∙◌}
use Rattle.words.proofs.Choice.{chosen, passed}
use Rattle.words.specs.rules.Bytes.{bytes_at}
use Rattle.host_answers.proofs.Parts.{is_there}
use Rattle.host_answers.proofs.sendings.part.Goals as goal

pub slice_bounds-result-count : goal.slice_bounds-result-count
slice_bounds-result-count c =
    let a = c.args in
    (is_there a.image.now a.from a.to (sym c.is_part.ensures ∙ c.if-is_part.true)).0

pub slice_bounds-result-start : goal.slice_bounds-result-start
slice_bounds-result-start c =
    let a = c.args in
    (is_there a.image.now a.from a.to (sym c.is_part.ensures ∙ c.if-is_part.true)).0

pub slice_bounds-result-end : goal.slice_bounds-result-end
slice_bounds-result-end c =
    let a = c.args in
    (is_there a.image.now a.from a.to (sym c.is_part.ensures ∙ c.if-is_part.true)).1

pub returns-then-is_part : goal.returns-then-is_part
unfolding bytes_at
returns-then-is_part c = sym (chosen _ _ _ (sym c.is_part.ensures ∙ c.if-is_part.true))

pub returns : goal.returns
returns c = sym (passed _ _ _ (sym c.is_part.ensures ∙ c.if-is_part.false))

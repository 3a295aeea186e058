-- `digits::given` meets its contract: each way is one side of the choice; where 0x stands, two characters are there.
use mathlib.Core.Path.{sym, ap, ◌∙◌}
use native.Mathlib.Omega.{arith}
use Rattle.words.proofs.Choice.{chosen, passed}
use Rattle.words.proofs.Numbers.{from_place}
use Rattle.digits.specs.rules.Numbers.{number_up_to, given_of}
use Rattle.digits.proofs.Reading.{marked_long}
use Rattle.digits.proofs.given.Goals as goal

pub slice_bounds-hexadecimal-count : goal.slice_bounds-hexadecimal-count
slice_bounds-hexadecimal-count c = omega (arith, marked_long _ (sym c.is_marked.ensures ∙ c.if-is_marked.true))

pub slice_bounds-hexadecimal-start : goal.slice_bounds-hexadecimal-start
slice_bounds-hexadecimal-start c = omega (arith, marked_long _ (sym c.is_marked.ensures ∙ c.if-is_marked.true))

pub returns-then-is_marked : goal.returns-then-is_marked
unfolding given_of
returns-then-is_marked c =
    c.hexadecimal.ensures
    ∙ ap (number_up_to 16 4294967295) (from_place c.args.text.now 2)
    ∙ sym (chosen _ _ _ (sym c.is_marked.ensures ∙ c.if-is_marked.true))

pub returns : goal.returns
unfolding given_of
returns c = c.decimal.ensures ∙ sym (passed _ _ _ (sym c.is_marked.ensures ∙ c.if-is_marked.false))

-- `bit_choice::choose` meets its contract: a list that is good is taken, any other refused.
use mathlib.Core.Path.{sym, ◌∙◌}
use Rattle.words.proofs.Choice.{chosen, passed}
use Rattle.bit_choice.specs.rules.Chosen.{choice_of}
use Rattle.bit_choice.proofs.Choosing.{few_chosen}
use Rattle.bit_choice.proofs.choose.Goals as goal

pub taken_of-requires : goal.taken_of-requires
taken_of-requires c = few_chosen _ _ (sym c.is_good.ensures ∙ c.if-is_good.true)

pub returns-then-is_good : goal.returns-then-is_good
unfolding choice_of
returns-then-is_good c = c.taken_of.ensures ∙ sym (chosen _ _ _ (sym c.is_good.ensures ∙ c.if-is_good.true))

pub returns : goal.returns
unfolding choice_of
returns c = c.not_taken.ensures ∙ sym (passed _ _ _ (sym c.is_good.ensures ∙ c.if-is_good.false))

-- `commands::seek` meets its contract: the two wrapping sums lead to the target, and its tests are those of the definition.
use Rattle.std.proofs.Common.{arith}
use Rattle.std.proofs.lemmas.Grind.{common_steps}
use Rattle.words.specs.rules.Choice.{pick}
use Rattle.commands.specs.rules.Commands.{multiple, target, sought_from}
use Rattle.commands.proofs.seek.Goals as goal

pub returns-then-target-ne0 : goal.returns-then-target-ne0
unfolding sought_from target multiple pick
returns-then-target-ne0 c = grind (arith, common_steps)

pub returns : goal.returns
unfolding sought_from target multiple pick
returns c = grind (arith, common_steps)

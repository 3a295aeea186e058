-- `field_lines::address` meets its contract: eight digits make a number that the largest word bounds.
use mathlib.Core.Path.{◌∙◌}
use Rattle.field_lines.proofs.Decimals.{address_short, address_by}
use Rattle.field_lines.proofs.address.Goals as goal

pub returns-then-s-ne8 : goal.returns-then-s-ne8
returns-then-s-ne8 c = address_short c.args.s.now c.if-s-ne8.true

pub returns : goal.returns
returns c = c.hexadecimal.ensures ∙ address_by c.args.s.now c.if-s-ne8.false

-- `sent::carry` meets its contract: its parts are those of the word's answer, and the line is the one after it.
use Rattle.sent.specs.rules.Line.{carried}
use Rattle.sent.proofs.carry.Goals as goal

pub returns : goal.returns
unfolding carried
returns c = rw c.line_after-line.ensures

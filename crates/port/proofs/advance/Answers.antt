-- The session and what is told are the parts of the step's answer, and the memory is the one that the step leaves.
use mathlib.Core.Path.{ap}
use Rattle.sent.specs.declared.Answer.{Answer}
use Rattle.port.specs.rules.Port.{told_of}
use Rattle.port.proofs.advance.Goals as goal

pub returns : goal.returns
returns c = let e = c.step-answer.ensures in (ap (λ (a : Answer). a.session) e.value, ap told_of e.value, e.memory_after)

-- `sent::line_after` meets its contract: it is accepted exactly where nothing is refused.
use mathlib.Core.Path.{sym}
use Rattle.words.proofs.Choice.{chosen, passed}
use Rattle.opcodes.proofs.Verdicts.{accepted_by}
use Rattle.sent.proofs.line_after.Goals as goal

pub returns-then-is_none : goal.returns-then-is_none
returns-then-is_none c = sym (chosen _ _ _ (accepted_by _ c.is_none.ensures c.if-is_none.true))

pub returns : goal.returns
returns c = sym (passed _ _ _ (accepted_by _ c.is_none.ensures c.if-is_none.false))

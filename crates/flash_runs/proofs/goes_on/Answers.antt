-- `flash_runs::goes_on` meets its contract: its two tests are those of the definition.
use mathlib.Core.Path.{sym, ◌∙◌}
use Rattle.opcodes.proofs.Verdicts.{accepted_by, none_code, some_code}
use Rattle.flash_runs.proofs.Calls.{accepted_goes, refused_stops}
use Rattle.flash_runs.proofs.goes_on.Goals as goal

pub returns-then-is_none : goal.returns-then-is_none
returns-then-is_none c = sym (accepted_goes _ (none_code _ (accepted_by _ c.is_none.ensures c.if-is_none.true)))

pub returns-else-is_none : goal.returns-else-is_none
returns-else-is_none c = c.if-is_none.false ∙ sym (refused_stops _ (some_code _ (accepted_by _ c.is_none.ensures c.if-is_none.false)))

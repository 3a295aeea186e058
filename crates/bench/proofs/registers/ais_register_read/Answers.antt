-- `bench::registers::ais_register_read` meets its contract: the count or the refusal is told.
use mathlib.Core.Path.{sym, ◌∙◌}
use Rattle.field_register.proofs.Bounds.{line_low}
use Rattle.bench.proofs.registers.ais_register_read.Goals as goal

pub refuse_text-requires : goal.refuse_text-requires
refuse_text-requires c = line_low c.args.text.now _ (sym c.read.ensures ∙ c.in-Err.is)

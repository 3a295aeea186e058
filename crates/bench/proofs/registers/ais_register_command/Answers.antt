-- `bench::registers::ais_register_command` meets its contract: a text that is refused is told, else the command.
use mathlib.Core.Path.{sym, ◌∙◌}
use Rattle.field_register.proofs.Bounds.{line_low}
use Rattle.bench.proofs.registers.ais_register_command.Goals as goal

pub refuse_text-requires : goal.refuse_text-requires
refuse_text-requires c = line_low c.args.text.now _ (sym c.read.ensures ∙ c.in-Err.is)

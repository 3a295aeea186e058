-- `reading::data_size` meets its contract: a load's is its size word, and no other command has data.
use mathlib.Core.Path.{sym, ap, ◌∙◌}
use Rattle.opcodes.specs.declared.Command.{Command}
use Rattle.reading.specs.rules.Reading.{data_size}
use Rattle.reading.proofs.Reading.{no_load}
use Rattle.reading.proofs.data_size.Goals as goal

pub returns-in-Load : goal.returns-in-Load
returns-in-Load c =
    let a = c.args in
    c.argument_at.ensures ∙ sym (ap (λ (k : Command). data_size k a.image.now a.offset) c.in-Load.is)

pub returns-in_default : goal.returns-in_default
returns-in_default c =
    let a = c.args in
    no_load a.command a.image.now a.offset c.in_default.not-Load

-- `bit_report::told_of` meets its contract: each part is what a call promises.
use Rattle.bit_report.specs.rules.Parts.{told_of}
use Rattle.bit_report.proofs.told_of.Goals as goal

pub returns : goal.returns
unfolding told_of
returns c = rw (c.field_at-field.ensures, c.entry-at.ensures, c.entry-number.ensures)

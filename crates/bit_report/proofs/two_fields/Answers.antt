-- `bit_report::two_fields` meets its contract: each bit and field is what a call promises.
use Rattle.bit_report.specs.rules.Fields.{two_fields}
use Rattle.bit_report.proofs.two_fields.Goals as goal

pub returns : goal.returns
unfolding two_fields
returns c = rw (c.other_field.ensures, c.field_at-field.ensures, c.first_field-first.ensures)

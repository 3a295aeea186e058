-- Two results that meet one contract of the bits program's libraries coincide, as for every other public function (`Uniqueness`), and so do what the run that
-- it tells of leaves of the memory, the numbers and the offsets.
use mathlib.Core.Path.{◌≡◌}
use Rattle.bit_report.proofs.entry.Reads as entry
use Rattle.bit_report.proofs.field_at.Reads as field_at
use Rattle.bit_report.proofs.part_from.Reads as part-from
use Rattle.bit_report.proofs.is_first.Reads as is-first
use Rattle.bit_report.proofs.deed_at.Reads as deed-at
use Rattle.bit_report.proofs.first_field.Reads as first_field
use Rattle.bit_report.proofs.other_field.Reads as other-field
use Rattle.bit_report.proofs.reaches_out.Reads as reaches-out
use Rattle.bit_report.proofs.two_fields.Reads as two_fields
use Rattle.bit_report.proofs.cut_field.Reads as Cut-field
use Rattle.bit_runs.proofs.run.Reads as run
use Rattle.claims.proofs.Uniqueness.{Coincide, OneResult, same, both_same}

pub entry_unique : OneResult entry.Post
entry_unique κs a r s e f = same

pub field_at_unique : OneResult field_at.Post
field_at_unique κs a r s e f = same

pub part_from_unique : OneResult part-from.Post
part_from_unique κs a r s e f = same

pub is_first_unique : OneResult is-first.Post
is_first_unique κs a r s e f = same

pub deed_at_unique : OneResult deed-at.Post
deed_at_unique κs a r s e f = same

pub first_field_unique : OneResult first_field.Post
first_field_unique κs a r s e f = same

pub other_field_unique : OneResult other-field.Post
other_field_unique κs a r s e f = same

pub reaches_out_unique : OneResult reaches-out.Post
reaches_out_unique κs a r s e f = same

pub two_fields_unique : OneResult two_fields.Post
two_fields_unique κs a r s e f = same

pub cut_field_unique : OneResult Cut-field.Post
cut_field_unique κs a r s e f = same

pub bit_run_unique : Coincide run.Post
    (λ κs r s e f. (r ≡ s)
    × ((e.1.1.0.now ≡ f.1.1.0.now) × ((e.1.1.1.0.now ≡ f.1.1.1.0.now) × (e.1.1.1.1.0.now ≡ f.1.1.1.1.0.now))))
bit_run_unique κs a r s e f p q = (same p.0 q.0, (same p.1.0 q.1.0, both_same p.1.1 q.1.1))

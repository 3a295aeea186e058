-- `sent::unit_at` meets its contract: a unit is a byte or a half, by the line.
use native.Mathlib.Omega.{arith}
use Rattle.sent.proofs.unit_at.Goals as goal

pub returns-in-Bytes : goal.returns-in-Bytes
returns-in-Bytes c = record { value = rw c.in-Bytes.is c.byte_at.ensures; upper_bound = rw c.in-Bytes.is (omega (arith, c.byte_at.type_inv)) }

pub returns-in-Halves : goal.returns-in-Halves
returns-in-Halves c = record { value = rw c.in-Halves.is c.half_at.ensures; upper_bound = rw c.in-Halves.is (omega (arith, c.half_at.type_inv)) }

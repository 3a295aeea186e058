-- `words::with_field` meets its contract: it is the definition, and nothing of it passes 32 bits.
use native.Mathlib.Omega.{arith}
use native.Mathlib.Nat.{lt_of_lt_of_le}
use lib.Pow.{pow_mono}
use Rattle.words.specs.rules.Bits.{with_field}
use Rattle.words.proofs.Joins.{above_lt, with_field_lt}
use Rattle.words.proofs.with_field.Goals as goal

pub joined-requires : goal.joined-requires
joined-requires c =
    let a = c.args in (
      omega arith,
      rw c.joined-above.ensures
          (lt_of_lt_of_le (above_lt 32 a.word a.start a.width a.field c.ranges.word.fits c.requires)
          (pow_mono {j = 32} (omega arith))),
    )

pub overflow_cast-result : goal.overflow_cast-result
unfolding with_field
overflow_cast-result c =
    let a = c.args in
    record {
      fits = rw (c.joined.ensures, c.joined-above.ensures)
          (with_field_lt 32 a.word a.start a.width a.field c.ranges.word.fits c.requires);
    }

pub returns : goal.returns
unfolding with_field
returns c = rw (c.joined.ensures, c.joined-above.ensures)

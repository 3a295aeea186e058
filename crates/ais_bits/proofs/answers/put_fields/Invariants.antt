-- Each field is above the one before.
use Rattle.std.proofs.Common.{◌-◌}
use Rattle.ais_bits.proofs.answers.put_fields.Given as goal

abbrev pub decreases-loop-bit : goal.decreases-loop-bit
decreases-loop-bit g l = l.deed.to - l.bit

-- `bit_report::value_of` meets its contract: the power of two has at most 33 bits, and what is left by it at most 32.
use mathlib.Core.Path.{◌≡◌, ◌∙◌}
use Prim.Native.Nat.{◌*◌, ◌%◌, ◌^◌}
use native.Mathlib.Omega.{arith}
use native.Mathlib.Nat.{lt_of_lt_of_le, mod-lt, one-mul}
use lib.Dec.{lit<}
use lib.Pow.{pow_pos, pow_mono, shl_exact}
use Rattle.bit_report.specs.rules.Parts.{value_of}
use Rattle.bit_report.proofs.value_of.Goals as goal

module _ (c : goal.Start) where
  power : 1 * 2 ^ c.args.count % 2 ^ 64 ≡ 2 ^ c.args.count
  power = shl_exact 1 c.args.count 64 (lit< tt) (omega arith) ∙ one-mul (2 ^ c.args.count)

pub nonzero_rem-result : goal.nonzero_rem-result
nonzero_rem-result c = rw (power c) (pow_pos c.args.count)

pub overflow_cast-result-3 : goal.overflow_cast-result-3
overflow_cast-result-3 c = record { fits = rw (power c) (lt_of_lt_of_le (mod-lt _ (pow_pos c.args.count)) (pow_mono {j = 32} (omega arith))) }

pub returns : goal.returns
unfolding value_of
returns c = rw (power c)

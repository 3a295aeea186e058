-- `words::joined` meets its contract: neither shift loses a bit, since the high part has at most 32 bits and is shifted by at most 32.
use Prim.Native.Nat.{◌*◌, ◌%◌, ◌^◌}
use mathlib.Core.Path.{◌≡◌, ◌∙◌}
use native.Mathlib.Omega.{arith}
use native.Mathlib.Nat.{one-mul}
use lib.Dec.{lit<}
use lib.Pow.{shl_exact}
use Rattle.words.specs.rules.Bits.{join}
use Rattle.words.proofs.joined.Goals as goal

module _ (c : goal.Start) where
  power : 1 * 2 ^ c.args.bits % 2 ^ 64 ≡ 2 ^ c.args.bits
  power = shl_exact 1 c.args.bits 64 (lit< tt) (omega arith) ∙ one-mul (2 ^ c.args.bits)

  shifted : c.args.high * 2 ^ c.args.bits % 2 ^ 64 ≡ c.args.high * 2 ^ c.args.bits
  shifted = shl_exact 32 c.args.bits 64 c.requires.1 (omega arith)

pub returns : goal.returns
unfolding join
returns c = rw (power c, shifted c)

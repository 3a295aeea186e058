-- `commands::too_wide` meets its contract: below 32 the shift loses no bit, and from 32 on no value reaches the power.
use Rattle.std.proofs.Common.{sym, lt_of_lt_of_le, one-mul, arith, lit<, pow_mono, shl_exact}
use borrow.Author.Tests.{lt-leb}
use Rattle.commands.specs.rules.Commands.{too_wide}
use Rattle.commands.proofs.too_wide.Goals as goal

pub returns-then-width-lt32 : goal.returns-then-width-lt32
unfolding too_wide
returns-then-width-lt32 c = rw (shl_exact 1 c.args.width 32 (lit< tt) (omega arith), one-mul)

pub returns : goal.returns
unfolding too_wide
returns c = sym (lt-leb _ _ (lt_of_lt_of_le c.ranges.value.fits (pow_mono c.if-width-lt32.false)))

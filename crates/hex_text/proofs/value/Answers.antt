-- `hex_text::value` meets its contract: of each of the three kinds of digit the sum is the value.
use Rattle.std.proofs.Common.{arith}
use Rattle.digits.proofs.Digits.{by_digit}
use Rattle.hex_text.proofs.value.Goals as goal

pub returns : goal.returns
returns c =
    by_digit _ c.requires
    (λ h l v. (omega arith, omega arith))
    (λ h l v. (omega arith, omega arith))
    (λ h l v. (omega arith, omega arith))

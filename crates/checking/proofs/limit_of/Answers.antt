-- `checking::limit_of` meets its contract: the number that was read, or none, is the limit; it is not above 255, so that it fits.
use mathlib.Core.Path.{sym, ◌∙◌}
use native.Mathlib.Omega.{arith}
use Rattle.digits.proofs.Reading.{made}
use Rattle.checking.proofs.limit_of.Goals as goal

pub overflow_cast-result : goal.overflow_cast-result
overflow_cast-result c =
    let number = made 10 255 _ _ (sym c.in_ok-retries.was ∙ c.decimal.ensures) in
    record { fits = omega (arith, number.small, number.is) }

-- The retry limit as a person gives it: decimal digits of a number up to 255.
use Rattle.std.specs.Prelude.{ℕ, List, Option}
use Rattle.digits.specs.rules.Numbers.{number_up_to}

-- the limit that a text gives
abbrev pub limit_of : List ℕ → Option ℕ
limit_of text = number_up_to 10 255 text

-- Texts of digits, and the numbers that they make.
use Rattle.std.specs.Prelude.{ℕ, ◌+◌, ◌*◌, ◌^◌, Bool, true, ◌&&◌, List, [], ◌∷◌, leb, ltb, eqb, length, get_or, drop, Option, Some, None}
use Prim.Native.Char.{code}
use Rattle.words.specs.rules.Choice.{pick}
use Rattle.digits.specs.rules.Digits.{digit_value, is_digit}

-- is every character a digit of the base?
unfoldable pub are_digits : ℕ → List ℕ → Bool
are_digits base [] = true
are_digits base (c ∷ cs) = is_digit base c && are_digits base cs

-- the number that digits make, the highest first
unfoldable pub number_of : ℕ → List ℕ → ℕ
number_of base [] = 0
number_of base (c ∷ cs) = digit_value c * base ^ length cs + number_of base cs

-- a number where a test holds
abbrev pub number_if : Bool → ℕ → Option ℕ
number_if t n = pick t (Some n) None

-- the number of one digit or more, if it is not above the most
unfoldable pub number_up_to : ℕ → ℕ → List ℕ → Option ℕ
number_up_to base most text = number_if (ltb 0 (length text) && are_digits base text && leb (number_of base text) most) (number_of base text)

-- does 0x stand before the digits?
unfoldable pub is_marked : List ℕ → Bool
is_marked text = ltb 1 (length text) && eqb (get_or text 0 0) (code "0") && eqb (get_or text 1 0) (code "x")

-- a number of 32 bits that a person gives: 0x and hexadecimal digits, or decimal digits
unfoldable pub given_of : List ℕ → Option ℕ
given_of text = pick (is_marked text) (number_up_to 16 4294967295 (drop 2 text)) (number_up_to 10 4294967295 text)

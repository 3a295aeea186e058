-- A digit and its value.
use Rattle.std.specs.Prelude.{ℕ, ◌+◌, ◌-◌, Bool, ltb}
use Rattle.words.specs.rules.Bits.{within}
use Rattle.words.specs.rules.Choice.{pick}

-- a digit's value, in either letter case: 0 to 9, A to F, a to f; 16 for a character that is no digit
unfoldable pub digit_value : ℕ → ℕ
digit_value c =
    pick (within 0x30 10 c) (c - 0x30)
    (pick (within 0x41 6 c) (c - 0x41 + 10) (pick (within 0x61 6 c) (c - 0x61 + 10) 16))

-- is a character a digit of the base?
abbrev pub is_digit : ℕ → ℕ → Bool
is_digit base c = ltb (digit_value c) base

-- the digit of a value below 16, in capitals
unfoldable pub digit_of : ℕ → ℕ
digit_of v = pick (ltb v 10) (0x30 + v) (0x41 + (v - 10))

-- What the bytes of a text say by themselves: literal text, numbers, letters and names.
use Rattle.std.specs.Prelude.{ℕ, ◌-◌, Bool, true, not, ◌&&◌, List, [], ◌∷◌, ◌++◌, leb, ltb, eqb, length, get_or, take, drop, replicate, Option, Some, None, bytes_eq}
use Prim.Native.Char.{code}
use Prim.Native.String.{String, [] as nothing, ◌∷◌ as ◌before◌}
use Rattle.words.specs.rules.Choice.{pick}
use Rattle.digits.specs.rules.Numbers.{are_digits, number_of, number_if}

-- the bytes of a literal
abbrev pub bytes_of : String → List ℕ
bytes_of nothing = []
bytes_of (c before s) = code c ∷ bytes_of s

-- the bytes of a text from one place up to another
abbrev pub part : List ℕ → ℕ → ℕ → List ℕ
part text from to = take (to - from) (drop from text)

-- are they the same bytes?
unfoldable pub same : List ℕ → List ℕ → Bool
same a b = bytes_eq a b

-- is a byte one of a stretch of characters?
abbrev pub between : ℕ → ℕ → ℕ → Bool
between first last b = leb first b && leb b last

-- does a zero stand before other digits?
unfoldable pub zero_leads : List ℕ → Bool
zero_leads s = ltb 1 (length s) && eqb (get_or s 0 0) (code "0")

-- N: one decimal digit or more, with no leading zero
unfoldable pub is_decimal : List ℕ → Bool
is_decimal s = ltb 0 (length s) && are_digits 10 s && not (zero_leads s)

-- such a number in a range
abbrev pub decimal_of : ℕ → ℕ → List ℕ → Option ℕ
decimal_of least most s = number_if (is_decimal s && between least most (number_of 10 s)) (number_of 10 s)

-- ADDR: eight hexadecimal digits
unfoldable pub is_address : List ℕ → Bool
is_address s = eqb (length s) 8 && are_digits 16 s

abbrev pub address_of : List ℕ → Option ℕ
address_of s = number_if (is_address s) (number_of 16 s)

-- are all bytes small letters?
unfoldable pub are_letters : List ℕ → Bool
are_letters [] = true
are_letters (b ∷ s) = between (code "a") (code "z") b && are_letters s

-- NAME: 1 to 16 small letters
unfoldable pub is_name : List ℕ → Bool
is_name s = between 1 16 (length s) && are_letters s

-- a name as it is kept: 16 bytes, zeros behind its letters
unfoldable pub padded : List ℕ → List ℕ
padded s = s ++ replicate (16 - length s) 0

-- the name that bytes are
unfoldable pub name_of : List ℕ → Option (List ℕ)
name_of s = pick (is_name s) (Some (padded s)) None

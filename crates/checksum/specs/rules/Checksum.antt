-- The checksum (01, "Checksum").
use Rattle.std.specs.Prelude.{ℕ, zero, suc, ◌+◌, ◌*◌, ◌%◌, ◌^◌, List, [], ◌∷◌, eqb}
use Rattle.std.specs.Int.Bits.{bit_xor}
use Rattle.words.specs.rules.Bits.{bit}
use Rattle.words.specs.rules.Choice.{pick}

-- the remainder polynomial
abbrev pub polynomial : ℕ
polynomial = 0x04C11DB7

-- the checksum shifted left by one, a bit put in at the bottom
unfoldable pub shifted : ℕ → ℕ → ℕ
shifted r b = (r * 2 + b) % 2 ^ 32

-- the checksum after one bit: where a one fell off the top, exclusive-or the polynomial
unfoldable pub fed_bit : ℕ → ℕ → ℕ
fed_bit r b = pick (eqb (bit r 31) 1) (bit_xor (shifted r b) polynomial) (shifted r b)

-- the checksum after the low n bits of v, the highest of them first
unfoldable pub fed : ℕ → ℕ → ℕ → ℕ
fed r v zero = r
fed r v (suc n) = fed (fed_bit r (bit v n)) v n

-- the checksum after whole words, one after the other
unfoldable pub fed_words : ℕ → List ℕ → ℕ
fed_words r [] = r
fed_words r (w ∷ ws) = fed_words (fed r w 32) ws

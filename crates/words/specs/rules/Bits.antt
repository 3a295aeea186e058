-- Bits of a number, and a field of bits put into one.
use Rattle.std.specs.Prelude.{ℕ, ◌+◌, ◌*◌, ◌/◌, ◌%◌, ◌^◌, Bool, ◌&&◌, leb, ltb}

-- bit k of a number; bit 0 is the lowest
unfoldable pub bit : ℕ → ℕ → ℕ
bit n k = n / 2 ^ k % 2

-- the low s bits of a, and b above them
unfoldable pub join : ℕ → ℕ → ℕ → ℕ
join s a b = b * 2 ^ s + a % 2 ^ s

-- a number with its n bits from s on taken from the low n bits of d; all other bits are kept
unfoldable pub with_field : ℕ → ℕ → ℕ → ℕ → ℕ
with_field w s n d = join s w (join n d (w / 2 ^ (s + n)))

-- is k one of the n places from s on?
unfoldable pub within : ℕ → ℕ → ℕ → Bool
within s n k = leb s k && ltb k (s + n)

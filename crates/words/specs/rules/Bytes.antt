-- Bytes of a number, little-endian reading and writing at a place of a list of bytes, and units of 1, 2 and 4 bytes.
use Rattle.std.specs.Prelude.{ℕ, zero, suc, ◌+◌, ◌*◌, ◌/◌, ◌%◌, ◌^◌, ◌<◌, Bool, ◌&&◌, List, [], ◌∷◌, leb, length, get_or, set, take, drop}
use Rattle.words.specs.rules.Bits.{bit, join, with_field}
use Rattle.words.specs.rules.Choice.{pick}
use Rattle.words.specs.declared.Unit.{Unit as UnitOf}
use Rattle.words.specs.declared.Unit.TheVariants.{One, Two, Four}

-- byte i of a number; byte 0 is the lowest
unfoldable pub byte : ℕ → ℕ → ℕ
byte v i = v / 2 ^ (8 * i) % 256

-- the number that bytes make, the lowest first
unfoldable pub number : List ℕ → ℕ
number [] = 0
number (b ∷ bs) = join 8 b (number bs)

-- the n bytes of a list from a place on; fewer where the list ends before
unfoldable pub bytes_at : List ℕ → ℕ → ℕ → List ℕ
bytes_at m at n = take n (drop at m)

-- the number of the four bytes from a place on; those past the end count as 0
unfoldable pub word_at : List ℕ → ℕ → ℕ
word_at m at = number (bytes_at m at 4)

-- m with f 0 .. f (n - 1) at the places from at on; what would lie past the end is not written
unfoldable pub put : List ℕ → ℕ → ℕ → (ℕ → ℕ) → List ℕ
put m at zero f = m
put m at (suc n) f = set (put m at n f) (at + n) (f n)

-- bit p of memory: the bytes lowest address first, each byte lowest bit first
unfoldable pub bit_at : List ℕ → ℕ → ℕ
bit_at m p = bit (get_or m (p / 8) 0) (p % 8)

-- a unit's bytes
abbrev pub size_of : UnitOf → ℕ
size_of One = 1
size_of Two = 2
size_of Four = 4

-- do n bytes from a place on lie inside a list?
unfoldable pub fits : List ℕ → ℕ → ℕ → Bool
fits m at n = leb (at + n) (length m)

-- a list with the low bytes of v written as a unit at a place, or as it was where the unit does not fit
unfoldable pub written : List ℕ → ℕ → UnitOf → ℕ → List ℕ
written m at u v = pick (fits m at (size_of u)) (put m at (size_of u) (byte v)) m

-- do the n bits from s on lie in the unit at a place, and the unit in the list?
unfoldable pub field_fits : List ℕ → ℕ → UnitOf → ℕ → ℕ → Bool
field_fits m at u s n = fits m at (size_of u) && leb (s + n) (8 * size_of u)

-- a list with the n bits from s on of the unit at a place taken from the low n bits of d, or as it was where they do not fit
unfoldable pub field_written : List ℕ → ℕ → UnitOf → ℕ → ℕ → ℕ → List ℕ
field_written m at u s n d =
    pick (field_fits m at u s n) (put m at (size_of u) (byte (with_field (number (bytes_at m at (size_of u))) s n d))) m

-- every element of a list is a byte, as those of a memory are
abbrev pub AreBytes : List ℕ → Type 0
AreBytes bs = (i : ℕ) → get_or bs i 0 < 256

-- the bytes of words one after the other, lowest first
abbrev pub words_bytes : List ℕ → List ℕ
words_bytes [] = []
words_bytes (word ∷ words) = byte word 0 ∷ byte word 1 ∷ byte word 2 ∷ byte word 3 ∷ words_bytes words

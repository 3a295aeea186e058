-- A line by its unit of transfer: single bytes, as on the UART, or halves of a word, as on the I2C and SPI boards.
use Rattle.std.specs.Prelude.{ℕ, ◌+◌, ◌-◌, ◌*◌, ◌/◌, ◌%◌, ◌^◌, List, [], ◌∷◌, ◌++◌, get_or}
use Rattle.words.specs.rules.Bytes.{byte}
use Rattle.sent.specs.declared.Bus.{Bus}
use Rattle.sent.specs.declared.Bus.TheVariants.{Bytes, Halves}

-- the bits of a unit
abbrev pub unit_bits : Bus → ℕ
unit_bits Bytes = 8
unit_bits Halves = 16

-- the units in a word
abbrev pub units_in_word : Bus → ℕ
units_in_word Bytes = 4
units_in_word Halves = 2

-- the start unit
abbrev pub start_unit : Bus → ℕ
start_unit Bytes = 0x58
start_unit Halves = 0x5853

-- the unit that answers it
abbrev pub answer_unit : Bus → ℕ
answer_unit Bytes = 0x52
answer_unit Halves = 0x5253

-- the units of a word, lowest first
abbrev pub units_of : Bus → ℕ → List ℕ
units_of Bytes word = byte word 0 ∷ byte word 1 ∷ byte word 2 ∷ byte word 3 ∷ []
units_of Halves word = word % 2 ^ 16 ∷ word / 2 ^ 16 ∷ []

-- those of words, one after the other
abbrev pub all_units : Bus → List ℕ → List ℕ
all_units bus [] = []
all_units bus (word ∷ words) = units_of bus word ++ all_units bus words

-- the first of them
abbrev pub first_unit : Bus → ℕ → ℕ
first_unit bus word = get_or (units_of bus word) 0 0

-- halves lent as bytes, the low one first; a byte left over is none
unfoldable pub halves_of : List ℕ → List ℕ
halves_of [] = []
halves_of (low ∷ []) = []
halves_of (low ∷ high ∷ bytes) = (low + high * 2 ^ 8) ∷ halves_of bytes

-- the units that lent bytes are
abbrev pub units_fed : Bus → List ℕ → List ℕ
units_fed Bytes bytes = bytes
units_fed Halves bytes = halves_of bytes

-- a unit comes into a word from above those gathered before it; after the last of them the word is whole
unfoldable pub pushed : Bus → ℕ → ℕ → ℕ
pushed bus word unit = word / 2 ^ unit_bits bus + unit * 2 ^ (32 - unit_bits bus)

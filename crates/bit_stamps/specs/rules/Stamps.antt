-- The entries beside chosen words: 64 bytes a word, two bytes a bit, bit 0 first, little-endian. A write gives its number to the entries of its bits.
use Rattle.std.specs.Prelude.{ℕ, ◌+◌, ◌-◌, ◌*◌, ◌/◌, ◌%◌, min, Bool, ◌&&◌, List, [], ◌∷◌, ltb, length, get_or}
use Rattle.words.specs.rules.Bits.{within}
use Rattle.words.specs.rules.Bytes.{byte, number, put}
use Rattle.words.specs.rules.Choice.{pick}
use Rattle.commands.specs.rules.Wrote.{first_bit}
use Rattle.commands.specs.declared.Wrote.{Wrote}

-- the bit of memory that byte i of the entries tells of
abbrev pub told_bit : List ℕ → ℕ → ℕ
told_bit places i = 8 * get_or places (i / 64) 0 + i % 64 / 2

-- does byte i of the entries tell of a bit that was written?
unfoldable pub is_told : List ℕ → Wrote → ℕ → Bool
is_told places w i = ltb (i / 64) (length places) && within (first_bit w) w.count (told_bit places i)

-- the bytes of the entries from byte i on: those that tell of a bit that was written become the number's, the others are kept
unfoldable pub stamped_from : ℕ → List ℕ → List ℕ → Wrote → List ℕ
stamped_from i [] places w = []
stamped_from i (b ∷ bs) places w = pick (is_told places w i) (byte w.number (i % 2)) b ∷ stamped_from (i + 1) bs places w

-- the entries after a write
abbrev pub stamped : List ℕ → List ℕ → Wrote → List ℕ
stamped entries places w = stamped_from 0 entries places w

-- how many of the bits of the word at a place lie below a bit of memory
abbrev pub word_bits_below : ℕ → ℕ → ℕ
word_bits_below place p = min 32 (p - 8 * place)

-- the entries with those of one word given the number, from its first bit that was written to before the first that was not
unfoldable pub word_stamped : List ℕ → ℕ → ℕ → Wrote → List ℕ
word_stamped entries index place w =
    put entries (64 * index + 2 * word_bits_below place (first_bit w))
    (2 * (word_bits_below place (first_bit w + w.count) - word_bits_below place (first_bit w)))
    (λ i. byte w.number (i % 2))

-- entry k of chosen word j: the number that its two bytes make
unfoldable pub entry_at : List ℕ → ℕ → ℕ → ℕ
entry_at entries j k = number (get_or entries (64 * j + 2 * k) 0 ∷ get_or entries (64 * j + 2 * k + 1) 0 ∷ [])

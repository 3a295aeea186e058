-- The examples that document 01 marks as proved, in its order and as the requests of 02 amend them: each is a statement in the definitions of the
-- lower crates.
use Rattle.std.specs.Prelude.{ℕ, ◌^◌, ◌<◌, ◌≡◌, List, [], ◌∷◌, replicate, Ok}
use Rattle.words.specs.rules.Bytes.{byte}
use Rattle.checksum.specs.rules.Checksum.{fed_words}
use Rattle.windows.specs.rules.Map.{zero_window}
use Rattle.windows.specs.declared.Window.{Window}
use Rattle.commands.specs.rules.Commands.{judged_code, load_judged, fill_judged, setting_judged, sought_from}
use Rattle.stores.specs.rules.Stores.{load_fed}
use Rattle.claims.specs.claims.Leaving.{set_on, filled_on}

-- every statement of a list holds
abbrev pub AllHold : List (Type 0) → Type 0
AllHold [] = Unit {0}
AllHold (statement ∷ rest) = statement × AllHold rest

-- the window of the examples, and the seven that its map does not have
abbrev pub windows : List Window
windows = record { first = 0x80000000; length = 4096; rights = 7 } ∷ replicate 7 zero_window

-- memory that begins with the four bytes of a word
abbrev pub word_then : ℕ → List ℕ → List ℕ
word_then word rest = byte word 0 ∷ byte word 1 ∷ byte word 2 ∷ byte word 3 ∷ rest

-- the examples; `rest` is any bytes that follow in memory, and they stay
abbrev pub marked : List (Type 0)
marked =
    -- two words fed to an empty checksum
    (fed_words 0 (0xA ∷ 0xB ∷ []) ≡ 0x2F8AD6DD)
    -- a load of three words: the second section of 000's sample
    ∷ (load_fed 0 0x10800040 (0xA ∷ 0 ∷ 0 ∷ 0 ∷ 0xB ∷ 0 ∷ 0 ∷ 0 ∷ 0xC ∷ 0 ∷ 0 ∷ 0 ∷ []) ≡ 0x8434A250)
    -- bits 4 to 6 of the word 0x7F become 1
    ∷ ((rest : List ℕ) → set_on windows (word_then 0x7F rest) 0x00060403 0x80000000 1 ≡ word_then 0x1F rest)
    -- they do not hold 9, which needs four bits: refused, and the word is kept
    ∷ ((rest : List ℕ) → (judged_code (setting_judged windows 0x00060403 0x80000000 9) ≡ 16)
    × (set_on windows (word_then 0x7F rest) 0x00060403 0x80000000 9 ≡ word_then 0x7F rest))
    -- a field of bits 0 to 31: whatever the word was, it becomes the data, which are a word
    ∷ ((word value : ℕ) (rest : List ℕ) → value < 2 ^ 32
    → set_on windows (word_then word rest) 0x001F0003 0x80000000 value ≡ word_then value rest)
    -- a field that would start at bit 5 and stop at bit 4 is a wrong type word, whatever the data
    ∷ ((value : ℕ) → judged_code (setting_judged windows 0x00040503 0x80000000 value) ≡ 8)
    -- the window's last byte may be loaded
    ∷ (load_judged windows 0x80000FFF 1 ≡ Ok 4095)
    -- one byte more would lie past the window's end
    ∷ (judged_code (load_judged windows 0x80000FFF 2) ≡ 7)
    -- the end is outside the window, so not even nothing may be loaded there
    ∷ (judged_code (load_judged windows 0x80001000 0) ≡ 7)
    -- six bytes filled by units of two, whatever they were
    ∷ ((a b c d e f : ℕ) (rest : List ℕ) → filled_on windows (a ∷ b ∷ c ∷ d ∷ e ∷ f ∷ rest) 0x80000000 6 1 0x0000BEEF
    ≡ 0xEF ∷ 0xBE ∷ 0xEF ∷ 0xBE ∷ 0xEF ∷ 0xBE ∷ rest)
    -- five bytes are no whole number of such units
    ∷ (judged_code (fill_judged windows 0x80000000 5 1) ≡ 9)
    -- from a Request at 28 a seek counts from 40: 36 back is the first command
    ∷ (sought_from 28 0xFFFFFFDC ≡ Ok 4)
    -- 40 back is before it
    ∷ (judged_code (sought_from 28 0xFFFFFFD8) ≡ 12)
    -- 0 is past the Request
    ∷ (judged_code (sought_from 28 0) ≡ 12)
    -- 12 back is the Request itself
    ∷ (judged_code (sought_from 28 0xFFFFFFF4) ≡ 12)
    ∷ []

-- The eight digits of a word, the highest first, and its four bytes.
use Rattle.std.specs.Prelude.{ℕ, ◌*◌, ◌/◌, ◌%◌, ◌^◌, List, [], ◌∷◌}
use Rattle.words.specs.rules.Bytes.{byte}
use Rattle.digits.specs.rules.Digits.{digit_of}
use Rattle.digits.specs.rules.Numbers.{number_of}

-- digit i of a word; digit 0 is the lowest
unfoldable pub digit_at : ℕ → ℕ → ℕ
digit_at w i = digit_of (w / 2 ^ (4 * i) % 16)

-- a word's eight digits, the highest first
unfoldable pub digits_of : ℕ → List ℕ
digits_of w =
    digit_at w 7 ∷ digit_at w 6 ∷ digit_at w 5 ∷ digit_at w 4 ∷ digit_at w 3 ∷ digit_at w 2 ∷ digit_at w 1 ∷ digit_at w 0 ∷ []

-- the word that digits make
abbrev pub word_of : List ℕ → ℕ
word_of = number_of 16

-- a word's four bytes in an image, the lowest first
unfoldable pub bytes_of : ℕ → List ℕ
bytes_of w = byte w 0 ∷ byte w 1 ∷ byte w 2 ∷ byte w 3 ∷ []

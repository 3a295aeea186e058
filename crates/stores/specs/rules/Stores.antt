-- What a load and a fill write at a place, and what a load feeds (01, "Commands" and "Checksum").
use Rattle.std.specs.Prelude.{ℕ, zero, suc, ◌+◌, ◌*◌, ◌/◌, ◌%◌, List, [], ◌∷◌, length, get_or, take, drop}
use Rattle.words.specs.rules.Bytes.{byte, number, put, size_of}
use Rattle.words.specs.declared.Unit.{Unit as UnitOf}
use Rattle.checksum.specs.rules.Checksum.{fed, fed_words}

-- the bytes of a load, lowest address first
unfoldable pub loaded : List ℕ → ℕ → List ℕ → List ℕ
loaded memory place bytes = put memory place (length bytes) (λ i. get_or bytes i 0)

-- what n words of its data feed: four bytes each, of the last as many as are left
unfoldable pub words_fed : ℕ → ℕ → List ℕ → ℕ
words_fed checksum zero bytes = checksum
words_fed checksum (suc n) bytes =
    words_fed (fed checksum (number (take 4 bytes)) (8 * length (take 4 bytes))) n (drop 4 bytes)

-- what a load feeds: address, size, data
unfoldable pub load_fed : ℕ → ℕ → List ℕ → ℕ
load_fed checksum address bytes =
    words_fed (fed_words checksum (address ∷ length bytes ∷ [])) ((length bytes + 3) / 4) bytes

-- a fill: the low bytes of the pattern repeat
unfoldable pub filled : List ℕ → ℕ → ℕ → UnitOf → ℕ → List ℕ
filled memory place size unit pattern = put memory place size (λ i. byte pattern (i % size_of unit))

-- Where two memories differ, word by word.
use Rattle.std.specs.Prelude.{ℕ, zero, suc, ◌+◌, Bool, List, eqb}
use Rattle.words.specs.rules.Bytes.{word_at}
use Rattle.words.specs.rules.Choice.{pick}

-- is the word at a place the same in both?
abbrev pub same_word : List ℕ → List ℕ → ℕ → Bool
same_word a b place = eqb (word_at a place) (word_at b place)

-- how many of the n words from a place on differ
unfoldable pub differing : ℕ → ℕ → List ℕ → List ℕ → ℕ
differing zero place a b = 0
differing (suc n) place a b = pick (same_word a b place) 0 1 + differing n (place + 4) a b

-- the place of the first of them that does; the place behind them where none does
unfoldable pub first_unlike : ℕ → ℕ → List ℕ → List ℕ → ℕ
first_unlike zero place a b = place
first_unlike (suc n) place a b = pick (same_word a b place) (first_unlike n (place + 4) a b) place

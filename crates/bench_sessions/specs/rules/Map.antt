-- A map lent as bytes: first, length and rights as little-endian words, 12 bytes a window.
use Rattle.std.specs.Prelude.{ℕ, ◌+◌, ◌*◌, ◌/◌, ◌%◌, List, [], ◌∷◌, eqb, length}
use Rattle.words.specs.rules.Bytes.{word_at}
use Rattle.words.specs.rules.Choice.{pick}
use Rattle.windows.specs.declared.Window.{Window}

-- window i of a map; words past its end count as 0
unfoldable pub window_at : List ℕ → ℕ → Window
window_at bytes i =
    record { first = word_at bytes (12 * i); length = word_at bytes (12 * i + 4); rights = word_at bytes (12 * i + 8) }

-- the eight windows that a session may hold
unfoldable pub windows_of : List ℕ → List Window
windows_of bytes =
    window_at bytes 0 ∷ window_at bytes 1 ∷ window_at bytes 2 ∷ window_at bytes 3
    ∷ window_at bytes 4 ∷ window_at bytes 5 ∷ window_at bytes 6 ∷ window_at bytes 7 ∷ []

-- how many windows a map has; none where it is not of whole windows, so that it is refused with 1
unfoldable pub count_of : List ℕ → ℕ
count_of bytes = pick (eqb (length bytes % 12) 0) (length bytes / 12) 0

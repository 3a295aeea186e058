-- A window of addresses, the ranges that it grants, and where a granted range lies in the lent memory.
use Rattle.std.specs.Prelude.{ℕ, ◌+◌, ◌-◌, ◌/◌, ◌%◌, Bool, false, ◌&&◌, ◌||◌, List, [], ◌∷◌, leb, ltb, eqb, Option, Some, None}
use Rattle.words.specs.rules.Choice.{pick}
use Rattle.windows.specs.declared.Window.{Window}
use Rattle.windows.specs.declared.Right.{Right}
use Rattle.windows.specs.declared.Right.TheVariants.{Load, Set, Entry}

-- the number of a right; a window's rights are such numbers added
abbrev pub right_bit : Right → ℕ
right_bit Load = 1
right_bit Set = 2
right_bit Entry = 4

-- does a window have a right?
unfoldable pub has_right : Window → Right → Bool
has_right w right = eqb (w.rights / right_bit right % 2) 1

-- the end of a window, in whole numbers
abbrev pub end_of : Window → ℕ
end_of w = w.first + w.length

-- is an address inside a window? its end is not
unfoldable pub inside : Window → ℕ → Bool
inside w a = leb w.first a && ltb a (end_of w)

-- does a window have a right, and an address inside it?
abbrev pub holds_address : Window → Right → ℕ → Bool
holds_address w right a = has_right w right && inside w a

-- does one window grant a right to a range of n bytes at address a?
unfoldable pub grants_range : Window → Right → ℕ → ℕ → Bool
grants_range w right a n = holds_address w right a && leb (a + n) (end_of w)

-- do windows carry on from an address to an end? it is reached, or the next one begins exactly at the address and has the right, and the rest carry
-- on from where that one ends
abbrev pub carries_on : List Window → Right → ℕ → ℕ → Bool
carries_on [] right from end = leb end from
carries_on (w ∷ ws) right from end = leb end from || (eqb w.first from && has_right w right && carries_on ws right (end_of w) end)

-- does a chain grant a right to a range of n bytes at address a? its first window holds the address, and those that follow carry on
abbrev pub chain_grants : Window → List Window → Right → ℕ → ℕ → Bool
chain_grants w ws right a n = holds_address w right a && carries_on ws right (end_of w) (a + n)

-- where a range lies by the first chain that grants it, the windows' bytes one after another from a base on
unfoldable pub place_from : ℕ → List Window → Right → ℕ → ℕ → Option ℕ
place_from base [] right a n = None
place_from base (w ∷ ws) right a n =
    pick (chain_grants w ws right a n) (Some (base + (a - w.first))) (place_from (base + w.length) ws right a n)

-- where a range lies in the lent memory
unfoldable pub place_of : List Window → Right → ℕ → ℕ → Option ℕ
place_of ws right a n = place_from 0 ws right a n

-- the sum of the windows' lengths
unfoldable pub sum_of : List Window → ℕ
sum_of [] = 0
sum_of (w ∷ ws) = w.length + sum_of ws

-- does one of the windows pass a test?
unfoldable pub some : (Window → Bool) → List Window → Bool
some test [] = false
some test (w ∷ ws) = test w || some test ws

-- is an address inside one of the windows?
abbrev pub inside_some : List Window → ℕ → Bool
inside_some ws a = some (λ w. inside w a) ws

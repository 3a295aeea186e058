-- What a good map grants where its windows touch (02, request 7), said without chains: which ranges, and where each of their bytes lies.
use Rattle.std.specs.Prelude.{ℕ, ◌+◌, ◌-◌, ◌<◌, Bool, true, false, List, ◌∷◌, ◌++◌, ◌≡◌, eqb, Some, None, is_some}
use Rattle.windows.specs.declared.Window.{Window}
use Rattle.windows.specs.declared.Right.{Right}
use Rattle.windows.specs.rules.Map.{good_map, kept_of}
use Rattle.windows.specs.rules.Window.{end_of, inside, holds_address, grants_range, place_of, sum_of, some}

-- is a range granted?
abbrev pub is_granted : List Window → Right → ℕ → ℕ → Bool
is_granted ws right a n = is_some (place_of ws right a n)

-- does an address lie in a window with the right?
abbrev pub held_by_some : List Window → Right → ℕ → Bool
held_by_some ws right a = some (λ w. holds_address w right a) ws

-- does one window grant a range by itself?
abbrev pub one_grants : List Window → Right → ℕ → ℕ → Bool
one_grants ws right a n = some (λ w. grants_range w right a n) ws

-- does a window begin at an address?
abbrev pub some_begins : List Window → ℕ → Bool
some_begins ws a = some (λ w. eqb w.first a) ws

pub record OnTouching (ws : List Window) : Type 0 where
  -- a range of at least one byte is granted exactly when each of its addresses lies in a window with the right
  pub only_where_held : (right : Right) (a n : ℕ) → is_granted ws right a n ≡ true → (i : ℕ) → i < n → held_by_some ws right (a + i) ≡ true
  pub where_held : (right : Right) (a n : ℕ) → 0 < n → ((i : ℕ) → i < n → held_by_some ws right (a + i) ≡ true) → is_granted ws right a n ≡ true
  -- its byte i lies at its place + i, which is where the window with that address has it
  pub byte_by_byte : (right : Right) (a n place i : ℕ) → place_of ws right a n ≡ Some place → i < n
      → (before after : List Window) (w : Window) → ws ≡ before ++ (w ∷ after) → inside w (a + i) ≡ true
      → place + i ≡ sum_of before + (a + i - w.first)
  -- size 0 is granted exactly as by one window
  pub size_zero : (right : Right) (a : ℕ) → is_granted ws right a 0 ≡ one_grants ws right a 0
  -- where no window begins at a window's end, a range in it that passes the end is not granted
  pub nothing_touches : (before after : List Window) (w : Window) → ws ≡ before ++ (w ∷ after) → some_begins ws (end_of w) ≡ false
      → (right : Right) (a n : ℕ) → inside w a ≡ true → end_of w < a + n → place_of ws right a n ≡ None
  -- a range that one window grants keeps its place
  pub one_window : (before after : List Window) (w : Window) → ws ≡ before ++ (w ∷ after)
      → (right : Right) (a n : ℕ) → grants_range w right a n ≡ true → place_of ws right a n ≡ Some (sum_of before + (a - w.first))

-- so of the windows that a session holds of any good map
abbrev pub TouchingWindows : Type 0
TouchingWindows = (count : ℕ) (ws : List Window) → good_map count ws ≡ true → OnTouching (kept_of count ws)

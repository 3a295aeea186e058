-- Which maps are good (refusal 1 is given to all others), and the eight windows that a session holds of one.
use Rattle.std.specs.Prelude.{ℕ, ◌-◌, ◌^◌, Bool, true, ◌&&◌, List, [], ◌∷◌, ◌++◌, leb, ltb, take, replicate}
use Rattle.windows.specs.declared.Window.{Window}
use Rattle.windows.specs.rules.Window.{end_of, sum_of}

-- a window by itself: a length that is not 0, an end not past 2^32, rights 1 to 7
unfoldable pub sound_window : Window → Bool
sound_window w = ltb 0 w.length && leb (end_of w) (2 ^ 32) && leb 1 w.rights && leb w.rights 7

-- every window is sound
unfoldable pub all_sound : List Window → Bool
all_sound [] = true
all_sound (w ∷ ws) = sound_window w && all_sound ws

-- the windows stand in rising address order and don't overlap: each begins at or after the end before it
unfoldable pub rising : ℕ → List Window → Bool
rising from [] = true
rising from (w ∷ ws) = leb from w.first && rising (end_of w) ws

-- every window is sound, and they rise from an address on
abbrev pub sound_and_rising : ℕ → List Window → Bool
sound_and_rising from ws = all_sound ws && rising from ws

-- the most windows of a map, and the most bytes of its memory
abbrev pub most_windows : ℕ
most_windows = 8

abbrev pub most_memory : ℕ
most_memory = 65536

-- a good map: one window or more, sound and rising, whose lengths add up to no more than that
unfoldable pub good_map : ℕ → List Window → Bool
good_map count ws =
    leb 1 count && leb count most_windows && sound_and_rising 0 (take count ws) && leb (sum_of (take count ws)) most_memory

-- a window past the map's count
abbrev pub zero_window : Window
zero_window = record { first = 0; length = 0; rights = 0 }

-- the windows of a map, those past its count all zero
unfoldable pub kept_of : ℕ → List Window → List Window
kept_of count ws = take count ws ++ replicate (most_windows - count) zero_window

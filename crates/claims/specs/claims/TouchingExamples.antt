-- Examples of touching windows (02, request 7), beside those that document 01 marks: each is a statement in the definitions of the lower crates.
use Rattle.std.specs.Prelude.{ℕ, true, false, ◌≡◌, List, [], ◌∷◌, replicate, None, Ok}
use Rattle.windows.specs.rules.Map.{good_map, zero_window, kept_of}
use Rattle.windows.specs.rules.Window.{place_of}
use Rattle.windows.specs.declared.Window.{Window}
use Rattle.windows.specs.declared.Right.{Right}
use Rattle.commands.specs.rules.Commands.{judged_code, range_judged, load_judged, fill_judged, setting_judged, entry_judged}
use Rattle.claims.specs.claims.Leaving.{set_on, filled_on}

-- three memories side by side; the last may be loaded only
abbrev pub side_by_side : List Window
side_by_side =
    record { first = 0x80000000; length = 4096; rights = 7 }
    ∷ record { first = 0x80001000; length = 16; rights = 7 }
    ∷ record { first = 0x80001010; length = 4; rights = 1 }
    ∷ replicate 5 zero_window

-- a gap of one byte, at 0x80001000
abbrev pub apart : List Window
apart = record { first = 0x80000000; length = 4096; rights = 7 } ∷ record { first = 0x80001001; length = 16; rights = 7 } ∷ replicate 6 zero_window

-- the one in the middle may not be loaded
abbrev pub barred : List Window
barred =
    record { first = 0x80000000; length = 4096; rights = 7 }
    ∷ record { first = 0x80001000; length = 16; rights = 6 }
    ∷ record { first = 0x80001010; length = 16; rights = 7 }
    ∷ replicate 5 zero_window

-- the second ends at 2^32
abbrev pub at_the_top : List Window
at_the_top = record { first = 0xFFFFFFF0; length = 8; rights = 7 } ∷ record { first = 0xFFFFFFF8; length = 8; rights = 7 } ∷ replicate 6 zero_window

-- a seam inside a word
abbrev pub inside_word : List Window
inside_word = record { first = 0x80000000; length = 3; rights = 3 } ∷ record { first = 0x80000003; length = 5; rights = 3 } ∷ replicate 6 zero_window

-- side by side in memory, but not in this order in the list
abbrev pub out_of_order : List Window
out_of_order = record { first = 0x80001000; length = 16; rights = 7 } ∷ record { first = 0x80000000; length = 4096; rights = 7 } ∷ replicate 6 zero_window

-- a good map is what a session holds of it
abbrev pub HeldMap : ℕ → List Window → Type 0
HeldMap count windows = (good_map count windows ≡ true) × (kept_of count windows ≡ windows)

-- the examples
abbrev pub touching : List (Type 0)
touching =
    -- these are maps that the laws of touching windows speak of
    HeldMap 3 side_by_side
    ∷ HeldMap 2 apart
    ∷ HeldMap 3 barred
    ∷ HeldMap 2 at_the_top
    ∷ HeldMap 2 inside_word
    -- one byte past the first window's end: the second touches it
    ∷ (load_judged side_by_side 0x80000FFF 2 ≡ Ok 4095)
    -- over all three, to the last byte
    ∷ (load_judged side_by_side 0x80000FFF 21 ≡ Ok 4095)
    -- nothing touches the third
    ∷ (judged_code (load_judged side_by_side 0x80000FFF 22) ≡ 7)
    -- no byte, at the first window's end: the second window holds the address; at the end of all, none does
    ∷ (load_judged side_by_side 0x80001000 0 ≡ Ok 4096)
    ∷ (judged_code (load_judged side_by_side 0x80001014 0) ≡ 7)
    -- a fill and a setting go by the same rule, and the third window has no set right
    ∷ (fill_judged side_by_side 0x80000FFC 24 2 ≡ Ok 4092)
    ∷ (judged_code (setting_judged side_by_side 2 0x80001010 1) ≡ 7)
    -- an entry address goes by the one window that holds it
    ∷ (entry_judged side_by_side 0x80001000 ≡ Ok 4096)
    ∷ (judged_code (entry_judged side_by_side 0x80001010) ≡ 10)
    -- up to a gap of one byte, into it, over it, and past it
    ∷ (load_judged apart 0x80000FFF 1 ≡ Ok 4095)
    ∷ (judged_code (load_judged apart 0x80000FFF 2) ≡ 7)
    ∷ (judged_code (load_judged apart 0x80000FFF 3) ≡ 7)
    ∷ (load_judged apart 0x80001001 1 ≡ Ok 4096)
    -- a right that is missing in the middle, though both ends have it
    ∷ (judged_code (load_judged barred 0x80000FFF 18) ≡ 7)
    -- nor may a range end in the middle window
    ∷ (judged_code (load_judged barred 0x80000FFF 2) ≡ 7)
    -- the whole of a chain that ends at 2^32, and one byte more
    ∷ (load_judged at_the_top 0xFFFFFFF0 16 ≡ Ok 0)
    ∷ (judged_code (load_judged at_the_top 0xFFFFFFF0 17) ≡ 7)
    -- a word that is set over a seam
    ∷ (set_on inside_word (0xA0 ∷ 0xA1 ∷ 0xA2 ∷ 0xA3 ∷ 0xA4 ∷ 0xA5 ∷ 0xA6 ∷ 0xA7 ∷ []) 2 0x80000000 0x04030201
    ≡ 0x01 ∷ 0x02 ∷ 0x03 ∷ 0x04 ∷ 0xA4 ∷ 0xA5 ∷ 0xA6 ∷ 0xA7 ∷ [])
    -- a field over it, bits 20 to 27: the other bits of both bytes are kept
    ∷ (set_on inside_word (0xA0 ∷ 0xA1 ∷ 0xA2 ∷ 0xA3 ∷ 0xA4 ∷ 0xA5 ∷ 0xA6 ∷ 0xA7 ∷ []) 0x001B1403 0x80000000 0x5C
    ≡ 0xA0 ∷ 0xA1 ∷ 0xC2 ∷ 0xA5 ∷ 0xA4 ∷ 0xA5 ∷ 0xA6 ∷ 0xA7 ∷ [])
    -- six bytes filled over it by units of two, whatever they were
    ∷ ((a b c d e f g h : ℕ) → filled_on inside_word (a ∷ b ∷ c ∷ d ∷ e ∷ f ∷ g ∷ h ∷ []) 0x80000000 6 1 0x0000BEEF
    ≡ 0xEF ∷ 0xBE ∷ 0xEF ∷ 0xBE ∷ 0xEF ∷ 0xBE ∷ g ∷ h ∷ [])
    -- this is no good map: each address lies in a window with the right, and yet no chain goes over both
    ∷ ((good_map 2 out_of_order ≡ false) × (judged_code (load_judged out_of_order 0x80000FFF 2) ≡ 7))
    -- and on every map: a range that has no place is 7, whichever right it needs
    ∷ ((windows : List Window) (right : Right) (address size : ℕ) → place_of windows right address size ≡ None
    → judged_code (range_judged windows right address size) ≡ 7)
    ∷ []

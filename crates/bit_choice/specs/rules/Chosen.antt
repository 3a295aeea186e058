-- The words chosen for their bits to be watched, lent as little-endian addresses: which lists are taken, and which are refused with 24.
use Rattle.std.specs.Prelude.{ℕ, zero, suc, ◌+◌, ◌*◌, ◌/◌, ◌%◌, Bool, true, false, not, ◌&&◌, ◌||◌, List, [], ◌∷◌, map, eqb, leb, length, take, replicate}
use Rattle.std.specs.Prelude.{unwrap_or}
use Rattle.std.proofs.lemmas.List.Edits.{sets}
use Rattle.words.specs.rules.Bytes.{word_at}
use Rattle.words.specs.rules.Choice.{pick}
use Rattle.windows.specs.declared.Right.TheVariants.{Set}
use Rattle.windows.specs.declared.Window.{Window}
use Rattle.windows.specs.claims.Touching.{one_grants}
use Rattle.windows.specs.rules.Window.{place_of}
use Rattle.opcodes.specs.rules.Refusals as refusal
use Rattle.bit_choice.specs.declared.Choice.{Choice}
use Rattle.bit_choice.specs.declared.Chosen.{Chosen}

-- the n addresses from index i on, four bytes each
unfoldable pub addresses_from : List ℕ → ℕ → ℕ → List ℕ
addresses_from bytes i zero = []
addresses_from bytes i (suc n) = word_at bytes (4 * i) ∷ addresses_from bytes (i + 1) n

-- all addresses of a list
abbrev pub addresses_of : List ℕ → List ℕ
addresses_of bytes = addresses_from bytes 0 (length bytes / 4)

-- may the word at an address be chosen? it is aligned, and one window with the set right has all of it
unfoldable pub may_be_chosen : List Window → ℕ → Bool
may_be_chosen windows a = eqb (a % 4) 0 && one_grants windows Set a 4

-- is an address among others?
unfoldable pub among : ℕ → List ℕ → Bool
among a [] = false
among a (b ∷ bs) = eqb b a || among a bs

-- may each word be chosen, and is none chosen again?
unfoldable pub all_fit : List Window → List ℕ → Bool
all_fit windows [] = true
all_fit windows (a ∷ rest) = may_be_chosen windows a && not (among a rest) && all_fit windows rest

-- a list that is taken: whole words, at most 64, that all fit
unfoldable pub good_choice : List Window → List ℕ → Bool
good_choice windows bytes = eqb (length bytes % 4) 0 && leb (length bytes / 4) 64 && all_fit windows (addresses_of bytes)

-- where a word lies in the lent memory; 0 where it has no place
unfoldable pub word_place : List Window → ℕ → ℕ
word_place windows a = unwrap_or (place_of windows Set a 4) 0

-- the places of words, and 0 past them
unfoldable pub places_of : List Window → List ℕ → List ℕ
places_of windows addresses = sets (replicate 64 0) 0 (map (word_place windows) addresses)

-- what is chosen by a list that is taken
abbrev pub chosen_of : List Window → ℕ → List ℕ → Chosen
chosen_of windows count addresses = record { count = count; places = places_of windows addresses }

abbrev pub taken : List Window → ℕ → List ℕ → Choice
taken windows count addresses = record { refusal = refusal.None; chosen = chosen_of windows count addresses }

-- and by one that is refused
abbrev pub not_taken : Choice
not_taken = record { refusal = refusal.Chosen; chosen = record { count = 0; places = replicate 64 0 } }

unfoldable pub choice_of : List Window → List ℕ → Choice
choice_of windows bytes = pick (good_choice windows bytes) (taken windows (length bytes / 4) (addresses_of bytes)) not_taken

-- the places of the chosen words
abbrev pub chosen_places : Chosen → List ℕ
chosen_places c = take c.count c.places

-- 24 in its cases and in no other, and what the places of a list that is taken are.
use Rattle.std.specs.Prelude.{ℕ, ◌+◌, ◌*◌, ◌/◌, ◌%◌, ◌≤◌, ◌<◌, true, List, [], ◌∷◌, map, ◌≢◌, ◌≡◌, length, take, replicate, Some}
use Rattle.words.specs.rules.Bytes.{word_at}
use Rattle.windows.specs.rules.Map.{zero_window}
use Rattle.windows.specs.claims.Touching.{one_grants}
use Rattle.windows.specs.rules.Window.{place_of, sum_of}
use Rattle.windows.specs.declared.Right.TheVariants.{Set}
use Rattle.windows.specs.declared.Window.{Window}
use Rattle.opcodes.specs.rules.Answers.{code_of}
use Rattle.bit_choice.specs.rules.Chosen.{addresses_of, word_place, choice_of}

-- address i of a list
abbrev pub address_at : List ℕ → ℕ → ℕ
address_at bytes i = word_at bytes (4 * i)

-- a list with none of the faults that are refused
pub record Faultless (windows : List Window) (bytes : List ℕ) : Type 0 where
  pub whole : length bytes % 4 ≡ 0
  pub few : length bytes / 4 ≤ 64
  pub aligned : (i : ℕ) → i < length bytes / 4 → address_at bytes i % 4 ≡ 0
  pub in_one_window : (i : ℕ) → i < length bytes / 4 → one_grants windows Set (address_at bytes i) 4 ≡ true
  pub apart : (i j : ℕ) → i < j → j < length bytes / 4 → address_at bytes i ≢ address_at bytes j

-- two windows that touch in the middle of a word
abbrev pub seam : List Window
seam = record { first = 0x80000000; length = 6; rights = 2 } ∷ record { first = 0x80000006; length = 6; rights = 2 } ∷ replicate 6 zero_window

pub record ChoiceLaws (windows : List Window) (bytes : List ℕ) : Type 0 where
  -- a list with no fault is taken, any other is 24
  pub taken : Faultless windows bytes → code_of (choice_of windows bytes).refusal ≡ 0
  pub refused : (Faultless windows bytes → ⊥) → code_of (choice_of windows bytes).refusal ≡ 24
  -- the places of one that is taken are those of its words
  pub count : Faultless windows bytes → (choice_of windows bytes).chosen.count ≡ length bytes / 4
  pub places : Faultless windows bytes → take (length bytes / 4) (choice_of windows bytes).chosen.places ≡ map (word_place windows) (addresses_of bytes)
  -- each is where a setting of the word would write, inside the memory
  pub word : (a : ℕ) → one_grants windows Set a 4 ≡ true
      → (place_of windows Set a 4 ≡ Some (word_place windows a)) × (word_place windows a + 4 ≤ sum_of windows)
  -- a word over a seam may be set, and may not be chosen
  pub set_over_seam : place_of seam Set 0x80000004 4 ≡ Some 4
  pub chosen_over_seam : code_of (choice_of seam (4 ∷ 0 ∷ 0 ∷ 0x80 ∷ [])).refusal ≡ 24

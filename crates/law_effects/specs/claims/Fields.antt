-- What a ward may be told of a field that a Boot Table command sets: the field holds the data, all of
-- them, or the command is refused.
use Rattle.std.specs.Prelude.{ℕ, ◌+◌, ◌*◌, ◌/◌, ◌%◌, ◌^◌, ◌≤◌, ◌<◌, false, List, [], ◌∷◌, ◌≡◌, length, replicate, Ok, Err}
use Rattle.words.specs.rules.Bits.{within}
use Rattle.words.specs.rules.Bytes.{byte, word_at, bit_at}
use Rattle.windows.specs.rules.Map.{zero_window}
use Rattle.windows.specs.rules.Window.{sum_of}
use Rattle.windows.specs.declared.Window.{Window}
use Rattle.opcodes.specs.declared.Event.TheVariants.{Nothing}
use Rattle.opcodes.specs.declared.Refusal.TheVariants.{TooWide}
use Rattle.commands.specs.rules.Commands.{judged_code, start_of, stop_of, width_of, setting_judged, setting_done, setting_memory}

-- a type word that names a field: kind 3 or 4, START ≤ STOP ≤ 31, bits 24-31 zero
pub record NamesField (word : ℕ) : Type 0 where
  pub kind : (3 ≤ byte word 0) × (byte word 0 ≤ 4)
  pub order : start_of word ≤ stop_of word
  pub last : stop_of word ≤ 31
  pub high : byte word 3 ≡ 0

-- how many bits that field has
abbrev pub field_width : ℕ → ℕ
field_width word = width_of (start_of word) (stop_of word)

-- what it holds in the word at a place
unfoldable pub field_at : List ℕ → ℕ → ℕ → ℕ
field_at memory place word = word_at memory place / 2 ^ start_of word % 2 ^ field_width word

-- the field holds a value, and every other bit of memory is kept
pub record Holds (word place value : ℕ) (before after : List ℕ) : Type 0 where
  pub held : field_at after place word ≡ value
  pub others : (p : ℕ) → p < 8 * length before → within (8 * place + start_of word) (field_width word) p ≡ false → bit_at after p ≡ bit_at before p

-- one window, an option word that may be set
abbrev pub option_word : List Window
option_word = record { first = 0x80000000; length = 4; rights = 2 } ∷ replicate 7 zero_window

pub record FieldLaws : Type 0 where
  -- after an accepted setting of a field
  pub accepted : (windows : List Window) (memory : List ℕ) → length memory ≡ sum_of windows
      → (word address value place : ℕ) → NamesField word → setting_judged windows word address value ≡ Ok place
      → Holds word place value memory (setting_memory (Ok place) memory word value)
  -- 16 where the data have a bit at or above the field's width, and only there
  pub too_wide : (windows : List Window) (word address value : ℕ) → NamesField word → 2 ^ field_width word ≤ value
      → setting_judged windows word address value ≡ Err TooWide
  pub only_too_wide : (windows : List Window) (word address value : ℕ) → setting_judged windows word address value ≡ Err TooWide
      → NamesField word × (2 ^ field_width word ≤ value)
  -- nothing is written then, and there is no wait
  pub nothing_done : (memory : List ℕ) (checksum word value delay : ℕ)
      → (setting_memory (Err TooWide) memory word value ≡ memory) × ((setting_done (Err TooWide) checksum delay).event ≡ Nothing)
  -- three bits hold 7 and not 8
  pub seven : setting_judged option_word 0x00060403 0x80000000 7 ≡ Ok 0
  pub eight : judged_code (setting_judged option_word 0x00060403 0x80000000 8) ≡ 16
  -- a byte takes the low bits of 0x1FF
  pub byte_of_more : (a b c d : ℕ)
      → setting_memory (setting_judged option_word 0x00000000 0x80000000 0x1FF) (a ∷ b ∷ c ∷ d ∷ []) 0x00000000 0x1FF ≡ 0xFF ∷ b ∷ c ∷ d ∷ []

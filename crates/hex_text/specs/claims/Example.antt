-- Words that go both ways, so that the premises of the round trip can be met; and numbers that are no bytes, which are not had back.
use Rattle.std.specs.Prelude.{◌≡◌, ℕ, List, [], ◌∷◌, replicate}
use Rattle.opcodes.specs.rules.Refusals.{None}
use Rattle.hex_text.specs.rules.Text.{read_answer, read_room, write_answer, write_room}

-- the word 0xEFC08000 in an image, as text, and as text in small letters: EFC08000, efc08000
abbrev pub in_image : List ℕ
in_image = 0x00 ∷ 0x80 ∷ 0xC0 ∷ 0xEF ∷ []

abbrev pub as_text : List ℕ
as_text = 0x45 ∷ 0x46 ∷ 0x43 ∷ 0x30 ∷ 0x38 ∷ 0x30 ∷ 0x30 ∷ 0x30 ∷ []

abbrev pub in_small : List ℕ
in_small = 0x65 ∷ 0x66 ∷ 0x63 ∷ 0x30 ∷ 0x38 ∷ 0x30 ∷ 0x30 ∷ 0x30 ∷ []

pub record Example : Type 0 where
  -- written and read in rooms that fit exactly
  pub is_written : (write_answer in_image (replicate 8 0) ≡ None) × (write_room in_image (replicate 8 0) ≡ as_text)
  pub is_read : (read_answer as_text (replicate 4 0) ≡ None) × (read_room as_text (replicate 4 0) ≡ in_image)
  -- in small letters too
  pub small_is_read : (read_answer in_small (replicate 4 0) ≡ None) × (read_room in_small (replicate 4 0) ≡ in_image)
  -- the number 256 is written as the byte 0 is
  pub no_byte : write_room (256 ∷ 0 ∷ 0 ∷ 0 ∷ []) (replicate 8 0) ≡ write_room (0 ∷ 0 ∷ 0 ∷ 0 ∷ []) (replicate 8 0)

-- Text and image are two forms of one thing: each is had back from the other.
use Rattle.std.specs.Prelude.{◌≡◌, ℕ, ◌-◌, ◌*◌, ◌/◌, ◌<◌, ◌≤◌, List, ◌++◌, map, length, take, drop, slice_index}
use Rattle.words.specs.rules.Bits.{within}
use Rattle.words.specs.rules.Choice.{pick}
use Rattle.opcodes.specs.rules.Refusals.{None}
use Rattle.hex_text.specs.rules.Text.{read_answer, read_room, write_answer, write_room}

-- a character in capitals: A to Z for a to z, any other as it is
unfoldable pub capital : ℕ → ℕ
capital c = pick (within 0x61 26 c) (c - 0x20) c

-- what a room begins with, after an image of so many bytes was written into it as text, or a text of so many characters was read into it
abbrev pub text_in : List ℕ → List ℕ → List ℕ
text_in image room = take (2 * length image) (write_room image room)

abbrev pub image_in : List ℕ → List ℕ → List ℕ
image_in text room = take (length text / 2) (read_room text room)

pub record RoundTrip : Type 0 where
  -- reading what was written is not refused and gives the image back: wherever an image of bytes was written, in any room that it fits
  pub image_back : (image room other : List ℕ) → ((i : ℕ) → slice_index image i < 256) → write_answer image room ≡ None → length image ≤ length other
      → (read_answer (text_in image room) other ≡ None) × (read_room (text_in image room) other ≡ image ++ drop (length image) other)
  -- writing what was read is not refused and gives the text in capitals: wherever a text was read, in any room that it fits
  pub text_back : (text room other : List ℕ) → read_answer text room ≡ None → length text ≤ length other
      → (write_answer (image_in text room) other ≡ None) × (write_room (image_in text room) other ≡ map capital text ++ drop (length text) other)

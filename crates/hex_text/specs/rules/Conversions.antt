-- What the two programs make of a file: an image's text, and a text's image.
use Rattle.std.specs.Prelude.{◌≡◌, ℕ, ◌-◌, ◌≤◌, List, length, take, ◌==◌, slice_index, Some, None, Result, Ok, Err}
use Rattle.words.specs.rules.Choice.{pick}
use Rattle.opcodes.specs.rules.Refusals.{Verdict}
use Rattle.hex_text.specs.rules.Text.{image_of, text_of, read_answer, write_answer}
use Rattle.opcodes.specs.declared.Refusal.{Refusal}

-- where a file's text ends: before a line feed that is its last character
unfoldable pub text_end : List ℕ → ℕ
text_end file = pick (slice_index file (length file - 1) == 0x0A) (length file - 1) (length file)

abbrev pub text_of_file : List ℕ → List ℕ
text_of_file file = take (text_end file) file

-- the length of the result, unless it is refused
abbrev pub concluded : Verdict → List ℕ → Result ℕ Refusal
concluded None result = Ok (length result)
concluded (Some q) result = Err q

abbrev pub to_text : List ℕ → List ℕ → Result ℕ Refusal
to_text image room = concluded (write_answer image room) (text_of image)

abbrev pub to_image : List ℕ → List ℕ → Result ℕ Refusal
to_image file room = concluded (read_answer (text_of_file file) room) (image_of (text_of_file file))

-- so many bytes are there at the beginning of a room
pub record IsPart (n : ℕ) (room : List ℕ) : Type 0 where
  pub within : n ≤ length room
  pub counted : length (take n room) ≡ n

-- What stands at an offset of an image, as flash mode reads it: 5 where the opcode is missing, 6 or 15, 5 where argument words are missing, else the command.
use Rattle.std.specs.Prelude.{ℕ, ◌+◌, ◌-◌, ◌*◌, ◌/◌, Bool, not, List, leb, length, Result, Ok, Err}
use Rattle.words.specs.rules.Bytes.{word_at}
use Rattle.words.specs.rules.Choice.{pick}
use Rattle.opcodes.specs.rules.Opcodes.{looked_up, by_writing}
use Rattle.opcodes.specs.declared.Command.{Command}
use Rattle.opcodes.specs.declared.Dialect.{Dialect}
use Rattle.opcodes.specs.declared.Mode.TheVariants.{Flash}
use Rattle.opcodes.specs.declared.Refusal.TheVariants as refusal
use Rattle.opcodes.specs.declared.Known.{Known}
use Rattle.opcodes.specs.declared.Refusal.{Refusal}
use Rattle.reading.specs.declared.Unread.{Unread}

-- does an image have n words from an offset on?
unfoldable pub present : List ℕ → ℕ → ℕ → Bool
present image at n = leb (at + 4 * n) (length image)

-- the whole words that an image has from an offset on
unfoldable pub words_from : List ℕ → ℕ → ℕ
words_from image at = (length image - at) / 4

-- where a command with so many argument words ends, its opcode being at an offset
abbrev pub past_words : ℕ → ℕ → ℕ
past_words offset words = offset + 4 * (1 + words)

-- argument word i of the command at an offset
unfoldable pub argument : List ℕ → ℕ → ℕ → ℕ
argument image offset i = word_at image (offset + 4 + 4 * i)

-- the words of a load's data: its bytes padded to whole words
abbrev pub data_words : ℕ → ℕ
data_words size = (size + 3) / 4

-- the data bytes of the command at an offset: a load's, by its size word
abbrev pub data_size : Command → List ℕ → ℕ → ℕ
data_size command image offset = by_writing command (argument image offset 1) 0 0 0

-- where a command with so many argument words ends with its data, its opcode being at an offset
abbrev pub past_data : Command → ℕ → List ℕ → ℕ → ℕ
past_data command words image offset = past_words offset words + 4 * data_words (data_size command image offset)

-- why nothing is read, and the words that were fetched to see it
abbrev pub unread : Refusal → ℕ → Unread
unread q fetched = record { refusal = q; fetched = fetched }

-- by what the table says of the opcode: 6 or 15, or 5 for the argument words; the opcode was fetched, and the argument words that are there
abbrev pub read_as : List ℕ → ℕ → Result Known Refusal → Result Known Unread
read_as image offset (Err q) = Err (unread q 1)
read_as image offset (Ok known) =
    pick (not (present image offset (1 + known.words))) (Err (unread refusal.Missing (words_from image offset))) (Ok known)

-- what stands at an offset, for a dialect: 5 for the opcode first, and then nothing was fetched
unfoldable pub read_at : List ℕ → ℕ → Dialect → Result Known Unread
read_at image offset dialect =
    pick (not (present image offset 1)) (Err (unread refusal.Missing 0))
    (read_as image offset (looked_up (word_at image offset) Flash dialect))

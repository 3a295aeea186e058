-- A text of digits and its image, word by word; when reading and writing are refused, and what they leave in the room.
use Rattle.std.specs.Prelude.{ℕ, zero, suc, ◌/◌, ◌%◌, Bool, not, List, [], ◌++◌, length, take, drop, ◌==◌, nat_lt}
use Rattle.words.specs.rules.Bytes.{number}
use Rattle.words.specs.rules.Choice.{pick}
use Rattle.opcodes.specs.rules.Answers.{accepted}
use Rattle.opcodes.specs.rules.Refusals.{Verdict}
use Rattle.opcodes.specs.rules.Refusals as refusal
use Rattle.digits.specs.rules.Numbers.{are_digits}
use Rattle.hex_text.specs.rules.Digits.{digits_of, word_of, bytes_of}

-- the first n words of a list, each of so many elements, turned one after the other
unfoldable pub each_word : ℕ → (List ℕ → List ℕ) → ℕ → List ℕ → List ℕ
each_word size turn zero l = []
each_word size turn (suc n) l = turn (take size l) ++ each_word size turn n (drop size l)

-- the bytes of the word that eight digits make
abbrev pub read_word : List ℕ → List ℕ
read_word digits = bytes_of (word_of digits)

-- the digits of the word that four bytes make
abbrev pub written_word : List ℕ → List ℕ
written_word bytes = digits_of (number bytes)

-- the image of a text
unfoldable pub image_of : List ℕ → List ℕ
image_of text = each_word 8 read_word (length text / 8) text

-- the text of an image
unfoldable pub text_of : List ℕ → List ℕ
text_of image = each_word 4 written_word (length image / 4) image

-- is every character a hexadecimal digit?
abbrev pub all_digits : List ℕ → Bool
all_digits = are_digits 16

-- reading a text into a room: 21, 22, 23, in this order
unfoldable pub read_answer : List ℕ → List ℕ → Verdict
read_answer text room =
    pick (not (length text % 8 == 0)) refusal.Length
    (pick (not (all_digits text)) refusal.Digit
    (pick (nat_lt (length room) (length (image_of text))) refusal.Room refusal.None))

-- writing an image into a room: 21, 23, in this order
unfoldable pub write_answer : List ℕ → List ℕ → Verdict
write_answer image room =
    pick (not (length image % 4 == 0)) refusal.Length
    (pick (nat_lt (length room) (length (text_of image))) refusal.Room refusal.None)

-- a room with a result at its beginning; what lies past it is as it was
unfoldable pub laid : List ℕ → List ℕ → List ℕ
laid result room = result ++ drop (length result) room

-- what an answer leaves in the room: the result, or the room as it was where it is a refusal
unfoldable pub left_by : Verdict → List ℕ → List ℕ → List ℕ
left_by answer result room = pick (accepted answer) (laid result room) room

-- the room after a text was read into it, and after an image was written into it
abbrev pub read_room : List ℕ → List ℕ → List ℕ
read_room text room = left_by (read_answer text room) (image_of text) room

abbrev pub write_room : List ℕ → List ℕ → List ℕ
write_room image room = left_by (write_answer image room) (text_of image) room

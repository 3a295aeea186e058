-- What turning text and image word by word comes to: a word has four bytes and eight digits. Both ways are instances of the laws of any such turn.
use Rattle.std.proofs.Common.{◌≡◌, div-one, ℕ, ◌+◌, ◌*◌, ◌/◌, List, [], ◌++◌, length, take, drop, refl, ◌∙◌, ap₂, append-nil, take_at, arith, drop_of_length-le}
use Rattle.std.proofs.lemmas.List.Edits.{sets, sets-eq}
use borrow.Rule.Slice.PartMut.{put_mid}
use Rattle.std.specs.Int.{w32, to_le_bytes}
use Rattle.words.specs.rules.Bytes.{byte, number}
use Rattle.hex_text.specs.rules.Digits.{word_of, bytes_of, digits_of}
use Rattle.hex_text.specs.rules.Text.{each_word, read_word, written_word, image_of, text_of, laid}
use Rattle.hex_text.proofs.WordByWord.{each_length, word_laid}

pub bytes_length : (w : ℕ) → length (bytes_of w) ≡ 4
unfolding bytes_of
bytes_length w = refl

pub digits_length : (w : ℕ) → length (digits_of w) ≡ 8
unfolding digits_of
digits_length w = refl

-- stores from the first place on, as many as there are places, leave nothing of what stood there
pub all_stored : (place digits left : List ℕ) → length digits ≡ length place → left ≡ sets place 0 digits → left ≡ digits
all_stored place digits left full stored =
    let past : drop (0 + length digits) place ≡ [] = drop_of_length-le place (omega (arith, full)) in
    stored ∙ sets-eq digits place 0 (omega (arith, full))
    ∙ ap₂ (λ (front rest : List ℕ). front ++ (digits ++ rest)) (take_at [] place 0 refl) past
    ∙ append-nil digits

-- they are those of the library, the lowest first
pub little_endian : (w : ℕ) → to_le_bytes w32 w ≡ bytes_of w
unfolding bytes_of byte
little_endian w = simp div-one

pub four_bytes : (digits : List ℕ) → length (read_word digits) ≡ 4
four_bytes digits = bytes_length (word_of digits)

pub eight_digits : (bytes : List ℕ) → length (written_word bytes) ≡ 8
eight_digits bytes = digits_length (number bytes)

pub image_length : (text : List ℕ) → length (image_of text) ≡ 4 * (length text / 8)
unfolding image_of
image_length text = each_length 8 read_word 4 four_bytes (length text / 8) text

pub text_length : (image : List ℕ) → length (text_of image) ≡ 8 * (length image / 4)
unfolding text_of
text_length image = each_length 4 written_word 8 eight_digits (length image / 4) image

-- one word more of a text is read into the room
pub word_read : (text room : List ℕ) (n at count : ℕ) → at ≡ 4 * n → count ≡ 4
    → put_mid at count (laid (each_word 8 read_word n text) room) (read_word (take 8 (drop (8 * n) text))) ≡ laid (each_word 8 read_word (n + 1) text) room
word_read text room n at count = word_laid 8 read_word 4 four_bytes n at count text room

-- one word more of an image is written into the room
pub word_written : (image room : List ℕ) (n at count : ℕ) → at ≡ 8 * n → count ≡ 8
    → put_mid at count (laid (each_word 4 written_word n image) room) (written_word (take 4 (drop (4 * n) image)))
    ≡ laid (each_word 4 written_word (n + 1) image) room
word_written image room n at count = word_laid 4 written_word 8 eight_digits n at count image room

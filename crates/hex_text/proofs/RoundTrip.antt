-- Text and image are had back from each other: word by word, and a room begins with what was laid into it.
use Rattle.std.proofs.Common.{◌≡◌, ℕ, zero, suc, ◌+◌, ◌*◌, ◌/◌, ◌%◌, ◌<◌, ◌≤◌, true, List, [], ◌∷◌, map, length, get_or, take, drop, sym, refl, ap, ◌∙◌}
use Rattle.std.proofs.Common.{map-id, arith, lit<, length-drop, length-take, get_or-drop, take_all, take_at}
use lib.ListN.{length-map}
use Rattle.words.specs.rules.Bytes.{number, bytes_at}
use Rattle.opcodes.specs.rules.Answers.{code_of, accepted}
use Rattle.opcodes.specs.rules.Refusals.{None}
use Rattle.hex_text.specs.claims.RoundTrip.{capital, text_in, image_in, RoundTrip}
use Rattle.hex_text.specs.rules.Text.{each_word, read_word, written_word, image_of, text_of, all_digits, laid, read_answer, write_answer}
use Rattle.hex_text.proofs.Accepted.{write_accepted, read_accepted, text_fits, image_fits}
use Rattle.hex_text.proofs.Back.{are-digits, bytes_back, digits_back}
use Rattle.hex_text.proofs.Refusing.{left_done, read_done, write_done}
use Rattle.digits.specs.rules.Numbers.{are_digits}
use Rattle.digits.proofs.Numbers.{digits_append}
use Rattle.hex_text.proofs.Texts.{digits_part}
use Rattle.hex_text.proofs.Turning.{four_bytes, eight_digits, image_length, text_length}
use Rattle.hex_text.proofs.WordByWord.{each_same, each_back}

-- a written text is of digits
written_digits : (n : ℕ) (image : List ℕ) → all_digits (each_word 4 written_word n image) ≡ true
unfolding each_word are_digits
written_digits zero image = refl
written_digits (suc n) image =
    digits_append 16 (written_word (take 4 image)) (each_word 4 written_word n (drop 4 image))
    (are-digits (number (take 4 image))) (written_digits n (drop 4 image))

-- the beginning of a list of bytes is of bytes
small_take : (n : ℕ) (l : List ℕ) → ((i : ℕ) → get_or l i 0 < 256) → (i : ℕ) → get_or (take n l) i 0 < 256
small_take zero l small i = lit< tt
small_take (suc n) [] small i = lit< tt
small_take (suc n) (b ∷ l) small zero = small 0
small_take (suc n) (b ∷ l) small (suc i) = small_take n l (λ j. small (suc j)) i

-- a word of a list of whole words has its size
word_size : (l : List ℕ) (size at : ℕ) → at + size ≤ length l → length (take size (drop at l)) ≡ size
word_size l size at h = simp (length-take, length-drop) (omega arith)

module _ (image : List ℕ) (whole : length image % 4 ≡ 0) (small : (i : ℕ) → get_or image i 0 < 256) where
  -- the image of the text of an image is the image
  image_same : image_of (text_of image) ≡ image
  unfolding image_of text_of
  image_same =
      let count : length (text_of image) / 8 ≡ length image / 4 = omega (arith, text_length image) in
      ap (λ (n : ℕ). each_word 8 read_word n (text_of image)) count
      ∙ each_back 4 written_word 8 eight_digits read_word (length image / 4) image
      ∙ each_same 4 (λ word. read_word (written_word word)) (λ b. b) (length image / 4) image
      (λ k h.
      bytes_back (take 4 (drop (4 * k) image)) (word_size image 4 (4 * k) (omega arith))
      (small_take 4 (drop (4 * k) image) (λ i. rw (get_or-drop (4 * k) image i 0) (small (4 * k + i))))
      ∙ sym (map-id (take 4 (drop (4 * k) image))))
      ∙ map-id (take (4 * (length image / 4)) image)
      ∙ take_all (4 * (length image / 4)) image (omega arith)

module _ (text : List ℕ) (whole : length text % 8 ≡ 0) (all : all_digits text ≡ true) where
  -- the text of the image of a text is the text in capitals
  text_same : text_of (image_of text) ≡ map capital text
  unfolding image_of text_of bytes_at
  text_same =
      let count : length (image_of text) / 4 ≡ length text / 8 = omega (arith, image_length text) in
      ap (λ (n : ℕ). each_word 4 written_word n (image_of text)) count
      ∙ each_back 8 read_word 4 four_bytes written_word (length text / 8) text
      ∙ each_same 8 (λ word. written_word (read_word word)) capital (length text / 8) text
      (λ k h. digits_back (take 8 (drop (8 * k) text)) (word_size text 8 (8 * k) (omega arith)) (digits_part text (8 * k) 8 all))
      ∙ ap (map capital) (take_all (8 * (length text / 8)) text (omega arith))

-- the room begins with the text that was written, or the image that was read
text_there : (image room : List ℕ) → write_answer image room ≡ None → text_in image room ≡ text_of image
unfolding laid
text_there image room none =
    ap (take (2 * length image)) (sym (left_done (text_of image) room none).1)
    ∙ take_at (text_of image) (drop (length (text_of image)) room) (2 * length image) (text_fits image room (ap code_of none)).0

image_there : (text room : List ℕ) → read_answer text room ≡ None → image_in text room ≡ image_of text
unfolding laid
image_there text room none =
    ap (take (length text / 2)) (sym (left_done (image_of text) room none).1)
    ∙ take_at (image_of text) (drop (length (image_of text)) room) (length text / 2) (image_fits text room (ap code_of none)).0

pub round_trip : RoundTrip
unfolding text_of laid
round_trip =
    record {
      image_back = λ image room other small none fits.
          let accepted = write_accepted image room (ap code_of none) in
          let same = image_same image accepted.0 small in
          let done = left_done (image_of (text_of image)) other
          (read_done (text_of image) other (omega (arith, text_length image)) (written_digits (length image / 4) image) (rw same fits)) in
          rw (text_there image room none)
          (sym done.0, sym done.1 ∙ ap (λ (result : List ℕ). laid result other) same);
      text_back = λ text room other none fits.
          let accepted = read_accepted text room (ap code_of none) in
          let same = text_same text accepted.0 accepted.1 in
          let length-is = length-map text capital in
          let done = left_done (text_of (image_of text)) other
          (write_done (image_of text) other (omega (arith, image_length text)) (rw (same, length-is) fits)) in
          rw (image_there text room none)
          (sym done.0, sym done.1 ∙ ap (λ (result : List ℕ). laid result other) same ∙ rw length-is);
    }

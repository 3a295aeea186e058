-- What holds of a text that was read and an image that was written: every test was passed, and the result is in the room.
use Rattle.std.proofs.Common.{◌≡◌, ℕ, suc, ◌*◌, ◌/◌, ◌%◌, ◌<◌, ◌≤◌, true, List, length, sym, refl, ap, ◌∙◌, arith}
use native.Mathlib.Decide.{ℕ_discrete, dec_lt}
use Rattle.words.proofs.Choice.{by_test}
use Rattle.opcodes.specs.rules.Answers.{code_of}
use Rattle.opcodes.specs.rules.Refusals.{Verdict}
use Rattle.hex_text.specs.rules.Text.{image_of, text_of, all_digits, read_answer, write_answer}
use Rattle.hex_text.proofs.Refusing.{read_length, read_strange, read_narrow, write_length, write_narrow}
use Rattle.hex_text.proofs.Turning.{image_length, text_length}

-- an answer that is a refusal has no number 0
told : {answer given : Verdict} {n : ℕ} → answer ≡ given → code_of answer ≡ 0 → code_of given ≡ suc n → ⊥
told {n = n} e none number = let z : suc n ≡ 0 = sym number ∙ ap code_of (sym e) ∙ none in omega arith

-- an image that was written was of whole words, and its text fitted the room
pub write_accepted : (image room : List ℕ) → code_of (write_answer image room) ≡ 0
    → (length image % 4 ≡ 0) × (length (text_of image) ≤ length room)
write_accepted image room none = by_length (ℕ_discrete (length image % 4) 0) (dec_lt (length room) (length (text_of image)))
  where
    by_length : Dec (length image % 4 ≡ 0) → Dec (length room < length (text_of image)) → (length image % 4 ≡ 0) × (length (text_of image) ≤ length room)
    by_length (no l) d = absurd (told (write_length image room l) none refl)
    by_length (yes l) (yes h) = absurd (told (write_narrow image room l h) none refl)
    by_length (yes l) (no h) = (l, omega arith)

-- a text that was read was of whole words and of digits, and its image fitted the room
pub read_accepted : (text room : List ℕ) → code_of (read_answer text room) ≡ 0
    → (length text % 8 ≡ 0) × (all_digits text ≡ true) × (length (image_of text) ≤ length room)
read_accepted text room none = by_length (ℕ_discrete (length text % 8) 0)
  where
    by_room : length text % 8 ≡ 0 → all_digits text ≡ true → Dec (length room < length (image_of text))
        → (length text % 8 ≡ 0) × (all_digits text ≡ true) × (length (image_of text) ≤ length room)
    by_room l d (yes h) = absurd (told (read_narrow text room l d h) none refl)
    by_room l d (no h) = (l, d, omega arith)

    by_length : Dec (length text % 8 ≡ 0) → (length text % 8 ≡ 0) × (all_digits text ≡ true) × (length (image_of text) ≤ length room)
    by_length (no l) = absurd (told (read_length text room l) none refl)
    by_length (yes l) =
        by_test (all_digits text)
        (λ d. by_room l d (dec_lt (length room) (length (image_of text))))
        (λ d. absurd (told (read_strange text room l d) none refl))

-- so its result is as long as it is
pub text_fits : (image room : List ℕ) → code_of (write_answer image room) ≡ 0 → (length (text_of image) ≡ 2 * length image) × (2 * length image ≤ length room)
text_fits image room none =
    let fits = write_accepted image room none in
    let size = text_length image in
    (omega arith, omega arith)

pub image_fits : (text room : List ℕ) → code_of (read_answer text room) ≡ 0 → (length (image_of text) ≡ length text / 2) × (length text / 2 ≤ length room)
image_fits text room none =
    let fits = read_accepted text room none in
    let size = image_length text in
    (omega arith, omega arith)

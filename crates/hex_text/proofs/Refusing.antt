-- When reading and writing are refused, and what that leaves in the room: the tests of the definitions, one after the other.
use Rattle.std.proofs.Common.{◌≡◌, ℕ, ◌%◌, ◌<◌, ◌≤◌, true, false, not, eqb, List, length, sym, ap, ◌∙◌, le-ltb, lt-ltb, eq-eqb, ne_eqb}
use Rattle.words.proofs.Choice.{chosen, passed}
use Rattle.opcodes.specs.rules.Answers.{code_of}
use Rattle.opcodes.specs.rules.Refusals.{Verdict}
use Rattle.opcodes.specs.rules.Refusals as refusal
use Rattle.hex_text.specs.rules.Text.{image_of, text_of, all_digits, read_answer, write_answer, laid, left_by}

-- a refusal leaves the room as it was
pub left_refused : {answer given : Verdict} (result room : List ℕ) → answer ≡ given → eqb (code_of given) 0 ≡ false
    → (given ≡ answer) × (room ≡ left_by answer result room)
unfolding left_by
left_refused result room e other = (sym e, sym (passed _ _ _ (ap (λ (r : Verdict). eqb (code_of r) 0) e ∙ other)))

-- without one the result is laid into it
pub left_done : {answer : Verdict} (result room : List ℕ) → answer ≡ refusal.None
    → (refusal.None ≡ answer) × (laid result room ≡ left_by answer result room)
unfolding left_by
left_done result room e = (sym e, sym (chosen _ _ _ (ap (λ (r : Verdict). eqb (code_of r) 0) e)))

-- a remainder that is none, or one
even : (n : ℕ) → n ≡ 0 → not (eqb n 0) ≡ false
even n e = ap not (eq-eqb n 0 e)

odd : (n : ℕ) → (n ≡ 0 → ⊥) → not (eqb n 0) ≡ true
odd n e = ap not (ne_eqb n 0 e)

module _ (text room : List ℕ) where
  pub read_length : (length text % 8 ≡ 0 → ⊥) → read_answer text room ≡ refusal.Length
  unfolding read_answer
  read_length l = chosen _ _ _ (odd _ l)

  module _ (whole : length text % 8 ≡ 0) where
    pub read_strange : all_digits text ≡ false → read_answer text room ≡ refusal.Digit
    unfolding read_answer
    read_strange d = passed _ _ _ (even _ whole) ∙ chosen _ _ _ (ap not d)

    pub read_narrow : all_digits text ≡ true → length room < length (image_of text) → read_answer text room ≡ refusal.Room
    unfolding read_answer
    read_narrow d h = passed _ _ _ (even _ whole) ∙ passed _ _ _ (ap not d) ∙ chosen _ _ _ (lt-ltb _ _ h)

    pub read_done : all_digits text ≡ true → length (image_of text) ≤ length room → read_answer text room ≡ refusal.None
    unfolding read_answer
    read_done d h = passed _ _ _ (even _ whole) ∙ passed _ _ _ (ap not d) ∙ passed _ _ _ (le-ltb _ _ h)

module _ (image room : List ℕ) where
  pub write_length : (length image % 4 ≡ 0 → ⊥) → write_answer image room ≡ refusal.Length
  unfolding write_answer
  write_length l = chosen _ _ _ (odd _ l)

  pub write_narrow : length image % 4 ≡ 0 → length room < length (text_of image) → write_answer image room ≡ refusal.Room
  unfolding write_answer
  write_narrow whole h = passed _ _ _ (even _ whole) ∙ chosen _ _ _ (lt-ltb _ _ h)

  pub write_done : length image % 4 ≡ 0 → length (text_of image) ≤ length room → write_answer image room ≡ refusal.None
  unfolding write_answer
  write_done whole h = passed _ _ _ (even _ whole) ∙ passed _ _ _ (le-ltb _ _ h)

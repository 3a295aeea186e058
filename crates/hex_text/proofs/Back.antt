-- A digit and a word had back: each digit of a number is one of its parts of four bits, each byte one of eight, and these make the number.
use Rattle.std.proofs.Common.{◌≡◌, ℕ, zero, suc, ◌+◌, ◌-◌, ◌*◌, ◌/◌, ◌%◌, ◌^◌, ◌<◌, true, List, [], ◌∷◌, ◌++◌, map, length, get_or, take, drop, sym, refl, ap}
use Rattle.std.proofs.Common.{◌∙◌, ap₂, mod-lt, mod-eq_of_lt, pow-suc, mul-suc, arith, lit<, length-drop, ext_get_or, pow-add}
use lib.Arith.{digits_div}
use lib.ListN.{length-map, get_or-map}
use lib.Pow.{mod-pow-add}
use lib.Seq.{split_at, append_snoc}
use Rattle.words.specs.rules.Bits.{join, within}
use Rattle.words.specs.rules.Bytes.{byte, number}
use Rattle.words.specs.rules.Choice.{pick}
use Rattle.words.proofs.Choice.{chosen, passed}
use Rattle.words.proofs.Joins.{join_lt}
use Rattle.words.proofs.Numbers.{byte_number}
use Rattle.words.proofs.Ranges.{inside, below}
use Rattle.digits.specs.rules.Digits.{digit_value, is_digit, digit_of}
use Rattle.digits.specs.rules.Numbers.{are_digits, number_of}
use Rattle.digits.proofs.Digits.{number_value, capital_value, by_digit, by_value, value_small, known_digit, digit_number, digit_letter}
use Rattle.digits.proofs.Numbers.{digit_in, digits_drop, number_lt, number_append}
use Rattle.hex_text.specs.rules.Digits.{digit_at, digits_of, word_of, bytes_of}
use Rattle.hex_text.specs.claims.RoundTrip.{capital}
use Rattle.hex_text.specs.rules.Text.{all_digits, read_word, written_word}
use Rattle.hex_text.proofs.Turning.{bytes_length, digits_length}

-- the digit of a value has that value
pub value_back : (v : ℕ) → v < 16 → digit_value (digit_of v) ≡ v
value_back v h =
    by_value v
    (λ l e. ap digit_value e ∙ number_value (0x30 + v) (omega arith) (omega arith) ∙ omega arith)
    (λ l e. ap digit_value e ∙ capital_value (0x41 + (v - 10)) (omega arith) (omega arith) ∙ omega arith)

-- the digit of a digit's value is that digit in capitals
pub digit_back : (c : ℕ) → is_digit 16 c ≡ true → digit_of (digit_value c) ≡ capital c
unfolding capital
digit_back c d =
    by_digit c d
    (λ h l v. ap digit_of v ∙ digit_number (c - 0x30) (omega arith) ∙ omega arith ∙ sym (passed _ _ _ (below 0x61 26 c (omega arith))))
    (λ h l v. ap digit_of v ∙ digit_letter (c - 0x41 + 10) (omega arith) ∙ omega arith ∙ sym (passed _ _ _ (below 0x61 26 c (omega arith))))
    (λ h l v. ap digit_of v ∙ digit_letter (c - 0x61 + 10) (omega arith) ∙ omega arith ∙ sym (chosen _ _ _ (inside 0x61 26 c (omega arith) (omega arith))))

-- the value of a word's digit
value-at : (w i : ℕ) → digit_value (digit_at w i) ≡ w / 2 ^ (4 * i) % 16
unfolding digit_at
value-at w i = value_back (w / 2 ^ (4 * i) % 16) (mod-lt _ (lit< tt))

-- a word's digits are digits
pub are-digits : (w : ℕ) → all_digits (digits_of w) ≡ true
unfolding are_digits digits_of
are-digits w =
    let digit : (i : ℕ) → is_digit 16 (digit_at w i) ≡ true = λ i. known_digit (digit_at w i) _ (value-at w i) (mod-lt _ (lit< tt)) in
    rw (digit 7, digit 6, digit 5, digit 4, digit 3, digit 2, digit 1, digit 0)

-- the word that a word's digits make is that word: what is left of it below each digit is the next digit and what is left below that
pub word_back : (w : ℕ) → w < 2 ^ 32 → word_of (digits_of w) ≡ w
unfolding number_of digits_of
word_back w h =
    let last : w % 16 ≡ w / 2 ^ (4 * 0) % 16 * 1 + 0 = omega arith in
    rw (value-at w 7, value-at w 6, value-at w 5, value-at w 4, value-at w 3, value-at w 2, value-at w 1, value-at w 0)
    (sym
    (sym (mod-eq_of_lt h)
    ∙ rw (mod-pow-add w 4 28, mod-pow-add w 4 24, mod-pow-add w 4 20, mod-pow-add w 4 16, mod-pow-add w 4 12, mod-pow-add w 4 8, mod-pow-add w 4 4, last)))

-- a digit's place as bits
sixteens : (k : ℕ) → 16 ^ k ≡ 2 ^ (4 * k)
sixteens zero = refl
sixteens (suc k) = rw (mul-suc, pow-add 2 (4 * k) 4, ← sixteens k) (pow-suc 16 k)

-- a digit of the word that digits make, with so many digits after it
digit-of : (front : List ℕ) (c : ℕ) (back : List ℕ) → is_digit 16 c ≡ true → all_digits back ≡ true
    → digit_of (word_of (front ++ (c ∷ []) ++ back) / 16 ^ length back % 16) ≡ capital c
unfolding number_of
digit-of front c back d all =
    let whole = number_append 16 (front ++ (c ∷ [])) back in
    let above : word_of (front ++ (c ∷ []) ++ back) / 16 ^ length back ≡ word_of (front ++ (c ∷ [])) =
    ap (λ (w : ℕ). w / 16 ^ length back) whole ∙ digits_div (word_of (front ++ (c ∷ []))) (number_lt 16 back all) in
    let low : word_of (front ++ (c ∷ [])) % 16 ≡ digit_value c =
    ap (λ (w : ℕ). w % 16) (number_append 16 front (c ∷ [])) ∙ omega (arith, value_small c 16 d) in
    ap (λ (w : ℕ). digit_of (w % 16)) above ∙ ap digit_of low ∙ digit_back c d

-- the number of a word's bytes is the word: from each byte on it is what lies above the bytes below
number_back : (w : ℕ) → w < 2 ^ 32 → number (bytes_of w) ≡ w
unfolding number join bytes_of byte
number_back w h =
    ap (λ (rest : ℕ). rest * 2 ^ 8 + w / 2 ^ (8 * 0) % 256 % 2 ^ 8)
    (ap (λ (rest : ℕ). rest * 2 ^ 8 + w / 2 ^ (8 * 1) % 256 % 2 ^ 8)
    (ap (λ (rest : ℕ). rest * 2 ^ 8 + w / 2 ^ (8 * 2) % 256 % 2 ^ 8) fourth ∙ third) ∙ second)
    ∙ first
  where
    fourth : 0 * 2 ^ 8 + w / 2 ^ (8 * 3) % 256 % 2 ^ 8 ≡ w / 2 ^ 24
    fourth = omega arith

    third : w / 2 ^ 24 * 2 ^ 8 + w / 2 ^ (8 * 2) % 256 % 2 ^ 8 ≡ w / 2 ^ 16
    third = omega arith

    second : w / 2 ^ 16 * 2 ^ 8 + w / 2 ^ (8 * 1) % 256 % 2 ^ 8 ≡ w / 2 ^ 8
    second = omega arith

    first : w / 2 ^ 8 * 2 ^ 8 + w / 2 ^ (8 * 0) % 256 % 2 ^ 8 ≡ w
    first = omega arith

-- so many bytes make a number of so many times eight bits
bytes_lt : (bytes : List ℕ) → number bytes < 2 ^ (8 * length bytes)
unfolding number
bytes_lt [] = lit< tt
bytes_lt (b ∷ bs) = rw mul-suc (join_lt 8 (8 * length bs) b (bytes_lt bs))

-- a byte, and a digit, of a word by its place in the list
byte_in : (w i : ℕ) → i < 4 → get_or (bytes_of w) i 0 ≡ byte w i
unfolding bytes_of
byte_in w zero h = refl
byte_in w (suc zero) h = refl
byte_in w (suc (suc zero)) h = refl
byte_in w (suc (suc (suc zero))) h = refl
byte_in w (suc (suc (suc (suc i)))) h = absurd (omega arith)

digit_in_word : (w i : ℕ) → i < 8 → get_or (digits_of w) i 0 ≡ digit_at w (7 - i)
unfolding digits_of
digit_in_word w zero h = refl
digit_in_word w (suc zero) h = refl
digit_in_word w (suc (suc zero)) h = refl
digit_in_word w (suc (suc (suc zero))) h = refl
digit_in_word w (suc (suc (suc (suc zero)))) h = refl
digit_in_word w (suc (suc (suc (suc (suc zero))))) h = refl
digit_in_word w (suc (suc (suc (suc (suc (suc zero)))))) h = refl
digit_in_word w (suc (suc (suc (suc (suc (suc (suc zero))))))) h = refl
digit_in_word w (suc (suc (suc (suc (suc (suc (suc (suc i)))))))) h = absurd (omega arith)

-- four bytes are had back from their digits
pub bytes_back : (bytes : List ℕ) → length bytes ≡ 4 → ((i : ℕ) → get_or bytes i 0 < 256) → read_word (written_word bytes) ≡ bytes
bytes_back bytes four small =
    let word : number bytes < 2 ^ 32 = rw four at (bytes_lt bytes) in
    ap bytes_of (word_back (number bytes) word)
    ∙ ext_get_or 0 (bytes_of (number bytes)) bytes (bytes_length (number bytes) ∙ sym four)
    (λ i h. byte_in (number bytes) i (rw bytes_length at h) ∙ byte_number bytes small i)

-- each digit of the word that digits make is one of them, in capitals
digit_place : (digits : List ℕ) (i : ℕ) → i < length digits → all_digits digits ≡ true
    → digit_at (word_of digits) (length digits - suc i) ≡ capital (get_or digits i 0)
unfolding digit_at
digit_place digits i h all =
    let c = get_or digits i 0 in
    let front = take i digits in
    let back = drop (suc i) digits in
    let parts : digits ≡ front ++ (c ∷ []) ++ back = split_at digits i 0 h ∙ sym (append_snoc front c back) in
    let above : 2 ^ (4 * (length digits - suc i)) ≡ 16 ^ length back =
    sym (sixteens (length digits - suc i)) ∙ ap (λ (k : ℕ). 16 ^ k) (sym (length-drop (suc i) digits)) in
    ap₂ (λ (w k : ℕ). digit_of (w / k % 16)) (ap word_of parts) above
    ∙ digit-of front c back (digit_in 16 digits i all h) (digits_drop 16 (suc i) digits all)

-- eight digits are had back from their bytes, in capitals
pub digits_back : (digits : List ℕ) → length digits ≡ 8 → all_digits digits ≡ true → written_word (read_word digits) ≡ map capital digits
unfolding capital pick within
digits_back digits eight all =
    let word : word_of digits < 2 ^ 32 = rw eight at (number_lt 16 digits all) in
    ap digits_of (number_back (word_of digits) word)
    ∙ ext_get_or 0 (digits_of (word_of digits)) (map capital digits) (digits_length (word_of digits) ∙ sym (length-map digits capital ∙ eight))
    (λ i h.
    let inside-eight : i < 8 = rw digits_length at h in
    let place : 7 - i ≡ length digits - suc i = omega arith in
    digit_in_word (word_of digits) i inside-eight
    ∙ ap (digit_at (word_of digits)) place
    ∙ digit_place digits i (omega arith) all
    ∙ sym (get_or-map capital digits i 0))

-- The words of an image, sent, are the bytes of the image: four bytes make a word whose bytes they are, and so on by induction over the words.
use Prim.Native.Nat.{ℕ, zero, suc, ◌+◌, ◌*◌, ◌/◌, ◌≤◌, ◌<◌}
use mathlib.Core.List.{List, [], ◌∷◌, ◌++◌}
use mathlib.Core.Path.{◌≡◌, refl, sym, ap, ap₂, ◌∙◌}
use native.Mathlib.Omega.{arith}
use lib.Dec.{lit<}
use lib.ListN.{length, get_or, take, drop, length-drop}
use lib.Seq.{get_or-drop, take-take, drop-drop, take-add}
use Rattle.words.specs.rules.Bytes.{number, bytes_at, word_at}
use Rattle.words.proofs.Numbers.{byte_number}
use Rattle.words.specs.rules.Bytes.{words_bytes}
use Rattle.law_modes.specs.claims.Modes.{words_at}

-- the bytes of the first word of a list are its first four
first_word : (l : List ℕ) → 4 ≤ length l → ((i : ℕ) → get_or l i 0 < 256) → words_bytes (number (take 4 l) ∷ []) ≡ take 4 l
first_word [] h small = absurd (omega arith)
first_word (a ∷ []) h small = absurd (omega arith)
first_word (a ∷ b ∷ []) h small = absurd (omega arith)
first_word (a ∷ b ∷ c ∷ []) h small = absurd (omega arith)
first_word (a ∷ b ∷ c ∷ d ∷ l) h small =
    let each = byte_number (a ∷ b ∷ c ∷ d ∷ []) (four_small a b c d (small 0) (small 1) (small 2) (small 3)) in
    let e₀ = each 0 in
    let e₁ = each 1 in
    let e₂ = each 2 in
    let e₃ = each 3 in
    rw (e₀, e₁, e₂, e₃)
  where
    four_small : (a b c d : ℕ) → a < 256 → b < 256 → c < 256 → d < 256 → (i : ℕ) → get_or (a ∷ b ∷ c ∷ d ∷ []) i 0 < 256
    four_small a b c d a< b< c< d< zero = a<
    four_small a b c d a< b< c< d< (suc zero) = b<
    four_small a b c d a< b< c< d< (suc (suc zero)) = c<
    four_small a b c d a< b< c< d< (suc (suc (suc zero))) = d<
    four_small a b c d a< b< c< d< (suc (suc (suc (suc i)))) = lit< tt

module _ (image : List ℕ) (small : (i : ℕ) → get_or image i 0 < 256) where
  -- the bytes of n words are 4 × n bytes
  words-bytes : (n at : ℕ) → at + 4 * n ≤ length image → words_bytes (words_at image at n) ≡ take (4 * n) (drop at image)
  unfolding words_at word_at bytes_at
  words-bytes zero at h = refl
  words-bytes (suc n) at h =
      let more : 4 * suc n ≡ 4 + 4 * n = omega arith in
      ap₂ (λ (first rest : List ℕ). first ++ rest)
      (first_word (drop at image) (simp length-drop (omega arith)) (λ i. rw (get_or-drop at image i 0) (small (at + i))))
      (words-bytes n (at + 4) (omega arith) ∙ ap (take (4 * n)) (sym (drop-drop 4 at image)))
      ∙ sym (ap (λ (k : ℕ). take k (drop at image)) more ∙ take-add 4 (4 * n) (drop at image))

  -- as many of them as a load has
  pub data-bytes : (size at : ℕ) → at + 4 * ((size + 3) / 4) ≤ length image
      → take size (words_bytes (words_at image at ((size + 3) / 4))) ≡ bytes_at image at size
  unfolding bytes_at
  data-bytes size at h =
      ap (take size) (words-bytes ((size + 3) / 4) at h) ∙ take-take size (4 * ((size + 3) / 4)) (drop at image) (omega arith)

-- so many words
pub words_length : (image : List ℕ) (n at : ℕ) → length (words_at image at n) ≡ n
unfolding words_at
words_length image zero at = refl
words_length image (suc n) at = ap suc (words_length image n (at + 4))

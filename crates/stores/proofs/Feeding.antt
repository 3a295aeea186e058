-- What the data of a load feed, a word at a time: one step of the definition, said of the bytes of a word and those that are left after it. Only the last
-- word may be short, and then none are left.
use Prim.Native.Nat.{ℕ, suc, ◌+◌, ◌*◌, ◌/◌, ◌<◌, min}
use mathlib.Core.List.{List, [], ◌++◌}
use mathlib.Core.Path.{◌≡◌, ap, ap₂, sym, ◌∙◌}
use native.Mathlib.Decide.{dec_lt}
use native.Mathlib.Omega.{arith}
use lib.ListN.{length, take, drop, length-append, length-take}
use Rattle.std.proofs.lemmas.List.{take-append-le, drop_at, drop_all, append-nil, nil_from_length}
use Rattle.words.specs.rules.Bytes.{number}
use Rattle.checksum.specs.rules.Checksum.{fed}
use Rattle.stores.specs.rules.Stores.{words_fed}

-- of the bytes of a word and those after it the first four are the word's, and what is left are the others
split : (word left : List ℕ) → length word ≡ min 4 (length word + length left)
    → (take 4 (word ++ left) ≡ take 4 word) × (drop 4 (word ++ left) ≡ left)
split word left whole = go (dec_lt (length word) 4)
  where
    go : Dec (length word < 4) → (take 4 (word ++ left) ≡ take 4 word) × (drop 4 (word ++ left) ≡ left)
    go (yes short) =
        let none : left ≡ [] = nil_from_length left (omega arith) in
        (rw (none, append-nil), drop_all 4 (word ++ left) (omega (arith, length-append word left)) ∙ sym none)
    go (no full) = (take-append-le 4 word left (omega arith), drop_at word left 4 (omega arith))

-- the next word feeds its bytes
pub next_word : (r : ℕ) {bytes : List ℕ} (word left : List ℕ) (size : ℕ) → size ≡ 4 → bytes ≡ word ++ left → length word ≡ min size (length bytes)
    → 0 < length bytes
    → words_fed r ((length bytes + 3) / 4) bytes ≡ words_fed (fed r (number (take 4 word)) (8 * min (length word) 4)) ((length left + 3) / 4) left
unfolding words_fed
next_word r {bytes} word left size four parts whole h =
    let long : length bytes ≡ length word + length left = ap length parts ∙ length-append word left in
    let more : (length bytes + 3) / 4 ≡ suc ((length left + 3) / 4) = omega arith in
    let halves = split word left (omega arith) in
    let taken : length (take 4 word) ≡ min (length word) 4 = simp length-take (omega arith) in
    ap₂ (λ (n : ℕ) (b : List ℕ). words_fed r n b) more parts
    ∙ ap₂ (λ (b l : List ℕ). words_fed (fed r (number b) (8 * length b)) ((length left + 3) / 4) l) halves.0 halves.1
    ∙ ap (λ (k : ℕ). words_fed (fed r (number (take 4 word)) (8 * k)) ((length left + 3) / 4) left) taken

-- none is left at the end
pub no_word : (r : ℕ) (bytes : List ℕ) → length bytes ≡ 0 → words_fed r ((length bytes + 3) / 4) bytes ≡ r
unfolding words_fed
no_word r bytes h =
    let none : (length bytes + 3) / 4 ≡ 0 = omega arith in
    rw none

-- A stretch of an image is the units of its words: its bytes are those of the words, one of them is a unit of bytes, and two of them make a unit of halves.
use Prim.Native.Nat.{ℕ, zero, suc, ◌+◌, ◌*◌, ◌/◌, ◌%◌, ◌^◌, ◌≤◌, ◌<◌}
use mathlib.Core.List.{List, [], ◌∷◌}
use mathlib.Core.Path.{◌≡◌, refl, sym, ap, subst, ◌∙◌}
use native.Mathlib.Omega.{arith}
use lib.ListN.{length, take, drop}
use lib.Seq.{take_all}
use Rattle.words.specs.rules.Bits.{join}
use Rattle.words.specs.rules.Bytes.{byte, number, bytes_at, word_at, AreBytes, words_bytes}
use Rattle.words.proofs.Numbers.{first_four}
use Rattle.sent.specs.rules.Bus.{all_units, halves_of, units_fed}
use Rattle.sent.specs.declared.Bus.{Bus}
use Rattle.sent.specs.declared.Bus.TheVariants.{Bytes, Halves}
use Rattle.law_modes.specs.claims.Modes.{words_at}
use Rattle.law_modes.proofs.ImageWords.{data-bytes, words_length}

-- a word of an image is below 2^32
four_small : (a b c d : ℕ) → number (a ∷ b ∷ c ∷ d ∷ []) < 2 ^ 32
unfolding number join
four_small a b c d = omega arith

pub word_small : (image : List ℕ) (at : ℕ) → word_at image at < 2 ^ 32
unfolding word_at bytes_at
word_small image at = subst (λ (n : ℕ). n < 2 ^ 32) (first_four (drop at image)) (four_small _ _ _ _)

-- so are some of them
unfoldable pub AllSmall : List ℕ → Type 0
AllSmall [] = Unit {0}
AllSmall (w ∷ ws) = (w < 2 ^ 32) × AllSmall ws

pub words_small : (image : List ℕ) (n at : ℕ) → AllSmall (words_at image at n)
unfolding AllSmall words_at
words_small image zero at = tt
words_small image (suc n) at = (word_small image at, words_small image n (at + 4))

-- the bytes of n words are 4 × n bytes
bytes_length : (ws : List ℕ) → length (words_bytes ws) ≡ 4 * length ws
bytes_length [] = refl
bytes_length (w ∷ ws) = omega (arith, bytes_length ws)

stretch_bytes : (image : List ℕ) (at n : ℕ) → AreBytes image → at + 4 * n ≤ length image → bytes_at image at (4 * n) ≡ words_bytes (words_at image at n)
stretch_bytes image at n bytes there =
    let count : (4 * n + 3) / 4 ≡ n = omega arith in
    sym (subst (λ (k : ℕ). take (4 * n) (words_bytes (words_at image at k))
    ≡ bytes_at image at (4 * n)) count (data-bytes image bytes (4 * n) at (omega arith)))
    ∙ take_all (4 * n) _ (omega (arith, bytes_length (words_at image at n), words_length image n at))

-- the bytes of words, lent on a line, are the words' units
low_half : (w : ℕ) → byte w 0 + byte w 1 * 2 ^ 8 ≡ w % 2 ^ 16
unfolding byte
low_half w = omega arith

high_half : (w : ℕ) → w < 2 ^ 32 → byte w 2 + byte w 3 * 2 ^ 8 ≡ w / 2 ^ 16
unfolding byte
high_half w h = omega arith

bytes_units : (bus : Bus) (ws : List ℕ) → AllSmall ws → units_fed bus (words_bytes ws) ≡ all_units bus ws
unfolding AllSmall halves_of
bytes_units Bytes [] small = refl
bytes_units Bytes (w ∷ ws) small = ap (λ (l : List ℕ). byte w 0 ∷ byte w 1 ∷ byte w 2 ∷ byte w 3 ∷ l) (bytes_units Bytes ws small.1)
bytes_units Halves [] small = refl
bytes_units Halves (w ∷ ws) small = λ i. low_half w i ∷ high_half w small.0 i ∷ bytes_units Halves ws small.1 i

pub stretch_units : (bus : Bus) (image : List ℕ) (at n : ℕ) → AreBytes image → at + 4 * n ≤ length image
    → units_fed bus (bytes_at image at (4 * n)) ≡ all_units bus (words_at image at n)
stretch_units bus image at n bytes there =
    ap (units_fed bus) (stretch_bytes image at n bytes there) ∙ bytes_units bus (words_at image at n) (words_small image n at)

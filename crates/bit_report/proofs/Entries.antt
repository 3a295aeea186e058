-- An entry is the low half of the word at its place: by the cases of how many bytes are left there.
use Prim.Native.Nat.{ℕ, ◌+◌, ◌*◌, ◌%◌}
use mathlib.Core.List.{List, [], ◌∷◌}
use mathlib.Core.Path.{◌≡◌, refl, ap, ap₂, ◌∙◌}
use native.Mathlib.Omega.{arith}
use lib.ListN.{get_or, take, drop}
use lib.Seq.{get_or-drop}
use Rattle.words.specs.rules.Bits.{join}
use Rattle.words.specs.rules.Bytes.{number, bytes_at, word_at}
use Rattle.bit_stamps.specs.rules.Stamps.{entry_at}

two_bytes : (l : List ℕ) → number (take 4 l) % 65536 ≡ number (get_or l 0 0 ∷ get_or l 1 0 ∷ [])
unfolding number join
two_bytes [] = refl
two_bytes (a ∷ []) = omega arith
two_bytes (a ∷ b ∷ l) = omega arith

pub entry_word : (m : List ℕ) (index bit : ℕ) → word_at m (64 * index + 2 * bit) % 65536 ≡ entry_at m index bit
unfolding word_at bytes_at entry_at
entry_word m index bit =
    let at : ℕ = 64 * index + 2 * bit in
    let none : at + 0 ≡ at = omega arith in
    two_bytes (drop at m)
    ∙ ap₂ (λ (low high : ℕ). number (low ∷ high ∷ [])) (get_or-drop at m 0 0 ∙ ap (λ (n : ℕ). get_or m n 0) none) (get_or-drop at m 1 0)

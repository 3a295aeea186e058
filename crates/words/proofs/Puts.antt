-- What a write does to a list of bytes: its length stays, the bytes in the range are those written, all others are kept. By induction over
-- the number of bytes.
use Prim.Native.Nat.{ℕ, zero, suc, ◌+◌, ◌-◌, ◌≤◌, ◌<◌, min}
use mathlib.Core.Path.{◌≡◌, refl, sym, ap, ap₂, ◌∙◌}
use mathlib.Core.List.{List}
use mathlib.Core.Logic.{◌≢◌}
use native.Mathlib.Decide.{ℕ_discrete, dec_lt}
use native.Mathlib.Nat.{add-zero, add-suc, add_assoc, zero-min}
use native.Mathlib.Numerals.{add-one}
use native.Mathlib.Omega.{arith}
use lib.ListN.{length, get_or, set, length-set}
use lib.Seq.{set_out, get_or-set_same, get_or-set_other}
use Rattle.words.specs.rules.Bytes.{put}

pub length_put : (m : List ℕ) (at n : ℕ) (f : ℕ → ℕ) → length (put m at n f) ≡ length m
unfolding put
length_put m at zero f = refl
length_put m at (suc n) f = length-set (put m at n f) (at + n) (f n) ∙ length_put m at n f

-- one byte more
pub put_more : (m : List ℕ) (at n : ℕ) (f : ℕ → ℕ) → put m at (n + 1) f ≡ set (put m at n f) (at + n) (f n)
unfolding put
put_more m at n f = rw add-one refl

-- past the end nothing is written
pub put_past : (m : List ℕ) (at n : ℕ) (f : ℕ → ℕ) → length m ≤ at → put m at n f ≡ m
unfolding put
put_past m at zero f h = refl
put_past m at (suc n) f h = rw (put_past m at n f h) (set_out m (at + n) (f n) (omega arith))

-- a count that would pass the end may stop there
pub put_clamped : (m : List ℕ) (at n : ℕ) (f : ℕ → ℕ) → put m at n f ≡ put m at (min n (length m - at)) f
unfolding put
put_clamped m at zero f = rw zero-min refl
put_clamped m at (suc n) f = go (dec_lt (at + n) (length m)) (put_clamped m at n f)
  where
    go : Dec (at + n < length m) → put m at n f ≡ put m at (min n (length m - at)) f
        → set (put m at n f) (at + n) (f n) ≡ put m at (min (suc n) (length m - at)) f
    go (yes h) before =
        let all : min (suc n) (length m - at) ≡ suc n = omega arith in
        rw all
    go (no h) before =
        let same : min (suc n) (length m - at) ≡ min n (length m - at) = omega arith in
        set_out (put m at n f) (at + n) (f n) (rw length_put (omega arith)) ∙ before ∙ ap (λ (k : ℕ). put m at k f) (sym same)

-- a byte of the range is the one written there
pub put_inside : (m : List ℕ) (at n : ℕ) (f : ℕ → ℕ) (j : ℕ) → j < n → at + j < length m → get_or (put m at n f) (at + j) 0 ≡ f j
unfolding put
put_inside m at zero f j h l = omega arith
put_inside m at (suc n) f j h l = go (ℕ_discrete j n) (λ k. put_inside m at n f j k l)
  where
    go : Dec (j ≡ n) → (j < n → get_or (put m at n f) (at + j) 0 ≡ f j) → get_or (set (put m at n f) (at + n) (f n)) (at + j) 0 ≡ f j
    go (yes e) before = rw e (get_or-set_same (put m at n f) (at + n) (f n) 0 (rw (length_put, ← e) l))
    go (no e) before = get_or-set_other (put m at n f) (at + n) (at + j) (f n) 0 (omega arith) ∙ before (omega arith)

-- every other byte is kept
pub put_outside : (m : List ℕ) (at n : ℕ) (f : ℕ → ℕ) (k : ℕ) → ((j : ℕ) → j < n → k ≢ at + j) → get_or (put m at n f) k 0 ≡ get_or m k 0
unfolding put
put_outside m at zero f k out = refl
put_outside m at (suc n) f k out =
    get_or-set_other (put m at n f) (at + n) k (f n) 0 (out n (omega arith)) ∙ put_outside m at n f k (λ j h. out j (omega arith))

-- writes of the same bytes are the same
pub put_same : (m : List ℕ) (at n : ℕ) {f g : ℕ → ℕ} → ((i : ℕ) → i < n → f i ≡ g i) → put m at n f ≡ put m at n g
unfolding put
put_same m at zero same = refl
put_same m at (suc n) same =
    ap₂ (λ (l : List ℕ) (b : ℕ). set l (at + n) b) (put_same m at n (λ i h. same i (omega arith))) (same n (omega arith))

-- a write and then one just above it are one write
pub put_append : (m : List ℕ) (at n j : ℕ) (f : ℕ → ℕ) → put (put m at n f) (at + n) j (λ i. f (n + i)) ≡ put m at (n + j) f
unfolding put
put_append m at n zero f = rw add-zero
put_append m at n (suc j) f = rw (add-suc, add_assoc at n j, put_append m at n j f)

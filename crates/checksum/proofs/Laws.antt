-- The checksum stays below 2 ^ 32, since a shift is cut there and the polynomial is below it. Of a value only the bits that are fed count.
use Prim.Native.Nat.{ℕ, zero, suc, ◌%◌, ◌^◌, ◌≤◌, ◌<◌}
use mathlib.Core.Bool.{Bool, true, false}
use mathlib.Core.List.{List, [], ◌∷◌}
use mathlib.Core.Path.{◌≡◌, refl}
use native.Mathlib.Omega.{arith}
use lib.Bits.{xor_lt}
use lib.Dec.{eqb}
use Rattle.words.specs.rules.Bits.{bit}
use Rattle.words.specs.rules.Choice.{pick}
use Rattle.words.proofs.Joins.{bit_low}
use Rattle.checksum.specs.rules.Checksum.{shifted, fed_bit, fed, fed_words}

-- what is chosen is below a bound that both sides are below
pick_lt : {n a b : ℕ} (t : Bool) → a < n → b < n → pick t a b < n
unfolding pick
pick_lt true p q = p
pick_lt false p q = q

-- a shift is cut at 32 bits
shifted_lt : (r b : ℕ) → shifted r b < 2 ^ 32
unfolding shifted
shifted_lt r b = omega arith

-- after a bit, whatever stood before
pub fed_bit_lt : (r b : ℕ) → fed_bit r b < 2 ^ 32
unfolding fed_bit
fed_bit_lt r b = pick_lt (eqb (bit r 31) 1) (xor_lt 32 _ _ (shifted_lt r b) (omega arith)) (shifted_lt r b)

-- after any number of bits
pub fed_lt : (r v n : ℕ) → r < 2 ^ 32 → fed r v n < 2 ^ 32
unfolding fed
fed_lt r v zero h = h
fed_lt r v (suc n) h = fed_lt (fed_bit r (bit v n)) v n (fed_bit_lt r (bit v n))

-- after any words
pub fed_words_lt : (r : ℕ) (ws : List ℕ) → r < 2 ^ 32 → fed_words r ws < 2 ^ 32
unfolding fed_words
fed_words_lt r [] h = h
fed_words_lt r (w ∷ ws) h = fed_words_lt (fed r w 32) ws (fed_lt r w 32 h)

-- only the n bits that are fed count, so the others may be cut off
pub fed_low : (r v n k : ℕ) → n ≤ k → fed r (v % 2 ^ k) n ≡ fed r v n
unfolding fed
fed_low r v zero k h = refl
fed_low r v (suc n) k h = rw (bit_low v k n h, fed_low (fed_bit r (bit v n)) v n k (omega arith))

-- A fill by any unit is a fill by the word that is made of copies of the unit: the word has at each place the unit's byte of that place. By
-- induction over the copies, each joined below those before it. Words written one above the other, and then the low bytes of one more, are such a fill.
use Prim.Native.Nat.{ℕ, zero, suc, ◌+◌, ◌-◌, ◌*◌, ◌/◌, ◌%◌, ◌^◌, ◌≤◌, ◌<◌, min}
use mathlib.Core.List.{List}
use mathlib.Core.Path.{◌≡◌, sym, ap, ◌∙◌}
use native.Mathlib.Decide.{dec_lt}
use native.Mathlib.Nat.{mod-lt, mod-eq_of_lt, mod-eq-sub-mod, mod-mod_of_dvd, dvd_of_mod-eq-zero, mul-mod_right}
use native.Mathlib.Omega.{arith}
use lib.Dec.{lit≤}
use mir.Syntax.{w32}
use Rattle.std.specs.Int.{to_le_bytes}
use lib.ListN.{length, get_or, take}
use lib.Pow.{field, mod-mod-pow, shr-shr}
use lib.Seq.{length-take-le, get_or-take}
use Rattle.words.specs.rules.Bits.{join}
use Rattle.words.specs.rules.Bytes.{byte, put, size_of, written}
use Rattle.words.specs.declared.Unit.{Unit as UnitOf}
use Rattle.words.specs.declared.Unit.TheVariants.{Four}
use Rattle.words.proofs.Joins.{join_low, join_high}
use Rattle.words.proofs.Puts.{length_put, put_clamped, put_same, put_append}
use Rattle.words.proofs.Units.{write_done}
use Rattle.stores.specs.rules.Stores.{loaded, filled}

-- a remainder by whole bytes keeps the bytes below
byte_low : (v unit i : ℕ) → i < unit → byte (v % 2 ^ (8 * unit)) i ≡ byte v i
unfolding byte
byte_low v unit i h =
    let e : 8 * unit ≡ (8 * unit - (8 * i + 8) + 8) + 8 * i = omega arith in
    ap (λ (x : ℕ). v % 2 ^ x / 2 ^ (8 * i) % 256) e
    ∙ ap (λ (x : ℕ). x % 256) (field v (8 * unit - (8 * i + 8) + 8) (8 * i))
    ∙ mod-mod-pow (v / 2 ^ (8 * i)) (8 * unit - (8 * i + 8)) 8

-- a shift by whole bytes moves the bytes down
byte_high : (v unit i : ℕ) → unit ≤ i → byte v i ≡ byte (v / 2 ^ (8 * unit)) (i - unit)
unfolding byte
byte_high v unit i h =
    let e : 8 * i ≡ 8 * unit + 8 * (i - unit) = omega arith in
    ap (λ (x : ℕ). v / 2 ^ x % 256) e ∙ ap (λ (x : ℕ). x % 256) (sym (shr-shr v (8 * unit) (8 * (i - unit))))

-- n copies of the low unit of a number, one above the other
unfoldable pub copies : ℕ → ℕ → ℕ → ℕ
copies unit v zero = 0
copies unit v (suc n) = join (8 * unit) v (copies unit v n)

copies_byte : (unit v n i : ℕ) → i < unit * n → byte (copies unit v n) i ≡ byte v (i % unit)
unfolding copies
copies_byte unit v zero i h = omega arith
copies_byte unit v (suc n) i h = go (dec_lt i unit) (λ l. copies_byte unit v n (i - unit) (omega arith))
  where
    go : Dec (i < unit) → (unit ≤ i → byte (copies unit v n) (i - unit) ≡ byte v ((i - unit) % unit))
        → byte (join (8 * unit) v (copies unit v n)) i ≡ byte v (i % unit)
    go (yes l) above =
        sym (byte_low _ unit i l) ∙ rw (join_low (8 * unit) v (copies unit v n), mod-eq_of_lt l) (byte_low v unit i l)
    go (no l) above =
        let up : unit ≤ i = omega arith in
        byte_high _ unit i up ∙ rw (join_high (8 * unit) v (copies unit v n), mod-eq-sub-mod up) (above up)

-- a word of copies has, round and round, the bytes of the unit
pub copies_round : (unit v n : ℕ) {word : ℕ} → word ≡ copies unit v n → 0 < unit * n → (i : ℕ)
    → byte word (i % (unit * n)) ≡ byte v (i % unit)
copies_round unit v n e h i =
    rw e
    (copies_byte unit v n (i % (unit * n)) (mod-lt i h)
    ∙ ap (byte v) (mod-mod_of_dvd unit i (dvd_of_mod-eq-zero unit (mul-mod_right unit n))))

-- words, and then low bytes of one more
filled_more : (m : List ℕ) (at n j word : ℕ) → j ≤ 4
    → put (filled m at (4 * n) Four word) (at + 4 * n) j (byte word) ≡ filled m at (4 * n + j) Four word
unfolding filled
filled_more m at n j word h =
    put_same _ (at + 4 * n) j {g = λ i. byte word ((4 * n + i) % 4)} (λ i l. ap (byte word) (omega arith))
    ∙ put_append m at (4 * n) j (λ i. byte word (i % 4))

-- one word more
pub filled_word : (m : List ℕ) (at n word : ℕ) {place : ℕ} → place ≡ at + 4 * n → at + 4 * (n + 1) ≤ length m
    → written (filled m at (4 * n) Four word) place Four word ≡ filled m at (4 * (n + 1)) Four word
unfolding filled
filled_word m at n word e h =
    let next : 4 * n + 4 ≡ 4 * (n + 1) = omega arith in
    rw e
    (sym (write_done _ (at + 4 * n) Four word (rw length_put (omega arith))).1
    ∙ filled_more m at n 4 word (lit≤ tt)
    ∙ ap (λ (k : ℕ). filled m at k Four word) next)

-- all of a fill, up to the end of the memory: words of whole units and low bytes of one more
pub filled_whole : (m : List ℕ) (at size : ℕ) (unit : UnitOf) (pattern word n j : ℕ)
    → ((i : ℕ) → byte word (i % 4) ≡ byte pattern (i % size_of unit)) → j ≤ 4 → 4 * n + j ≡ min size (length m - at)
    → put (filled m at (4 * n) Four word) (at + 4 * n) j (byte word) ≡ filled m at size unit pattern
unfolding filled
filled_whole m at size unit pattern word n j same h all =
    filled_more m at n j word h
    ∙ put_same m at (4 * n + j) {g = λ i. byte pattern (i % size_of unit)} (λ i l. same i)
    ∙ rw (all, ← (put_clamped m at size (λ i. byte pattern (i % size_of unit))))

-- the bytes of a word, lowest first
le_byte : (word i : ℕ) → i < 4 → get_or (to_le_bytes w32 word) i 0 ≡ byte word i
unfolding byte
le_byte word zero h = omega arith
le_byte word (suc zero) h = omega arith
le_byte word (suc (suc zero)) h = omega arith
le_byte word (suc (suc (suc zero))) h = omega arith
le_byte word (suc (suc (suc (suc i)))) h = omega arith

-- a load of the first bytes of a word writes its low bytes
pub low_loaded : (m : List ℕ) (at n word : ℕ) → n ≤ 4 → loaded m at (take n (to_le_bytes w32 word)) ≡ put m at n (byte word)
unfolding loaded
low_loaded m at n word h =
    rw (length-take-le n (to_le_bytes w32 word) h) (put_same m at n (λ i l. get_or-take n _ i 0 l ∙ le_byte word i (omega arith)))

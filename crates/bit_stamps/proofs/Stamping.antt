-- What a write does to each byte of the entries, and that to stamp word after word comes to the same. Each byte is taken by itself: it tells of
-- a bit that was written, or it is kept.
use Prim.Native.Nat.{ℕ, zero, suc, ◌+◌, ◌-◌, ◌*◌, ◌/◌, ◌%◌, ◌≤◌, ◌<◌, min}
use mathlib.Core.Bool.{Bool, false, ◌&&◌, and-false}
use mathlib.Core.List.{List, [], ◌∷◌}
use mathlib.Core.Path.{◌≡◌, refl, sym, ap, ap₂, ◌∙◌}
use native.Mathlib.Decide.{ℕ_discrete, dec_lt}
use native.Mathlib.Nat.{add-zero, zero-add, suc-ne-zero}
use native.Mathlib.Omega.{arith}
use lib.Dec.{ltb}
use lib.ListN.{length, get_or, set, take, length-take}
use lib.Seq.{get_or-take, ext_get_or, take_all}
use borrow.Author.Tests.{lt-ltb, le-ltb}
use Rattle.words.specs.rules.Bits.{within}
use Rattle.words.specs.rules.Bytes.{byte, put}
use Rattle.words.specs.rules.Choice.{pick}
use Rattle.words.proofs.Choice.{chosen, passed}
use Rattle.words.proofs.Puts.{length_put, put_more, put_inside, put_outside}
use Rattle.words.proofs.Ranges.{inside, below, above, by_range}
use Rattle.commands.specs.rules.Wrote.{first_bit}
use Rattle.commands.specs.declared.Wrote.{Wrote}
use Rattle.bit_stamps.specs.rules.Stamps.{told_bit, is_told, stamped_from, stamped, word_bits_below, word_stamped}

-- the two bytes of one entry more
pub two_more : (m : List ℕ) (at i number : ℕ)
    → set (set (put m at (2 * i) (λ k. byte number (k % 2))) (at + 2 * i) (byte number 0)) (at + 2 * i + 1) (byte number 1)
    ≡ put m at (2 * (i + 1)) (λ k. byte number (k % 2))
two_more m at i number =
    let f : ℕ → ℕ = λ (k : ℕ). byte number (k % 2) in
    let count : 2 * (i + 1) ≡ 2 * i + 1 + 1 = omega arith in
    let low : 2 * i % 2 ≡ 0 = omega arith in
    let high : (2 * i + 1) % 2 ≡ 1 = omega arith in
    let place : at + (2 * i + 1) ≡ at + 2 * i + 1 = omega arith in
    sym (
    ap (λ (n : ℕ). put m at n f) count
    ∙ put_more m at (2 * i + 1) f
    ∙ ap (λ (l : List ℕ). set l (at + (2 * i + 1)) (f (2 * i + 1))) (put_more m at (2 * i) f)
    ∙ ap₂ (λ (b p : ℕ). set (set (put m at (2 * i) f) (at + 2 * i) b) p (f (2 * i + 1))) (ap (byte number) low) place
    ∙ ap (set (set (put m at (2 * i) f) (at + 2 * i) (byte number 0)) (at + 2 * i + 1)) (ap (byte number) high)
    )

module _ (places : List ℕ) (w : Wrote) where
  pub length_stamped : (i : ℕ) (entries : List ℕ) → length (stamped_from i entries places w) ≡ length entries
  unfolding stamped_from
  length_stamped i [] = refl
  length_stamped i (b ∷ bs) = ap suc (length_stamped (i + 1) bs)

  -- a byte of the entries after a write
  pub byte_from : (i : ℕ) (entries : List ℕ) (n : ℕ) → n < length entries
      → get_or (stamped_from i entries places w) n 0 ≡ pick (is_told places w (i + n)) (byte w.number ((i + n) % 2)) (get_or entries n 0)
  unfolding stamped_from
  byte_from i [] n h = omega arith
  byte_from i (b ∷ bs) zero h = rw (add-zero i) refl
  byte_from i (b ∷ bs) (suc n) h =
      let next : i + 1 + n ≡ i + suc n = omega arith in
      byte_from (i + 1) bs n (omega arith)
      ∙ ap (λ (k : ℕ). pick (is_told places w k) (byte w.number (k % 2)) (get_or bs n 0)) next

  pub byte_stamped : (entries : List ℕ) (n : ℕ) → n < length entries
      → get_or (stamped entries places w) n 0 ≡ pick (is_told places w n) (byte w.number (n % 2)) (get_or entries n 0)
  byte_stamped entries n h =
      byte_from 0 entries n h
      ∙ ap (λ (k : ℕ). pick (is_told places w k) (byte w.number (k % 2)) (get_or entries n 0)) (zero-add n)

-- what a test of a word's index and of its bit comes to
module _ (places : List ℕ) (w : Wrote) (n : ℕ) where
  pub told : n / 64 < length places → is_told places w n ≡ within (first_bit w) w.count (told_bit places n)
  unfolding is_told
  told h = ap (λ (t : Bool). t && within (first_bit w) w.count (told_bit places n)) (lt-ltb _ _ h)

  pub not_told : length places ≤ n / 64 → is_told places w n ≡ false
  unfolding is_told
  not_told h = ap (λ (t : Bool). t && within (first_bit w) w.count (told_bit places n)) (le-ltb _ _ h)

-- with no bits written, or no word chosen, all is kept
pub kept_bytes : (entries places : List ℕ) (w : Wrote) → ((n : ℕ) → is_told places w n ≡ false) → stamped entries places w ≡ entries
kept_bytes entries places w none =
    ext_get_or 0 _ _ (length_stamped places w 0 entries) (λ n h.
    let lies : n < length entries = rw (← length_stamped places w 0 entries) h in
    byte_stamped places w entries n lies ∙ passed _ _ _ (none n))

pub none_chosen : (entries : List ℕ) (w : Wrote) → stamped entries [] w ≡ entries
none_chosen entries w = kept_bytes entries [] w (λ n. not_told [] w n (omega arith))

pub none_taken : (entries places : List ℕ) (count : ℕ) (w : Wrote) → count ≡ 0 → stamped entries (take count places) w ≡ entries
none_taken entries places count w none = ap (λ (n : ℕ). stamped entries (take n places) w) none ∙ none_chosen entries w

-- a bit outside of the range is not told
outside : (places : List ℕ) (w : Wrote) (n : ℕ) → within (first_bit w) w.count (told_bit places n) ≡ false → is_told places w n ≡ false
unfolding is_told
outside places w n e = ap (λ (t : Bool). ltb (n / 64) (length places) && t) e ∙ and-false (ltb (n / 64) (length places))

pub none_written : (entries places : List ℕ) (w : Wrote) → w.count ≡ 0 → stamped entries places w ≡ entries
none_written entries places w none = kept_bytes entries places w (λ n.
    by_range (first_bit w) w.count (told_bit places n)
    (λ h. outside places w n (below _ _ _ h)) (λ j h e. absurd (omega arith)) (λ j e. outside places w n (above _ _ _ (omega arith))))

-- where there are no entries, none is stamped
pub none_beside : (entries places : List ℕ) (w : Wrote) → length entries ≡ 0 → stamped entries places w ≡ entries
unfolding stamped_from
none_beside [] places w none = refl
none_beside (b ∷ bs) places w some = absurd (suc-ne-zero (length bs) some)

-- one word more
module _ (entries places : List ℕ) (w : Wrote) (j : ℕ) (h : j < length places) where
  more_length : length (take (j + 1) places) ≡ j + 1
  more_length = simp length-take (omega arith)

  fewer_length : length (take j places) ≡ j
  fewer_length = simp length-take (omega arith)

  -- a byte of another word's entries
  other_word : (n : ℕ) → (n / 64 ≡ j → ⊥) → is_told (take (j + 1) places) w n ≡ is_told (take j places) w n
  other_word n other =
      go (dec_lt (n / 64) j)
    where
      go : Dec (n / 64 < j) → is_told (take (j + 1) places) w n ≡ is_told (take j places) w n
      go (yes l) =
          told (take (j + 1) places) w n (rw more_length (omega arith))
          ∙ ap (λ (p : ℕ). within (first_bit w) w.count (8 * p + n % 64 / 2))
          (get_or-take (j + 1) places (n / 64) 0 (omega arith) ∙ sym (get_or-take j places (n / 64) 0 l))
          ∙ sym (told (take j places) w n (rw fewer_length l))
      go (no l) = not_told (take (j + 1) places) w n (rw more_length (omega arith)) ∙ sym (not_told (take j places) w n (rw fewer_length (omega arith)))

  -- a byte of its own
  own_word : (n : ℕ) → n / 64 ≡ j → is_told (take (j + 1) places) w n ≡ within (first_bit w) w.count (8 * get_or places j 0 + n % 64 / 2)
  own_word n e =
      told (take (j + 1) places) w n (rw more_length (omega arith))
      ∙ ap (λ (p : ℕ). within (first_bit w) w.count (8 * p + n % 64 / 2))
      (get_or-take (j + 1) places (n / 64) 0 (omega arith) ∙ ap (λ (k : ℕ). get_or places k 0) e)

  kept_outside : (n : ℕ) → n < length entries → is_told (take (j + 1) places) w n ≡ is_told (take j places) w n
      → get_or (stamped entries (take j places) w) n 0 ≡ get_or (stamped entries (take (j + 1) places) w) n 0
  kept_outside n l same =
      byte_stamped (take j places) w entries n l
      ∙ ap (λ (t : Bool). pick t (byte w.number (n % 2)) (get_or entries n 0)) (sym same)
      ∙ sym (byte_stamped (take (j + 1) places) w entries n l)

  pub one_word_more : word_stamped (stamped entries (take j places) w) j (get_or places j 0) w ≡ stamped entries (take (j + 1) places) w
  unfolding word_stamped
  one_word_more =
      let place : ℕ = get_or places j 0 in
      let from : ℕ = word_bits_below place (first_bit w) in
      let to : ℕ = word_bits_below place (first_bit w + w.count) in
      let before : List ℕ = stamped entries (take j places) w in
      let f : ℕ → ℕ = λ (i : ℕ). byte w.number (i % 2) in
      let size : length before ≡ length entries = length_stamped (take j places) w 0 entries in
      ext_get_or 0 _ _ (length_put before _ _ f ∙ size ∙ sym (length_stamped (take (j + 1) places) w 0 entries)) (λ n less.
      let lies : n < length entries = rw (← size, ← length_put before (64 * j + 2 * from) (2 * (to - from)) f) less in
      by_range (64 * j + 2 * from) (2 * (to - from)) n
      (λ l. put_outside before _ _ f n (λ i k. omega arith) ∙ kept n lies (λ e. below _ _ _ (omega arith)))
      (λ i l e.
      let own : n / 64 ≡ j = omega arith in
      let same : i % 2 ≡ n % 2 = omega arith in
      let Told-here = own_word n own ∙ inside _ _ _ (omega arith) (omega arith) in
      ap (λ (k : ℕ). get_or (put before (64 * j + 2 * from) (2 * (to - from)) f) k 0) e
      ∙ put_inside before (64 * j + 2 * from) (2 * (to - from)) f i l (rw (size, ← e) lies)
      ∙ ap (byte w.number) same
      ∙ sym (byte_stamped (take (j + 1) places) w entries n lies ∙ chosen _ _ _ Told-here))
      (λ i e. put_outside before _ _ f n (λ i k. omega arith) ∙ kept n lies (λ own. above _ _ _ (omega arith))))
    where
      kept : (n : ℕ) → n < length entries
          → (n / 64 ≡ j → within (first_bit w) w.count (8 * get_or places j 0 + n % 64 / 2) ≡ false)
          → get_or (stamped entries (take j places) w) n 0 ≡ get_or (stamped entries (take (j + 1) places) w) n 0
      kept n l out =
          go (ℕ_discrete (n / 64) j)
        where
          go : Dec (n / 64 ≡ j) → get_or (stamped entries (take j places) w) n 0 ≡ get_or (stamped entries (take (j + 1) places) w) n 0
          go (yes e) = kept_outside n l (own_word n e ∙ out e ∙ sym (not_told (take j places) w n (rw fewer_length (omega arith))))
          go (no e) = kept_outside n l (other_word n e)

-- a word of which no bit was written keeps its entries
pub word_kept : (entries : List ℕ) (index place : ℕ) (w : Wrote) (from to : ℕ) → from ≡ word_bits_below place (first_bit w)
    → to ≡ word_bits_below place (first_bit w + w.count) → to ≤ from → entries ≡ word_stamped entries index place w
unfolding word_stamped put
word_kept entries index place w from to e f h =
    let none : 2 * (word_bits_below place (first_bit w + w.count) - word_bits_below place (first_bit w)) ≡ 0 = omega (arith, e, f, h) in
    sym (ap (λ (n : ℕ). put entries (64 * index + 2 * word_bits_below place (first_bit w)) n (λ i. byte w.number (i % 2))) none)

-- past the end of the entries none is left to stamp: a byte is told of the same by all lists that have its word
module _ (places : List ℕ) (w : Wrote) (n i j : ℕ) (h : n / 64 < i) (l : n / 64 < j) where
  same_told : is_told (take i places) w n ≡ is_told (take j places) w n
  same_told = go (dec_lt (n / 64) (length places))
    where
      go : Dec (n / 64 < length places) → is_told (take i places) w n ≡ is_told (take j places) w n
      go (yes k) =
          told (take i places) w n (simp length-take (omega arith))
          ∙ ap (λ (p : ℕ). within (first_bit w) w.count (8 * p + n % 64 / 2))
          (get_or-take i places (n / 64) 0 h ∙ sym (get_or-take j places (n / 64) 0 l))
          ∙ sym (told (take j places) w n (simp length-take (omega arith)))
      go (no k) = not_told (take i places) w n (simp length-take (omega arith)) ∙ sym (not_told (take j places) w n (simp length-take (omega arith)))

pub past_entries : (entries places : List ℕ) (w : Wrote) (i j : ℕ) → length entries / 64 < i → i ≤ j
    → stamped entries (take i places) w ≡ stamped entries (take j places) w
past_entries entries places w i j h l =
    ext_get_or 0 _ _ (length_stamped (take i places) w 0 entries ∙ sym (length_stamped (take j places) w 0 entries)) (λ n less.
    let lies : n < length entries = rw (← length_stamped (take i places) w 0 entries) less in
    byte_stamped (take i places) w entries n lies
    ∙ ap (λ (t : Bool). pick t (byte w.number (n % 2)) (get_or entries n 0)) (same_told places w n i j (omega arith) (omega arith))
    ∙ sym (byte_stamped (take j places) w entries n lies))

-- as many words as there are, of those that are chosen, and as have entries, are enough
pub enough : (entries places : List ℕ) (w : Wrote) (most count : ℕ) → most ≡ min (min count (length places)) (length entries / 64 + 1)
    → stamped entries (take most places) w ≡ stamped entries (take count places) w
enough entries places w most count least = go (dec_lt (length entries / 64) most) (dec_lt most count)
  where
    go : Dec (length entries / 64 < most) → Dec (most < count) → stamped entries (take most places) w ≡ stamped entries (take count places) w
    go (yes past) _ = past_entries entries places w most count past (omega arith)
    go (no inside) (yes fewer) =
        ap (λ (l : List ℕ). stamped entries l w) (take_all most places (omega arith) ∙ sym (take_all count places (omega arith)))
    go (no inside) (no all) =
        let same : most ≡ count = omega arith in
        ap (λ (n : ℕ). stamped entries (take n places) w) same

-- The laws of stamping: each byte is taken by itself, by whether it tells of a bit that was written.
use Prim.Native.Nat.{ℕ, ◌+◌, ◌*◌, ◌/◌, ◌%◌, ◌≤◌, ◌<◌}
use mathlib.Core.Bool.{Bool, true, false, true≢false}
use mathlib.Core.List.{List, [], ◌∷◌}
use mathlib.Core.Path.{◌≡◌, sym, ap, ap₂, ◌∙◌}
use native.Mathlib.Omega.{arith}
use lib.ListN.{length, get_or}
use lib.Seq.{ext_get_or}
use borrow.Author.Tests.{ltb-true, leb-true}
use Rattle.words.specs.rules.Bits.{join, within}
use Rattle.words.specs.rules.Bytes.{byte, number}
use Rattle.words.specs.rules.Choice.{pick}
use Rattle.words.proofs.Choice.{chosen, passed, by_test, both, refuted}
use Rattle.words.proofs.Ranges.{inside}
use Rattle.commands.specs.rules.Wrote.{first_bit}
use Rattle.commands.specs.declared.Wrote.{Wrote}
use Rattle.bit_stamps.specs.claims.Laws.{Pieces, StampLaws}
use Rattle.bit_stamps.specs.rules.Stamps.{told_bit, is_told, stamped, entry_at}
use Rattle.bit_stamps.proofs.Stamping.{length_stamped, byte_stamped, told, not_told}

-- a byte that tells of a bit that was written
record Told (places : List ℕ) (w : Wrote) (n : ℕ) : Type 0 where
  lies : n / 64 < length places
  from : first_bit w ≤ told_bit places n
  to : told_bit places n < first_bit w + w.count

module _ (places : List ℕ) (w : Wrote) (n : ℕ) where
  told_parts : is_told places w n ≡ true → Told places w n
  unfolding is_told within
  told_parts e =
      let whole = both _ _ e in
      let range = both _ _ whole.1 in
      record { lies = ltb-true _ _ whole.0; from = leb-true _ _ range.0; to = ltb-true _ _ range.1 }

  told-by : Told places w n → is_told places w n ≡ true
  told-by t = told places w n t.lies ∙ inside _ _ _ t.from t.to

  told_never : (Told places w n → ⊥) → is_told places w n ≡ false
  told_never never = sym (refuted _ (λ e. never (told_parts e)))

-- two stamps of one list are the same where they are at each byte
same_bytes : (a b : List ℕ) (size : ℕ) → length a ≡ size → length b ≡ size → ((n : ℕ) → n < size → get_or a n 0 ≡ get_or b n 0) → a ≡ b
same_bytes a b size la lb same = ext_get_or 0 a b (la ∙ sym lb) (λ n h. same n (rw (← la) h))

-- the number that its own two low bytes make
two_bytes : (n : ℕ) → n < 65536 → number (byte n 0 ∷ byte n 1 ∷ []) ≡ n
unfolding number join byte
two_bytes n h = omega arith

two_below : (a b : ℕ) → number (a ∷ b ∷ []) < 65536
unfolding number join
two_below a b = omega arith

module _ (entries places : List ℕ) where
  twice_length : (v w : Wrote) → length (stamped (stamped entries places v) places w) ≡ length entries
  twice_length v w = length_stamped places w 0 (stamped entries places v) ∙ length_stamped places v 0 entries

  -- a byte after two writes
  twice : (v w : Wrote) (n : ℕ) → n < length entries
      → get_or (stamped (stamped entries places v) places w) n 0
      ≡ pick (is_told places w n) (byte w.number (n % 2)) (pick (is_told places v n) (byte v.number (n % 2)) (get_or entries n 0))
  twice v w n h =
      let lies : n < length (stamped entries places v) = rw (length_stamped places v 0 entries) h in
      byte_stamped places w (stamped entries places v) n lies
      ∙ ap (pick (is_told places w n) (byte w.number (n % 2))) (byte_stamped places v entries n h)

  covered_law : (v w : Wrote) → first_bit w ≤ first_bit v → first_bit v + v.count ≤ first_bit w + w.count
      → stamped (stamped entries places v) places w ≡ stamped entries places w
  covered_law v w low high =
      same_bytes _ _ (length entries) (twice_length v w) (length_stamped places w 0 entries) (λ n h.
      twice v w n h
      ∙ by_test (is_told places w n)
      (λ t. chosen _ _ _ t ∙ sym (chosen _ _ _ t))
      (λ f.
      let first-not : is_told places v n ≡ false =
      told_never places v n (λ t.
      true≢false (sym (told-by places w n (record { lies = t.lies; from = omega (arith, t.from); to = omega (arith, t.to) })) ∙ f)) in
      passed _ _ _ f ∙ passed _ _ _ first-not ∙ sym (passed _ _ _ f))
      ∙ sym (byte_stamped places w entries n h))

  -- a byte that the whole tells of is one that a piece tells of, and the other way round
  pieces_law : (u v w : Wrote) → Pieces u v w → stamped (stamped entries places u) places v ≡ stamped entries places w
  pieces_law u v w p =
      same_bytes _ _ (length entries) (twice_length u v) (length_stamped places w 0 entries) (λ i h.
      twice u v i h
      ∙ by_test (is_told places v i)
      (λ t.
      let s = told_parts places v i t in
      chosen _ _ _ t ∙ ap (λ (n : ℕ). byte n (i % 2)) p.numbers.1
      ∙ sym (chosen _ _ _ (told-by places w i (record {
        lies = s.lies;
        from = omega (arith, s.from, p.next);
        to = omega (arith, s.to, p.next, p.count);
      }))))
      (λ f. passed _ _ _ f
      ∙ by_test (is_told places u i)
      (λ t.
      let s = told_parts places u i t in
      chosen _ _ _ t ∙ ap (λ (n : ℕ). byte n (i % 2)) p.numbers.0
      ∙ sym (chosen _ _ _ (told-by places w i (record {
        lies = s.lies;
        from = omega (arith, s.from, p.low);
        to = omega (arith, s.to, p.low, p.count);
      }))))
      (λ g. passed _ _ _ g
      ∙ sym (passed _ _ _ (told_never places w i (λ s.
      true≢false (sym (told-by places v i (record {
        lies = s.lies;
        from = not_below i (λ under. true≢false (sym (told-by places u i (record { lies = s.lies; from = omega (arith, s.from, p.low); to = under })) ∙ g));
        to = omega (arith, s.to, p.next, p.count);
      })) ∙ f))))))
      ∙ sym (byte_stamped places w entries i h))
    where
      not_below : (i : ℕ) → (told_bit places i < first_bit u + u.count → ⊥) → first_bit v ≤ told_bit places i
      not_below i never = omega (arith, never, p.next, p.low)

  entry_law : (w : Wrote) (j k : ℕ) → w.number < 65536 → j < length places → k < 32 → 64 * length places ≤ length entries
      → entry_at (stamped entries places w) j k ≡ pick (within (first_bit w) w.count (8 * get_or places j 0 + k)) w.number (entry_at entries j k)
  unfolding entry_at
  entry_law w j k small chosen-word bit long =
      let at : ℕ = 64 * j + 2 * k in
      let test : Bool = within (first_bit w) w.count (8 * get_or places j 0 + k) in
      let low : is_told places w at ≡ test = tells at (omega arith) (omega arith) in
      let high : is_told places w (at + 1) ≡ test = tells (at + 1) (omega arith) (omega arith) in
      let even : at % 2 ≡ 0 = omega arith in
      let odd : (at + 1) % 2 ≡ 1 = omega arith in
      ap₂ (λ (a b : ℕ). number (a ∷ b ∷ []))
      (byte_stamped places w entries at (omega arith)
      ∙ ap₂ (λ (t : Bool) (i : ℕ). pick t (byte w.number i) (get_or entries at 0)) low even)
      (byte_stamped places w entries (at + 1) (omega arith)
      ∙ ap₂ (λ (t : Bool) (i : ℕ). pick t (byte w.number i) (get_or entries (at + 1) 0)) high odd)
      ∙ by_test test
      (λ t. ap₂ (λ (a b : ℕ). number (a ∷ b ∷ [])) (chosen _ _ _ t) (chosen _ _ _ t) ∙ two_bytes w.number small ∙ sym (chosen _ _ _ t))
      (λ f. ap₂ (λ (a b : ℕ). number (a ∷ b ∷ [])) (passed _ _ _ f) (passed _ _ _ f) ∙ sym (passed _ _ _ f))
    where
      tells : (b : ℕ) → b / 64 ≡ j → b % 64 / 2 ≡ k → is_told places w b ≡ within (first_bit w) w.count (8 * get_or places j 0 + k)
      tells b e f =
          told places w b (rw e chosen-word)
          ∙ ap₂ (λ (p q : ℕ). within (first_bit w) w.count (8 * get_or places p 0 + q)) e f

  below_law : (j k : ℕ) → entry_at entries j k < 65536
  unfolding entry_at
  below_law j k = two_below _ _

  pub stamp_laws : StampLaws entries places
  stamp_laws = record {
    same_length = λ w. length_stamped places w 0 entries;
    each_entry = entry_law;
    past_kept = λ w n past h. byte_stamped places w entries n h ∙ passed _ _ _ (not_told places w n (omega arith));
    covered = covered_law;
    in_pieces = pieces_law;
    below = below_law;
  }

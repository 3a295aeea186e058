-- Writes, one after the other, leave in each byte of the entries what the last of them gave that tells of its bit. So writes that tell of every bit that others
-- told of leave nothing of these.
use Prim.Native.Nat.{ℕ, ◌/◌, ◌%◌, ◌<◌}
use mathlib.Core.Bool.{Bool, true, false, ◌&&◌, ◌||◌, and-false}
use mathlib.Core.List.{List, [], ◌∷◌, ◌++◌}
use mathlib.Core.Path.{◌≡◌, refl, sym, ap, ap₂, ◌∙◌}
use lib.Dec.{ltb}
use lib.ListN.{length, get_or}
use lib.Seq.{ext_get_or}
use Rattle.words.specs.rules.Bytes.{byte}
use Rattle.words.specs.rules.Choice.{pick}
use Rattle.words.proofs.Choice.{both}
use Rattle.commands.specs.declared.Wrote.{Wrote}
use Rattle.bit_stamps.specs.rules.Stamps.{told_bit, is_told, stamped}
use Rattle.bit_stamps.proofs.Stamping.{length_stamped, byte_stamped}
use Rattle.machine.specs.claims.Wrote.{tells, some_tell}
use Rattle.law_retries.proofs.Several.{pick_inside, pick_over}

-- the entries after some writes
unfoldable pub stamped_by : List ℕ → List ℕ → List Wrote → List ℕ
stamped_by entries places [] = entries
stamped_by entries places (w ∷ ws) = stamped_by (stamped entries places w) places ws

pub by_append : (entries places : List ℕ) (vs ws : List Wrote)
    → stamped_by entries places (vs ++ ws) ≡ stamped_by (stamped_by entries places vs) places ws
unfolding stamped_by
by_append entries places [] ws = refl
by_append entries places (v ∷ vs) ws = by_append (stamped entries places v) places vs ws

by_length : (entries places : List ℕ) (ws : List Wrote) → length (stamped_by entries places ws) ≡ length entries
unfolding stamped_by
by_length entries places [] = refl
by_length entries places (w ∷ ws) = by_length (stamped entries places w) places ws ∙ length_stamped places w 0 entries

-- the bits that two lists of writes tell of
pub some_append : (vs ws : List Wrote) (p : ℕ) → some_tell (vs ++ ws) p ≡ (some_tell vs p || some_tell ws p)
unfolding some_tell
some_append [] ws p = refl
some_append (v ∷ vs) ws p = ap (λ (t : Bool). tells v p || t) (some_append vs ws p) ∙ sym (either (tells v p) (some_tell vs p) (some_tell ws p))
  where
    either : (a b c : Bool) → ((a || b) || c) ≡ (a || (b || c))
    either true b c = refl
    either false b c = refl

module _ (places : List ℕ) where
  -- does one of them tell of the bit of byte n?
  unfoldable some_told : List Wrote → ℕ → Bool
  some_told [] n = false
  some_told (w ∷ ws) n = is_told places w n || some_told ws n

  -- what the last that does gives the byte
  unfoldable last_byte : List Wrote → ℕ → ℕ
  last_byte [] n = 0
  last_byte (w ∷ ws) n = pick (some_told ws n) (last_byte ws n) (byte w.number (n % 2))

  each_byte : (ws : List Wrote) (entries : List ℕ) (n : ℕ) → n < length entries
      → get_or (stamped_by entries places ws) n 0 ≡ pick (some_told ws n) (last_byte ws n) (get_or entries n 0)
  unfolding stamped_by some_told last_byte pick
  each_byte [] entries n h = refl
  each_byte (w ∷ ws) entries n h =
      each_byte ws (stamped entries places w) n (rw (length_stamped places w 0 entries) h)
      ∙ ap (λ (b : ℕ). pick (some_told ws n) (last_byte ws n) b) (byte_stamped places w entries n h)
      ∙ pick_inside (is_told places w n) (some_told ws n) (last_byte ws n) (byte w.number (n % 2)) (get_or entries n 0)

  -- it does where it tells of the bit, and the byte is one of a chosen word
  in_both : (l a b : Bool) → ((l && a) || (l && b)) ≡ (l && (a || b))
  in_both true a b = refl
  in_both false a b = refl

  told_some : (ws : List Wrote) (n : ℕ) → some_told ws n ≡ (ltb (n / 64) (length places) && some_tell ws (told_bit places n))
  unfolding some_told is_told some_tell
  told_some [] n = sym (and-false (ltb (n / 64) (length places)))
  told_some (w ∷ ws) n =
      ap (λ (t : Bool). (ltb (n / 64) (length places) && tells w (told_bit places n)) || t) (told_some ws n)
      ∙ in_both (ltb (n / 64) (length places)) (tells w (told_bit places n)) (some_tell ws (told_bit places n))

  pub covered : (vs ws : List Wrote) (entries : List ℕ) → ((p : ℕ) → some_tell vs p ≡ true → some_tell ws p ≡ true)
      → stamped_by (stamped_by entries places vs) places ws ≡ stamped_by entries places ws
  covered vs ws entries covers =
      let kept = by_length entries places vs in
      let long = by_length (stamped_by entries places vs) places ws in
      ext_get_or 0 _ _ (long ∙ kept ∙ sym (by_length entries places ws)) (λ n h.
      let lies : n < length (stamped_by entries places vs) = rw (← long) h in
      let first : n < length entries = rw (← kept) lies in
      each_byte ws (stamped_by entries places vs) n lies
      ∙ ap (λ (b : ℕ). pick (some_told ws n) (last_byte ws n) b) (each_byte vs entries n first)
      ∙ pick_over (some_told vs n) (some_told ws n) _ _ _ (told_covered n)
      ∙ sym (each_byte ws entries n first))
    where
      told_covered : (n : ℕ) → some_told vs n ≡ true → some_told ws n ≡ true
      told_covered n e =
          let parts = both (ltb (n / 64) (length places)) (some_tell vs (told_bit places n)) (sym (told_some vs n) ∙ e) in
          told_some ws n ∙ ap₂ ◌&&◌ parts.0 (covers (told_bit places n) parts.1)

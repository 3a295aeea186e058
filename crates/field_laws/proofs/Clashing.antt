-- Clashes: a release, a name or a bit that two lines share is seen by the tests, and where the tests hold there is one. By the parts of each test.
use Prim.Native.Nat.{ℕ, ◌%◌, ◌≤◌, max}
use mathlib.Core.Bool.{Bool, true, false, ◌&&◌, ◌||◌, true≢false}
use mathlib.Core.Path.{◌≡◌, refl, sym, ap₂, ◌∙◌}
use native.Mathlib.Omega.{arith}
use borrow.Author.Tests.{leb-true, le-leb, eqb-true, eq-eqb}
use lib.Dec.{eqb, leb}
use Rattle.words.proofs.Choice.{by_test, both}
use Rattle.field_lines.specs.rules.Clashes.{lasts, in_force, has_bit, share_release, share_bit, clash}
use Rattle.field_lines.specs.rules.Lines.{in_order}
use Rattle.field_lines.specs.rules.Text.{same}
use Rattle.field_lines.specs.declared.FieldLine.{FieldLine}
use Rattle.field_lines.proofs.SameBytes.{same_equal, same_refl}
use Rattle.field_register.specs.rules.Questions.{is_about, answers}
use Rattle.field_register.specs.declared.Subject.{Subject}
use Rattle.field_register.specs.declared.Subject.TheVariants.{Name, Bit}
use Rattle.field_laws.specs.claims.Meanings.{ClashMeans}

-- one of two: the first, or else the second
pub or_first : (a b : Bool) → a ≡ true → (a || b) ≡ true
or_first true b e = refl
or_first false b e = absurd (true≢false (sym e))

pub or_second : (a b : Bool) → b ≡ true → (a || b) ≡ true
or_second true b e = refl
or_second false b e = e

pub or_else : (a b : Bool) → (a || b) ≡ true → a ≡ false → b ≡ true
or_else true b e none = absurd (true≢false none)
or_else false b e none = e

-- a line that lasts to a release lasts to every one before it
pub lasts_before : (l : FieldLine) (r q : ℕ) → q ≤ r → lasts l r ≡ true → lasts l q ≡ true
unfolding lasts
lasts_before l r q h e =
    by_test (eqb l.until 0) (λ endless. or_first (eqb l.until 0) _ endless)
    (λ ends.
    let x : r ≤ l.until = leb-true _ _ (or_else (eqb l.until 0) (leb r l.until) e ends) in
    or_second (eqb l.until 0) _ (le-leb q l.until (omega arith)))

pub record InForce (l : FieldLine) (r : ℕ) : Type 0 where
  pub since : l.since ≤ r
  pub on : lasts l r ≡ true

pub in-force : (l : FieldLine) (r : ℕ) → in_force l r ≡ true → InForce l r
unfolding in_force
in-force l r e = let parts = both (leb l.since r) _ e in record { since = leb-true _ _ parts.0; on = parts.1 }

pub is_in_force : (l : FieldLine) (r : ℕ) → l.since ≤ r → lasts l r ≡ true → in_force l r ≡ true
unfolding in_force
is_in_force l r h on = ap₂ ◌&&◌ (le-leb _ _ h) on

pub record HasBit (l : FieldLine) (word bit : ℕ) : Type 0 where
  pub word_is : l.word ≡ word
  pub from : l.start ≤ bit
  pub to : bit ≤ l.stop

pub has-bit : (l : FieldLine) (word bit : ℕ) → has_bit l word bit ≡ true → HasBit l word bit
unfolding has_bit
has-bit l word bit e =
    let parts = both (eqb l.word word && leb l.start bit) _ e in
    let front = both (eqb l.word word) _ parts.0 in
    record { word_is = eqb-true _ _ front.0; from = leb-true _ _ front.1; to = leb-true _ _ parts.1 }

pub is_bit : (l : FieldLine) (word bit : ℕ) → l.word ≡ word → l.start ≤ bit → bit ≤ l.stop → has_bit l word bit ≡ true
unfolding has_bit
is_bit l word bit e low high = ap₂ ◌&&◌ (ap₂ ◌&&◌ (eq-eqb _ _ e) (le-leb _ _ low)) (le-leb _ _ high)

module _ (a b : FieldLine) where
  share-release : (r : ℕ) → in_force a r ≡ true → in_force b r ≡ true → share_release a b ≡ true
  unfolding share_release
  share-release r e f =
      let x = in-force a r e in
      let y = in-force b r f in
      ap₂ ◌&&◌ (lasts_before a r b.since y.since x.on) (lasts_before b r a.since x.since y.on)

  clash_name : (r : ℕ) → in_force a r ≡ true → in_force b r ≡ true → same a.name b.name ≡ true → clash a b ≡ true
  unfolding clash
  clash_name r e f n = ap₂ ◌&&◌ (share-release r e f) (or_first _ _ n)

  clash_bit : (r word bit : ℕ) → in_force a r ≡ true → in_force b r ≡ true → has_bit a word bit ≡ true → has_bit b word bit ≡ true → clash a b ≡ true
  unfolding clash share_bit
  clash_bit r word bit e f g h =
      let x = has-bit a word bit g in
      let y = has-bit b word bit h in
      ap₂ ◌&&◌ (share-release r e f)
      (or_second (same a.name b.name) _ (ap₂ ◌&&◌ (ap₂ ◌&&◌ (eq-eqb _ _ (x.word_is ∙ sym y.word_is)) (le-leb a.start b.stop (omega arith)))
      (le-leb b.start a.stop (omega arith))))

  -- two lines that answer one question in one release clash
  pub both_answer : (s : Subject) (r : ℕ) → answers s r a ≡ true → answers s r b ≡ true → clash a b ≡ true
  unfolding answers is_about
  both_answer (Name name) r e f =
      let x = both (same a.name name) _ e in
      let y = both (same b.name name) _ f in
      clash_name r x.1 y.1 (rw (same_equal a.name name x.0, same_equal b.name name y.0) (same_refl name))
  both_answer (Bit word bit) r e f =
      let x = both (has_bit a word bit) _ e in
      let y = both (has_bit b word bit) _ f in
      clash_bit r word bit x.1 y.1 x.0 y.0

  record Clashing : Type 0 where
    pub a_lasts : lasts a b.since ≡ true
    pub b_lasts : lasts b a.since ≡ true
    pub shared : (same a.name b.name || share_bit a b) ≡ true

  clashing : clash a b ≡ true → Clashing
  unfolding clash share_release
  clashing e =
      let parts = both (lasts a b.since && lasts b a.since) _ e in
      let releases = both (lasts a b.since) _ parts.0 in
      record { a_lasts = releases.0; b_lasts = releases.1; shared = parts.1 }

-- a line in order lasts to its own first release
own : (l : FieldLine) → in_order l ≡ true → lasts l l.since ≡ true
unfolding in_order lasts
own l e = (both (eqb (l.word % 4) 0 && leb l.start l.stop) _ e).1

starts : (l : FieldLine) → in_order l ≡ true → l.start ≤ l.stop
unfolding in_order
starts l e = leb-true _ _ (both (eqb (l.word % 4) 0) _ (both (eqb (l.word % 4) 0 && leb l.start l.stop) _ e).0).1

-- what lasts to two releases lasts to the later
lasts_max : (l : FieldLine) (q r : ℕ) → lasts l q ≡ true → lasts l r ≡ true → lasts l (max q r) ≡ true
unfolding lasts
lasts_max l q r e f =
    by_test (eqb l.until 0) (λ endless. or_first (eqb l.until 0) _ endless)
    (λ ends.
    let x : q ≤ l.until = leb-true _ _ (or_else (eqb l.until 0) (leb q l.until) e ends) in
    let y : r ≤ l.until = leb-true _ _ (or_else (eqb l.until 0) (leb r l.until) f ends) in
    or_second (eqb l.until 0) _ (le-leb (max q r) l.until (omega arith)))

pub clash_means : ClashMeans
unfolding share_bit
clash_means =
    record {
      by_name = clash_name;
      by_bit = clash_bit;
      only_release = λ a b oa ob e.
          let c = clashing a b e in (
            is_in_force a _ (omega arith) (lasts_max a a.since b.since (own a oa) c.a_lasts),
            is_in_force b _ (omega arith) (lasts_max b a.since b.since c.b_lasts (own b ob)),
          );
      only_bit = λ a b oa ob e differ.
          let c = clashing a b e in
          let bits = both (eqb a.word b.word && leb a.start b.stop) _ (or_else (same a.name b.name) (share_bit a b) c.shared differ) in
          let front = both (eqb a.word b.word) _ bits.0 in
          let word : a.word ≡ b.word = eqb-true _ _ front.0 in
          let low : a.start ≤ b.stop = leb-true _ _ front.1 in
          let high : b.start ≤ a.stop = leb-true _ _ bits.1 in
          let x = starts a oa in
          let y = starts b ob in (
            is_bit a a.word _ refl (omega arith) (omega arith),
            is_bit b a.word _ (sym word) (omega arith) (omega arith),
          );
    }

-- What a history says of a bit: by induction over it, a command goes on from what was there before. One stamp is one such step, and so is one effect on
-- memory, so entries and memory are what the history says.
use Prim.Native.Nat.{ℕ, ◌+◌, ◌*◌, ◌≤◌, ◌<◌}
use mathlib.Core.Bool.{Bool, true, false, ◌||◌, or-false, or_assoc, true≢false}
use mathlib.Core.List.{List, [], ◌∷◌, ◌++◌}
use mathlib.Core.Path.{◌≡◌, refl, sym, ap, ap₂, ◌∙◌}
use native.Mathlib.Omega.{arith}
use borrow.Author.Tests.{ltb-true}
use lib.Dec.{ltb}
use lib.ListN.{length, replicate, length-replicate, get_or-replicate}
use Rattle.words.specs.rules.Bits.{within, join}
use Rattle.words.specs.rules.Bytes.{number, bit_at, AreBytes}
use Rattle.words.specs.rules.Choice.{pick}
use Rattle.words.proofs.Choice.{chosen, passed, by_test, both, neither}
use Rattle.commands.specs.rules.Wrote.{first_bit}
use Rattle.law_effects.specs.claims.Effects.{writes, becomes, some_writes}
use Rattle.law_effects.proofs.Effects.{same_bits}
use Rattle.bit_stamps.specs.rules.Stamps.{stamped, entry_at}
use Rattle.bit_stamps.proofs.Laws.{stamp_laws}
use Rattle.bit_history.specs.claims.History.{Numbered, any_writes, last_of, last_number, wrote_by, stamped_all, numbers_fit, chosen_bit, LeftBy, LastWriter}
use Rattle.bit_history.specs.claims.History.{HistoryLaws}

-- a test that holds, where its second part does not
first_part : (s d : Bool) → (s || d) ≡ true → d ≡ false → s ≡ true
first_part s d e none = sym (or-false s) ∙ ap (λ (t : Bool). s || t) (sym none) ∙ e

-- a bit is written by one of two histories
pub some_after : (earlier later : List Numbered) (p : ℕ) → any_writes (earlier ++ later) p ≡ (any_writes earlier p || any_writes later p)
unfolding some_writes
some_after [] later p = refl
some_after (c ∷ cs) later p =
    ap (λ (t : Bool). writes c.effect p || t) (some_after cs later p) ∙ sym (or_assoc (writes c.effect p) (any_writes cs p) (any_writes later p))

module _ (reads : Numbered → ℕ) where
  pub no_one_law : (history : List Numbered) (p was : ℕ) → any_writes history p ≡ false → last_of reads history p was ≡ was
  unfolding some_writes last_of
  no_one_law [] p was e = refl
  no_one_law (c ∷ cs) p was e =
      let apart = neither (writes c.effect p) (any_writes cs p) e in
      passed _ _ _ apart.1 ∙ passed _ _ _ apart.0

  -- where some command writes the bit, nothing depends on what it was
  pub some_one : (history : List Numbered) (p was other : ℕ) → any_writes history p ≡ true → last_of reads history p was ≡ last_of reads history p other
  unfolding some_writes last_of
  some_one [] p was other e = absurd (true≢false (sym e))
  some_one (c ∷ cs) p was other e =
      by_test (any_writes cs p)
      (λ t. chosen _ _ _ t ∙ some_one cs p was other t ∙ sym (chosen _ _ _ t))
      (λ f.
      let first : writes c.effect p ≡ true = first_part (writes c.effect p) (any_writes cs p) e f in
      passed _ _ _ f ∙ chosen _ _ _ first ∙ sym (passed _ _ _ f ∙ chosen _ _ _ first))

  -- the first command, and the others after it
  pub first_law : (c : Numbered) (cs : List Numbered) (p was : ℕ)
      → last_of reads (c ∷ cs) p was ≡ last_of reads cs p (pick (writes c.effect p) (reads c) was)
  unfolding last_of
  first_law c cs p was =
      by_test (any_writes cs p) (λ t. chosen _ _ _ t ∙ some_one cs p was _ t) (λ f. passed _ _ _ f ∙ sym (no_one_law cs p _ f))

  after_law : (earlier later : List Numbered) (p was : ℕ) → last_of reads (earlier ++ later) p was ≡ last_of reads later p (last_of reads earlier p was)
  unfolding last_of
  after_law [] later p was = refl
  after_law (c ∷ cs) later p was =
      first_law c (cs ++ later) p was ∙ after_law cs later p _ ∙ ap (last_of reads later p) (sym (first_law c cs p was))

  last_law : (before after : List Numbered) (c : Numbered) (p was : ℕ) → writes c.effect p ≡ true → any_writes after p ≡ false
      → last_of reads (before ++ (c ∷ after)) p was ≡ reads c
  unfolding last_of
  last_law [] after c p was e none = passed _ _ _ none ∙ chosen _ _ _ e
  last_law (b ∷ before) after c p was e none = first_law b (before ++ (c ∷ after)) p was ∙ last_law before after c p _ e none

  trace_law : (before abandoned after : List Numbered) (p was : ℕ) → (any_writes abandoned p ≡ true → any_writes after p ≡ true)
      → last_of reads (before ++ (abandoned ++ after)) p was ≡ last_of reads (before ++ after) p was
  trace_law before abandoned after p was covered =
      let x : ℕ = last_of reads before p was in
      after_law before (abandoned ++ after) p was ∙ after_law abandoned after p x
      ∙ by_test (any_writes after p)
      (λ t. some_one after p (last_of reads abandoned p x) x t)
      (λ f.
      let none : any_writes abandoned p ≡ false =
      by_test (any_writes abandoned p) (λ t. absurd (true≢false (sym (covered t) ∙ f))) (λ e. e) in
      ap (last_of reads after p) (no_one_law abandoned p x none))
      ∙ sym (after_law before after p was)

writer_law : (history : List Numbered) (p : ℕ) → any_writes history p ≡ true → LastWriter history p
unfolding some_writes
writer_law [] p e = absurd (true≢false (sym e))
writer_law (c ∷ cs) p e =
    by_test (any_writes cs p)
    (λ t.
    let found = writer_law cs p t in
    record {
      before = c ∷ found.before;
      writer = found.writer;
      after = found.after;
      stands = ap (λ (l : List Numbered). c ∷ l) found.stands;
      written = found.written;
      last = found.last;
    })
    (λ f.
    record { before = []; writer = c; after = cs; stands = refl; written = first_part (writes c.effect p) (any_writes cs p) e f; last = f })

-- memory, by its bits
left_law : (earlier later : List Numbered) (first middle last : List ℕ) → LeftBy earlier first middle → LeftBy later middle last
    → LeftBy (earlier ++ later) first last
left_law earlier later first middle last before after =
    record {
      same_length = after.same_length ∙ before.same_length;
      each_bit = λ p h.
          let reads : Numbered → ℕ = λ c. becomes c.effect p in
          after.each_bit p (omega (arith, h, before.same_length)) ∙ ap (last_of reads later p) (before.each_bit p h)
          ∙ sym (after_law reads earlier later p (bit_at first p));
    }

memory_law : (history : List Numbered) (m left other : List ℕ) → AreBytes left → AreBytes other → LeftBy history m left → LeftBy history m other
    → left ≡ other
memory_law history m left other l o one two =
    same_bits left other (one.same_length ∙ sym two.same_length) l o
    (λ p h.
    let in-first : p < 8 * length m = omega (arith, h, one.same_length) in
    one.each_bit p in-first ∙ sym (two.each_bit p in-first))

on_law : (entries places : List ℕ) (earlier later : List Numbered)
    → stamped_all entries places (earlier ++ later) ≡ stamped_all (stamped_all entries places earlier) places later
unfolding stamped_all
on_law entries places [] later = refl
on_law entries places (c ∷ cs) later = on_law (stamped entries places (wrote_by c)) places cs later

length_law : (entries places : List ℕ) (history : List Numbered) → length (stamped_all entries places history) ≡ length entries
unfolding stamped_all
length_law entries places [] = refl
length_law entries places (c ∷ cs) =
    length_law (stamped entries places (wrote_by c)) places cs ∙ (stamp_laws entries places).same_length (wrote_by c)

told_on_law : (entries places : List ℕ) (history : List Numbered) → numbers_fit history ≡ true → 64 * length places ≤ length entries
    → (j k : ℕ) → j < length places → k < 32
    → entry_at (stamped_all entries places history) j k ≡ last_of (λ c. c.number) history (chosen_bit places j k) (entry_at entries j k)
unfolding stamped_all last_of numbers_fit
told_on_law entries places [] fit long j k h l = refl
told_on_law entries places (c ∷ cs) fit long j k h l =
    let parts = both (ltb c.number 65536) (numbers_fit cs) fit in
    let laws = stamp_laws entries places in
    let p : ℕ = chosen_bit places j k in
    let first : first_bit (wrote_by c) ≡ c.effect.first = omega arith in
    let still : 64 * length places ≤ length (stamped entries places (wrote_by c)) = rw (laws.same_length (wrote_by c)) long in
    told_on_law (stamped entries places (wrote_by c)) places cs parts.1 still j k h l
    ∙ ap (last_of (λ c. c.number) cs p)
    (laws.each_entry (wrote_by c) j k (ltb-true _ _ parts.0) h l long
    ∙ ap (λ (b : ℕ). pick (within b c.effect.count p) c.number (entry_at entries j k)) first)
    ∙ sym (first_law (λ c. c.number) c cs p (entry_at entries j k))

-- entries that are all 0
zero_entry : (n j k : ℕ) → 64 * j + 2 * k + 1 < n → entry_at (replicate n 0) j k ≡ 0
unfolding entry_at number join
zero_entry n j k h =
    ap₂ (λ (a b : ℕ). number (a ∷ b ∷ [])) (get_or-replicate n (64 * j + 2 * k) 0 0 (omega arith)) (get_or-replicate n (64 * j + 2 * k + 1) 0 0 h)

told_law : (places : List ℕ) (history : List Numbered) → numbers_fit history ≡ true → (j k : ℕ) → j < length places → k < 32
    → entry_at (stamped_all (replicate (64 * length places) 0) places history) j k ≡ last_number history (chosen_bit places j k)
told_law places history fit j k h l =
    let zeros : List ℕ = replicate (64 * length places) 0 in
    let size : 64 * length places ≤ length zeros = rw length-replicate (omega arith) in
    told_on_law zeros places history fit size j k h l
    ∙ ap (last_of (λ c. c.number) history (chosen_bit places j k)) (zero_entry (64 * length places) j k (omega arith))

pub history_laws : HistoryLaws
history_laws = record {
  there_is_one = writer_law;
  last_one = last_law;
  no_one = no_one_law;
  one_after_other = after_law;
  no_trace = trace_law;
  left_on = left_law;
  one_memory = memory_law;
  stamped_on = on_law;
  same_length = length_law;
  told = told_law;
  told_on = told_on_law;
}

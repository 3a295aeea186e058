-- What feeding the units that are left leads to: each turn of the loops leads to the same end as before it.
use Prim.Native.Nat.{ℕ, suc, ◌+◌, ◌*◌, ◌^◌, ◌≤◌, ◌<◌}
use mathlib.Core.List.{List, [], ◌∷◌, ◌++◌}
use mathlib.Core.Path.{◌≡◌, refl, sym, ap, ◌∙◌}
use native.Mathlib.Nat.{add-zero, zero-add, add_assoc}
use native.Mathlib.Numerals.{add-one}
use native.Mathlib.Omega.{arith}
use lib.Dec.{eqb}
use borrow.Author.Tests.{eqb-true}
use lib.ListN.{length, get_or, set, drop, length-append}
use lib.Seq.{sets, sets-eq, drop-cons, drop-length}
use Rattle.words.proofs.Choice.{chosen, passed, by_test}
use Rattle.opcodes.specs.rules.Answers.{code_of}
use Rattle.sent.specs.rules.Feeding.{State, Heard, heard, fed, answers, replied, first_of, first_refused}
use Rattle.sent.specs.rules.Line.{unit_step}
use Rattle.machine_answers.specs.rules.Replies.{sent_bytes}
use Rattle.sent.specs.declared.Answer.{Answer}
use Rattle.sent.specs.declared.Bus.{Bus}
use Rattle.machine_answers.specs.declared.Reply.{Reply}
use Rattle.sent.specs.declared.Session.{Session}
use Rattle.bit_watch.specs.rules.Watched.{unit_entries, entries_after}
use Rattle.bench_sessions.specs.rules.Feeding.{opening_room, unit_room, fed_from}
use Rattle.bench_sessions.specs.rules.Numbers.{watched, watched_fed}
use Rattle.bench_sessions.proofs.Fitting.{nothing_held, replies_fit}

-- storing one list and then another behind it
sets_append : (a b l : List ℕ) (i : ℕ) → sets l i (a ++ b) ≡ sets (sets l i a) (i + length a) b
sets_append [] b l i = ap (λ (k : ℕ). sets l k b) (sym (add-zero i))
sets_append (x ∷ a) b l i =
    let same : suc i + length a ≡ i + suc (length a) = omega arith in
    sets_append a b (set l i x) (suc i) ∙ ap (λ (k : ℕ). sets (sets (set l i x) (suc i) a) k b) same

-- the first of three refusals, from either end
first_first : (a b c : ℕ) → first_of a (first_of b c) ≡ first_of (first_of a b) c
unfolding first_of
first_first a b c =
    by_test (eqb a 0)
    (λ e. chosen _ _ _ e ∙ ap (λ (x : ℕ). first_of x c) (sym (chosen _ _ _ e)))
    (λ e. passed _ _ _ e ∙ sym (ap (λ (x : ℕ). first_of x c) (passed _ _ _ e) ∙ passed _ _ _ e))

first_none : (a : ℕ) → first_of a 0 ≡ a
unfolding first_of
first_none a = by_test (eqb a 0) (λ e. chosen _ _ _ e ∙ sym (eqb-true _ _ e)) (λ e. passed _ _ _ e)

none_first : (a : ℕ) → first_of 0 a ≡ a
unfolding first_of
none_first a = chosen _ _ _ refl

-- one byte of a reply stored, and those after it left to store
pub byte_turn : (room : List ℕ) (at : ℕ) (bytes : List ℕ) (i : ℕ) → i < length bytes
    → sets (set room (at + i) (get_or bytes i 0)) (at + (i + 1)) (drop (i + 1) bytes) ≡ sets room (at + i) (drop i bytes)
byte_turn room at bytes i inside =
    let next : at + (i + 1) ≡ suc (at + i) = omega arith in
    rw (next, add-one, drop-cons bytes i 0 inside)

-- no byte left to store
pub all_stored : (room : List ℕ) (at i : ℕ) (bytes : List ℕ) → i ≡ length bytes → sets room at (drop i bytes) ≡ room
all_stored room at i bytes e = rw (e, drop-length)

-- two that agree in all parts
all_same : {value value₁ : ℕ} {m m₁ numbers numbers₁ room room₁ : List ℕ} → value ≡ value₁ → m ≡ m₁ → numbers ≡ numbers₁ → room ≡ room₁
    → watched value m numbers room ≡ watched value₁ m₁ numbers₁ room₁
all_same e f g h = rw (e, f, g, h) refl

-- where a loop ends: the room, the count of bytes laid down in it, the first refusal, the memory and the numbers
pub record End : Type 0 where
  pub room : List ℕ
  pub count : ℕ
  pub refusal : ℕ
  pub memory : List ℕ
  pub numbers : List ℕ

-- what is heard laid down from where the loop stands
unfoldable pub reached : List ℕ → ℕ → ℕ → List Heard → List ℕ → List ℕ → End
reached room count first heard memory numbers =
    record {
      room = sets room count (replied heard);
      count = count + length (replied heard);
      refusal = first_of first (first_refused heard);
      memory = memory;
      numbers = numbers;
    }

-- where the units that are left lead
abbrev pub leads : Bus → List ℕ → State → List ℕ → List ℕ → ℕ → ℕ → List ℕ → End
leads bus places x units room count first numbers =
    reached room count first (answers bus x units) (fed bus x units).memory (entries_after bus places numbers x units)

module _ (room : List ℕ) (count first : ℕ) where
  -- an answer laid down, and what is left after it
  answered : (h : Heard) (hs : List Heard) (m numbers : List ℕ)
      → reached (sets room count (sent_bytes h.reply)) (count + length (sent_bytes h.reply)) (first_of first (code_of h.refusal)) hs m numbers
      ≡ reached room count first (h ∷ hs) m numbers
  unfolding reached replied first_refused
  answered h hs m numbers =
      let a = sent_bytes h.reply in
      let b = replied hs in
      rw (sets_append a b room count, length-append a b, first_first first (code_of h.refusal) (first_refused hs), add_assoc count (length a) (length b))

  -- a unit fed
  pub fed_turn : (bus : Bus) (places : List ℕ) (s : Session) (m numbers units : List ℕ) (i : ℕ) {a : Answer} {after given laid : List ℕ} {at next : ℕ}
      → i < length units
      → a ≡ (unit_step bus s m (get_or units i 0)).answer → after ≡ (unit_step bus s m (get_or units i 0)).memory
      → given ≡ unit_entries places numbers bus s m (get_or units i 0)
      → laid ≡ sets room count (sent_bytes a.reply) → at ≡ count + length (sent_bytes a.reply) → next ≡ first_of first (code_of a.refusal)
      → leads bus places (record { session = a.session; memory = after }) (drop (i + 1) units) laid at next given
      ≡ leads bus places (record { session = s; memory = m }) (drop i units) room count first numbers
  unfolding fed answers entries_after
  fed_turn bus places s m numbers units i h e f g l t n =
      rw (l, t, n, g, f, e, add-one, drop-cons units i 0 h) (answered (heard bus (record { session = s; memory = m }) (get_or units i 0)) _ _ _)

-- the end of a whole session, with the opening's reply laid down before it
module _ (bus : Bus) (places room₀ : List ℕ) (x₀ : State) (opening : Reply) (numbers₀ units : List ℕ) (idle : x₀.session.line.have ≡ 0)
    (short : length (sent_bytes opening) ≤ opening_room bus) (roomy : opening_room bus + unit_room bus * length units ≤ length room₀) where
  pub delivers : (x : State) (room : List ℕ) (count first : ℕ) (numbers : List ℕ) (i : ℕ) {value : ℕ} → i ≡ length units
      → leads bus places x (drop i units) room count first numbers
      ≡ leads bus places x₀ units (sets room₀ 0 (sent_bytes opening)) (0 + length (sent_bytes opening)) 0 numbers₀
      → value ≡ first * 2 ^ 32 + count
      → watched value x.memory numbers room ≡ watched_fed bus opening x₀ units places numbers₀ room₀
  unfolding reached fed answers entries_after replied first_refused fed_from
  delivers x room count first numbers i {value} end led given =
      let greeting : List ℕ = sent_bytes opening in
      let heard = answers bus x₀ units in
      let replies = replied heard in
      let same = rw (end, drop-length) at led in
      let long : length (greeting ++ replies) ≡ length greeting + length replies = length-append greeting replies in
      let held : unit_room bus * x₀.session.line.have ≡ 0 = rw idle (nothing_held bus) in
      let fits : 0 + length (greeting ++ replies) ≤ length room₀ = omega (arith, replies_fit bus x₀ units, held) in
      let sum : count + 0 ≡ 0 + length greeting + length replies = ap (λ (e : End). e.count) same in
      let refused : first ≡ first_refused heard = sym (first_none first) ∙ ap (λ (e : End). e.refusal) same ∙ none_first _ in
      let whole : value ≡ first_refused heard * 2 ^ 32 + length (greeting ++ replies) = omega arith in
      let laid : room ≡ (greeting ++ replies) ++ drop (length (greeting ++ replies)) room₀ =
      ap (λ (e : End). e.room) same ∙ sym (sets_append greeting replies room₀ 0) ∙ sets-eq (greeting ++ replies) room₀ 0 fits
      ∙ ap (λ (k : ℕ). (greeting ++ replies) ++ drop k room₀) (zero-add (length (greeting ++ replies))) in
      all_same whole (ap (λ (e : End). e.memory) same) (ap (λ (e : End). e.numbers) same) laid

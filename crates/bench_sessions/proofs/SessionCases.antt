-- What a sent session comes to, on either line, by the facts that its opening asks. Each law takes the tests one after the other.
use Prim.Native.Nat.{ℕ, ◌+◌, ◌*◌, ◌/◌, ◌%◌, ◌^◌, ◌≤◌, ◌<◌}
use mathlib.Core.Bool.{true, false, not, ◌&&◌}
use mathlib.Core.List.{List}
use mathlib.Core.Logic.{◌≢◌}
use mathlib.Core.Path.{◌≡◌, refl, sym, ap, ◌∙◌}
use native.Mathlib.Omega.{arith}
use lib.Dec.{eqb, leb}
use lib.ListN.{length}
use borrow.Author.Tests.{eq-eqb, ne_eqb, leb-true, lt-ltb, le-ltb}
use Rattle.words.proofs.Choice.{chosen, passed, both}
use Rattle.windows.specs.rules.Window.{sum_of}
use Rattle.opcodes.specs.rules.Answers.{code_of}
use Rattle.opcodes.specs.declared.Dialect.{Dialect}
use Rattle.opcodes.specs.rules.Refusals.{Verdict}
use Rattle.opcodes.specs.rules.Refusals as refusal
use Rattle.sent.proofs.Units.{halves_count}
use Rattle.sent.specs.rules.Bus.{units_fed}
use Rattle.sent.specs.declared.Bus.{Bus}
use Rattle.sent.specs.declared.Bus.TheVariants.{Bytes, Halves}
use Rattle.sent.specs.declared.Opened.{Opened}
use Rattle.bit_choice.specs.rules.Chosen.{chosen_places}
use Rattle.bit_choice.specs.declared.Choice.{Choice}
use Rattle.bench_sessions.specs.rules.Feeding.{
  unfed,
  unit_bytes,
  most_fed,
  opening_room,
  unit_room,
  roomy,
  refused_before,
  begun,
  session_from,
  sent_session,
  line_session,
}
use Rattle.bench_sessions.specs.rules.Numbers.{
  watched,
  unwatched,
  watched_fed,
  cleared,
  numbers_from,
  session_watched,
  choice_on,
  barred,
  watched_from,
  line_of,
  numbered_opening,
  bits_session,
}

-- how many units lent bytes are
pub units_count : (bus : Bus) (bytes : List ℕ) → length (units_fed bus bytes) ≡ length bytes / unit_bytes bus
units_count Bytes bytes = omega arith
units_count Halves bytes = halves_count bytes

-- the room is long enough, and no more units are fed than may be
pub has_room : (bus : Bus) (bytes : List ℕ) (room : ℕ) → roomy bus (length bytes) room ≡ true
    → (length (units_fed bus bytes) ≤ most_fed) × (opening_room bus + unit_room bus * length (units_fed bus bytes) ≤ room)
unfolding roomy
has_room bus bytes room e =
    let whole = eqb (length bytes % unit_bytes bus) 0 in
    let few = leb (length bytes / unit_bytes bus) most_fed in
    let fits = leb (opening_room bus + unit_room bus * (length bytes / unit_bytes bus)) room in
    let parts = both few fits (both whole (few && fits) e).1 in
    rw (units_count bus bytes) ((leb-true _ _ parts.0, leb-true _ _ parts.1))

-- why a session does not begin, by its opening and the lengths lent
module _ (bus : Bus) (o : Opened) (memory lent room : ℕ) where
  pub before_opening : code_of o.refusal ≢ 0 → refused_before bus o memory lent room ≡ o.refusal
  unfolding refused_before
  before_opening e = chosen _ _ _ (ap not (ne_eqb _ _ e))

  module _ (opened : code_of o.refusal ≡ 0) where
    pub before_memory : memory ≢ sum_of o.session.core.windows → refused_before bus o memory lent room ≡ refusal.Memory
    unfolding refused_before
    before_memory e = passed _ _ _ (ap not (eq-eqb _ _ opened)) ∙ chosen _ _ _ (ap not (ne_eqb _ _ e))

    module _ (held : memory ≡ sum_of o.session.core.windows) where
      pub before_narrow : roomy bus lent room ≡ false → refused_before bus o memory lent room ≡ refusal.Call
      unfolding refused_before
      before_narrow e = passed _ _ _ (ap not (eq-eqb _ _ opened)) ∙ passed _ _ _ (ap not (eq-eqb _ _ held)) ∙ chosen _ _ _ (ap not e)

      pub before_none : roomy bus lent room ≡ true → refused_before bus o memory lent room ≡ refusal.None
      unfolding refused_before
      before_none e = passed _ _ _ (ap not (eq-eqb _ _ opened)) ∙ passed _ _ _ (ap not (eq-eqb _ _ held)) ∙ passed _ _ _ (ap not e)

-- a session from its opening, with numbers: refused before anything is fed, or fed with the numbers cleared
module _ (bus : Bus) (o : Opened) (places m numbers bytes room : List ℕ) where
  abbrev why : Verdict
  why = refused_before bus o (length m) (length bytes) (length room)

  pub from_refused : {q : Verdict} {value : ℕ} → why ≡ q → code_of q ≢ 0 → value ≡ code_of q * 2 ^ 32
      → watched value m numbers room ≡ session_watched bus o places m numbers bytes room
  unfolding session_from numbers_from
  from_refused w never e =
      let none = ne_eqb _ _ (λ z. never (sym (ap (λ (q : Verdict). code_of q) w) ∙ z)) in
      rw (passed _ _ _ none, passed _ _ _ none, w, e) refl

  pub from_fed : why ≡ refusal.None
      → watched_fed bus o.reply (begun o m) (units_fed bus bytes) places (cleared numbers) room ≡ session_watched bus o places m numbers bytes room
  unfolding session_from numbers_from
  from_fed w =
      let goes = eq-eqb _ _ (ap (λ (q : Verdict). code_of q) w) in
      rw (chosen _ _ _ goes, chosen _ _ _ goes) refl

-- a session with numbers from its opening and its choice: barred, or the session from its opening
module _ (bus : Bus) (o : Opened) (choice : Choice) (m numbers bytes room : List ℕ) {q : Verdict} {sum : ℕ}
    (asked : q ≡ barred o.refusal choice (length numbers) (length m) sum) (all : sum ≡ sum_of o.session.core.windows) where
  abbrev bar : Verdict
  bar = barred o.refusal choice (length numbers) (length m) (sum_of o.session.core.windows)

  same_code : code_of q ≡ code_of bar
  same_code = ap (λ (q : Verdict). code_of q) asked ∙ ap (λ (n : ℕ). code_of (barred o.refusal choice (length numbers) (length m) n)) all

  pub watched_barred : {value : ℕ} → code_of q ≢ 0 → value ≡ code_of q * 2 ^ 32 → watched value m numbers room ≡ watched_from bus o choice m numbers bytes room
  unfolding watched_from
  watched_barred never e =
      ap (λ (n : ℕ). watched n m numbers room) (e ∙ ap (λ (code : ℕ). code * 2 ^ 32) same_code)
      ∙ sym (chosen _ _ _ (ap not (ne_eqb _ _ (λ z. never (same_code ∙ z)))))

  pub watched_begun : code_of q ≡ 0 → session_watched bus o (chosen_places choice.chosen) m numbers bytes room ≡ watched_from bus o choice m numbers bytes room
  unfolding watched_from
  watched_begun e = sym (passed _ _ _ (ap not (eq-eqb _ _ (sym same_code ∙ e))))

-- the same by the numbers of its line and its dialect
module _ (line dialect : ℕ) (map listed m numbers bytes room : List ℕ) where
  pub bits_line : 1 < line → bits_session line dialect map listed m numbers bytes room ≡ unwatched refusal.Call m numbers room
  unfolding bits_session
  bits_line e = chosen _ _ _ (lt-ltb _ _ e)

  module _ (known : line ≤ 1) where
    pub bits_dialect : 1 < dialect → bits_session line dialect map listed m numbers bytes room ≡ unwatched refusal.Call m numbers room
    unfolding bits_session
    bits_dialect e = passed _ _ _ (le-ltb _ _ known) ∙ chosen _ _ _ (lt-ltb _ _ e)

    pub bits_watched : dialect ≤ 1
        → bits_session line dialect map listed m numbers bytes room
        ≡ watched_from (line_of line) (numbered_opening line dialect map) (choice_on map listed) m numbers bytes room
    unfolding bits_session
    bits_watched e = passed _ _ _ (le-ltb _ _ known) ∙ passed _ _ _ (le-ltb _ _ e)

-- a session on the line of a number
module _ (dialect : Dialect) (map m bytes room : List ℕ) (line : ℕ) where
  pub on_bytes : line ≡ 0 → line_session line dialect map m bytes room ≡ sent_session Bytes dialect map m bytes room
  unfolding line_session
  on_bytes e = chosen _ _ _ (eq-eqb _ _ e)

  pub on_halves : line ≢ 0 → line ≡ 1 → line_session line dialect map m bytes room ≡ sent_session Halves dialect map m bytes room
  unfolding line_session
  on_halves other e = passed _ _ _ (ne_eqb _ _ other) ∙ chosen _ _ _ (eq-eqb _ _ e)

  pub on_none : line ≢ 0 → line ≢ 1 → line_session line dialect map m bytes room ≡ unfed refusal.Call m room
  unfolding line_session
  on_none other e = passed _ _ _ (ne_eqb _ _ other) ∙ passed _ _ _ (ne_eqb _ _ e)

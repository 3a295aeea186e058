-- When a call feeds its units, and what it comes to then: each test that could stop it is passed, so that the result is that of its units fed. What stops it
-- before is 1, 2, 19 or 24, so that the number tells.
use Prim.Native.Nat.{ℕ, zero, suc, ◌*◌, ◌/◌, ◌^◌, ◌≤◌, ◌<◌}
use mathlib.Core.Bool.{Bool, true, false, not, true≢false, false≢true}
use mathlib.Core.List.{List, ◌++◌}
use mathlib.Core.Path.{◌≡◌, refl, sym, ap, ◌∙◌}
use native.Mathlib.Omega.{arith}
use lib.Dec.{eqb, ltb}
use lib.ListN.{length, length-append}
use borrow.Author.Tests.{eqb-false, ltb-true, ltb-false}
use Rattle.words.specs.rules.Choice.{pick}
use Rattle.words.proofs.Choice.{chosen, passed, by_test, of_choice}
use Rattle.windows.specs.rules.Map.{good_map}
use Rattle.windows.specs.rules.Window.{sum_of}
use Rattle.windows.specs.declared.Window.{Window}
use Rattle.opcodes.specs.rules.Answers.{accepted, code_of}
use Rattle.opcodes.specs.declared.Dialect.{Dialect}
use Rattle.opcodes.specs.rules.Refusals.{Verdict}
use Rattle.opcodes.specs.rules.Refusals as refusal
use Rattle.sent.specs.rules.Bus.{units_fed}
use Rattle.sent.specs.rules.Feeding.{answers, replied}
use Rattle.sent.specs.rules.Opening.{opened_by, numbering_from}
use Rattle.sent.specs.declared.Bus.{Bus}
use Rattle.sent.specs.declared.Opened.{Opened}
use Rattle.machine_answers.specs.rules.Replies.{sent_bytes}
use Rattle.bit_choice.specs.rules.Chosen.{good_choice, choice_of, chosen_places}
use Rattle.bit_choice.specs.declared.Choice.{Choice}
use Rattle.bit_watch.specs.rules.Watched.{entries_after}
use Rattle.bench_sessions.specs.rules.Feeding.{SessionOutcome, fed_from, roomy, refused_before, begun, opening_room, unit_room, session_from}
use Rattle.bench_sessions.specs.rules.Map.{windows_of, count_of}
use Rattle.bench_sessions.specs.rules.Numbers.{
  Watched,
  session_watched,
  numbers_from,
  choice_on,
  barred,
  watched_from,
  line_of,
  dialect_of,
  numbered_opening,
  bits_session,
  cleared,
}
use Rattle.bench_sessions.proofs.Fitting.{replies_fit, nothing_held, room_small, opened_idle, numbered_idle}
use Rattle.bench_sessions.proofs.SessionCases.{has_room, bits_line, bits_dialect, bits_watched, on_bytes, on_halves, on_none}
use Rattle.law_calls.specs.claims.Calls.{Call, plain, on_line, numbering, result_of, bus_of, opening_of, Feeds, refusal_in, is_before, FedByNumber}

-- what a session that begins has passed
pub record Passed (bus : Bus) (o : Opened) (memory lent room : ℕ) : Type 0 where
  pub opened : accepted o.refusal ≡ true
  pub held : eqb memory (sum_of o.session.core.windows) ≡ true
  pub wide : roomy bus lent room ≡ true

not-false : (t : Bool) → not t ≡ false → t ≡ true
not-false true e = refl
not-false false e = absurd (true≢false e)

not-true : (t : Bool) → not t ≡ true → t ≡ false
not-true true e = absurd (false≢true e)
not-true false e = refl

module _ (bus : Bus) (o : Opened) (memory lent room : ℕ) where
  record Goes (q : Verdict) : Type 0 where
    goes : accepted q ≡ true → Passed bus o memory lent room

  goes_on : Goes (refused_before bus o memory lent room)
  unfolding refused_before
  goes_on =
      of_choice Goes (not (accepted o.refusal)) {a = o.refusal}
      (λ no. record { goes = λ e. absurd (true≢false (sym e ∙ not-true (accepted o.refusal) no)) })
      (λ opened. of_choice Goes (not (eqb memory (sum_of o.session.core.windows))) {a = refusal.Memory} (λ no. record { goes = λ e. absurd (false≢true e) })
      (λ held. of_choice Goes (not (roomy bus lent room)) {a = refusal.Call} {b = refusal.None} (λ no. record { goes = λ e. absurd (false≢true e) })
      (λ wide. record { goes = λ e. record { opened = not-false _ opened; held = not-false _ held; wide = not-false _ wide } })))

  pub begins_passed : accepted (refused_before bus o memory lent room) ≡ true → Passed bus o memory lent room
  begins_passed e = goes_on.goes e

  pub passed_begins : Passed bus o memory lent room → accepted (refused_before bus o memory lent room) ≡ true
  unfolding refused_before
  passed_begins p =
      ap (λ (q : Verdict). accepted q)
      (passed _ _ _ (ap not p.opened) ∙ passed _ _ _ (ap not p.held) ∙ passed _ _ refusal.None (ap not p.wide))

-- what a session comes to that begins
pub session_fed : (bus : Bus) (o : Opened) (m bytes room : List ℕ) → accepted (refused_before bus o (length m) (length bytes) (length room)) ≡ true
    → session_from bus o m bytes room ≡ fed_from bus o.reply (begun o m) (units_fed bus bytes) room
unfolding session_from
session_fed bus o m bytes room e = chosen _ _ _ e

-- with numbers, where nothing bars it
watched-fed : (bus : Bus) (o : Opened) (choice : Choice) (m numbers bytes room : List ℕ)
    → accepted (barred o.refusal choice (length numbers) (length m) (sum_of o.session.core.windows)) ≡ true
    → watched_from bus o choice m numbers bytes room ≡ session_watched bus o (chosen_places choice.chosen) m numbers bytes room
unfolding watched_from
watched-fed bus o choice m numbers bytes room e = passed _ _ _ (ap not e)

-- so does a call that feeds
pub call_fed : (call : Call) (map m bytes room : List ℕ) → Feeds call map m bytes room
    → (result_of call map m bytes room).session
    ≡ fed_from (bus_of call) (opening_of call map).reply (begun (opening_of call map) m) (units_fed (bus_of call) bytes) room
unfolding line_of pick
call_fed (plain bus dialect) map m bytes room f = session_fed bus _ m bytes room f.begins
call_fed (on_line zero dialect) map m bytes room f = on_bytes dialect map m bytes room 0 refl ∙ session_fed _ _ m bytes room f.begins
call_fed (on_line (suc zero) dialect) map m bytes room f =
    on_halves dialect map m bytes room 1 (λ e. true≢false (sym (ap (λ (n : ℕ). eqb n 0) e))) refl ∙ session_fed _ _ m bytes room f.begins
call_fed (on_line (suc (suc line)) dialect) map m bytes room f = absurd (omega (arith, f.taken))
call_fed (numbering line dialect chosen numbers) map m bytes room f =
    ap (λ (w : Watched). w.session)
    (bits_watched line dialect map chosen m numbers bytes room f.taken.0 f.taken.1
    ∙ watched-fed _ _ _ m numbers bytes room f.taken.2)
    ∙ session_fed _ _ m bytes room f.begins

-- and so its numbers, where it has any
pub numbers_fed : (line dialect : ℕ) (listed numbers map m bytes room : List ℕ) → Feeds (numbering line dialect listed numbers) map m bytes room
    → (bits_session line dialect map listed m numbers bytes room).numbers
    ≡ entries_after (line_of line) (chosen_places (choice_on map listed).chosen) (cleared numbers) (begun (numbered_opening line dialect map) m)
    (units_fed (line_of line) bytes)
unfolding numbers_from
numbers_fed line dialect listed numbers map m bytes room f =
    ap (λ (w : Watched). w.numbers)
    (bits_watched line dialect map listed m numbers bytes room f.taken.0 f.taken.1 ∙ watched-fed _ _ _ m numbers bytes room f.taken.2)
    ∙ chosen _ _ _ f.begins

-- all replies of a call that feeds are so few that their count is a number of 32 bits
call_idle : (call : Call) (map : List ℕ)
    → ((opening_of call map).session.line.have ≡ 0) × (length (sent_bytes (opening_of call map).reply) ≤ opening_room (bus_of call))
call_idle (plain bus dialect) map = opened_idle bus dialect (count_of map) (windows_of map)
call_idle (on_line line dialect) map = opened_idle (line_of line) dialect (count_of map) (windows_of map)
call_idle (numbering line dialect listed numbers) map = numbered_idle (line_of line) (dialect_of dialect) (count_of map) (windows_of map)

pub replies_small : (call : Call) (map m bytes room : List ℕ) → Feeds call map m bytes room
    → length (sent_bytes (opening_of call map).reply ++ replied (answers (bus_of call) (begun (opening_of call map) m) (units_fed (bus_of call) bytes)))
    < 2 ^ 32
replies_small call map m bytes room f =
    let bus = bus_of call in
    let o = opening_of call map in
    let wide = has_room bus bytes (length room) (begins_passed bus o (length m) (length bytes) (length room) f.begins).wide in
    omega (
      arith,
      length-append (sent_bytes o.reply) (replied (answers bus (begun o m) (units_fed bus bytes))),
      (call_idle call map).1,
      replies_fit bus (begun o m) (units_fed bus bytes),
      ap (λ (n : ℕ). unit_room bus * n) (call_idle call map).0,
      nothing_held bus,
      room_small bus (length (units_fed bus bytes)) wide.0,
    )

-- what stops a call before its units are fed is 1, 2, 19 or 24
record Early (q : Verdict) : Type 0 where
  early : accepted q ≡ false → is_before (code_of q) ≡ true

none_early : Early refusal.None
none_early = record { early = λ e. absurd (true≢false e) }

opening_early : (bus : Bus) (dialect : Dialect) (count : ℕ) (windows : List Window) → Early (opened_by bus dialect count windows).refusal
unfolding opened_by
opening_early bus dialect count windows =
    of_choice (λ (o : Opened). Early o.refusal) (not (good_map count windows)) (λ e. record { early = λ no. refl }) (λ e. none_early)

numbered_early : (o : Opened) → Early o.refusal → Early (numbering_from o).refusal
unfolding numbering_from
numbered_early o early = of_choice (λ (o : Opened). Early o.refusal) (accepted o.refusal) (λ e. early) (λ e. early)

call_early : (call : Call) (map : List ℕ) → Early (opening_of call map).refusal
call_early (plain bus dialect) map = opening_early bus dialect (count_of map) (windows_of map)
call_early (on_line line dialect) map = opening_early (line_of line) dialect (count_of map) (windows_of map)
call_early (numbering line dialect listed numbers) map = numbered_early _ (opening_early (line_of line) (dialect_of dialect) (count_of map) (windows_of map))

choice_early : (windows : List Window) (listed : List ℕ) → Early (choice_of windows listed).refusal
unfolding choice_of
choice_early windows listed =
    of_choice (λ (c : Choice). Early c.refusal) (good_choice windows listed) (λ e. none_early) (λ e. record { early = λ no. refl })

before_early : (bus : Bus) (o : Opened) (memory lent room : ℕ) → Early o.refusal → Early (refused_before bus o memory lent room)
unfolding refused_before
before_early bus o memory lent room opening =
    of_choice Early _ {a = o.refusal} (λ e. opening)
    (λ e. of_choice Early _ {a = refusal.Memory} (λ e. record { early = λ no. refl })
    (λ e. of_choice Early _ {a = refusal.Call} {b = refusal.None} (λ e. record { early = λ no. refl }) (λ e. none_early)))

barred_early : (opening : Verdict) (choice : Choice) (numbers memory sum : ℕ) → Early opening → Early choice.refusal
    → Early (barred opening choice numbers memory sum)
unfolding barred
barred_early opening choice numbers memory sum first listed =
    of_choice Early _ {a = opening} (λ e. first)
    (λ e. of_choice Early _ {a = choice.refusal} (λ e. listed)
    (λ e. of_choice Early _ {a = opening} (λ e. first)
    (λ e. of_choice Early _ {a = refusal.Memory} (λ e. record { early = λ no. refl })
    (λ e. of_choice Early _ {a = refusal.Memory} {b = refusal.None} (λ e. record { early = λ no. refl }) (λ e. none_early)))))

-- the refusal that C reads
code_read : (code : ℕ) → code * 2 ^ 32 / 2 ^ 32 ≡ code
code_read code = omega arith

-- a session that is seen to go on began
unseen : (q : Verdict) {value : ℕ} → Early q → accepted q ≡ false → value ≡ code_of q * 2 ^ 32 → is_before (value / 2 ^ 32) ≡ false → ⊥
unseen q early stopped is seen =
    true≢false (sym (early.early stopped) ∙ sym (ap (λ (n : ℕ). is_before n) (ap (λ (n : ℕ). n / 2 ^ 32) is ∙ code_read (code_of q))) ∙ seen)

session_seen : (bus : Bus) (o : Opened) (m bytes room : List ℕ) → Early o.refusal → is_before (refusal_in (session_from bus o m bytes room)) ≡ false
    → accepted (refused_before bus o (length m) (length bytes) (length room)) ≡ true
unfolding session_from
session_seen bus o m bytes room opening seen =
    let q = refused_before bus o (length m) (length bytes) (length room) in
    by_test (accepted q) (λ e. e)
    (λ no.
    absurd (unseen q (before_early bus o (length m) (length bytes) (length room) opening) no
    (ap (λ (r : SessionOutcome). r.value) (passed _ _ _ no)) seen))

-- one that is refused for its line or its dialect is 19
call_refused : {value : ℕ} → value ≡ code_of refusal.Call * 2 ^ 32 → is_before (value / 2 ^ 32) ≡ false → ⊥
call_refused is seen = unseen refusal.Call (record { early = λ no. refl }) refl is seen

numbered_seen : (line dialect : ℕ) (listed numbers map m bytes room : List ℕ) → line ≤ 1 → dialect ≤ 1
    → is_before (refusal_in (bits_session line dialect map listed m numbers bytes room).session) ≡ false
    → Feeds (numbering line dialect listed numbers) map m bytes room
unfolding watched_from
numbered_seen line dialect listed numbers map m bytes room near known seen =
    let o = numbered_opening line dialect map in
    let opening = call_early (numbering line dialect listed numbers) map in
    let q = barred o.refusal (choice_on map listed) (length numbers) (length m) (sum_of o.session.core.windows) in
    let goes = bits_watched line dialect map listed m numbers bytes room near known in
    by_test (accepted q)
    (λ yes.
    record {
      taken = (near, known, yes);
      begins = session_seen _ o m bytes room opening
          (sym (ap (λ (w : Watched). is_before (refusal_in w.session)) (goes ∙ watched-fed _ o _ m numbers bytes room yes)) ∙ seen);
    })
    (λ no.
    absurd (unseen q (barred_early _ _ _ _ _ opening (choice_early _ listed)) no
    (ap (λ (w : Watched). w.session.value) (goes ∙ chosen _ _ _ (ap not no))) seen))

pub fed_by_number : FedByNumber
unfolding line_of pick
fed_by_number (plain bus dialect) map m bytes room seen =
    record { taken = tt; begins = session_seen bus _ m bytes room (call_early (plain bus dialect) map) seen }
fed_by_number (on_line zero dialect) map m bytes room seen =
    record {
      taken = omega arith;
      begins = session_seen _ _ m bytes room (call_early (on_line 0 dialect) map)
          (sym (ap (λ (o : SessionOutcome). is_before (refusal_in o)) (on_bytes dialect map m bytes room 0 refl)) ∙ seen);
    }
fed_by_number (on_line (suc zero) dialect) map m bytes room seen =
    record {
      taken = omega arith;
      begins = session_seen _ _ m bytes room (call_early (on_line 1 dialect) map)
          (sym (ap (λ (o : SessionOutcome). is_before (refusal_in o)) (on_halves dialect map m bytes room 1 (eqb-false 1 0 refl) refl)) ∙ seen);
    }
fed_by_number (on_line (suc (suc line)) dialect) map m bytes room seen =
    absurd (call_refused
    (ap (λ (o : SessionOutcome). o.value)
    (on_none dialect map m bytes room (suc (suc line)) (λ e. omega (arith, e)) (λ e. omega (arith, e)))) seen)
fed_by_number (numbering line dialect listed numbers) map m bytes room seen =
    by_test (ltb 1 line)
    (λ far. absurd (call_refused (ap (λ (w : Watched). w.session.value) (bits_line line dialect map listed m numbers bytes room (ltb-true _ _ far))) seen))
    (λ near.
    by_test (ltb 1 dialect)
    (λ far. absurd (call_refused
    (ap (λ (w : Watched). w.session.value) (bits_dialect line dialect map listed m numbers bytes room (ltb-false _ _ near) (ltb-true _ _ far))) seen))
    (λ known.
    numbered_seen line dialect listed numbers map m bytes room (ltb-false _ _ near) (ltb-false _ _ known) seen))

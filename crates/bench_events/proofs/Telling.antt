-- What a run and an exchange with events come to, by the tests in their order; and that the events of a flash run fit, by the bound on their number.
use Prim.Native.Nat.{ℕ, ◌+◌, ◌*◌, ◌/◌, ◌%◌, ◌^◌, ◌≤◌, ◌<◌, min}
use mathlib.Core.Bool.{true, false, not}
use mathlib.Core.List.{List}
use mathlib.Core.Logic.{◌≢◌}
use mathlib.Core.Path.{◌≡◌, refl, sym, ap, ap₂, ◌∙◌}
use native.Mathlib.Nat.{mul-le-mul}
use native.Mathlib.Omega.{arith}
use lib.ListN.{length}
use borrow.Author.Tests.{eq-eqb, ne_eqb, lt-ltb, le-ltb}
use Rattle.words.proofs.Choice.{chosen, passed}
use Rattle.windows.specs.declared.Window.{Window}
use Rattle.opcodes.specs.rules.Answers.{code_of}
use Rattle.opcodes.specs.declared.Dialect.{Dialect}
use Rattle.opcodes.specs.declared.Event.{Event}
use Rattle.opcodes.specs.rules.Refusals.{Verdict}
use Rattle.opcodes.specs.rules.Refusals as refusal
use Rattle.event_room.specs.rules.Room.{place_after, room_after}
use Rattle.event_room.proofs.Writing.{place_whole, room_whole}
use Rattle.flash_session.specs.rules.Opening.{longest, opened_by}
use Rattle.flash_session.specs.declared.Called.{Called}
use Rattle.flash_session.specs.declared.Opened.{Opened}
use Rattle.flash_runs.specs.rules.Events.{events_from, most_events}
use Rattle.flash_runs.specs.rules.Run.{ran_from}
use Rattle.flash_runs.specs.declared.Ran.{Ran}
use Rattle.flash_runs.proofs.Fitting.{events_fit}
use Rattle.sent.specs.declared.Bus.{Bus}
use Rattle.exchange.specs.rules.Exchange.{Talk, meeting, exchanged}
use Rattle.exchange.specs.rules.Standing.{outcome_of}
use Rattle.exchange.specs.declared.Exchanged.{Exchanged}
use Rattle.bench_sessions.specs.rules.Feeding.{SessionOutcome, outcome}
use Rattle.bench_sessions.specs.rules.Map.{windows_of, count_of}
use Rattle.bench_sessions.specs.rules.Numbers.{line_of, dialect_of}
use Rattle.bench_hosts.specs.rules.HostCalls.{are_named, exchange_refused}
use Rattle.bench_events.specs.rules.Events.{is_short, told_value, telling, run_told, talk_told, flash_events, host_events}
use Rattle.bench_events.specs.claims.Events.{whole, EventsAreWhole}

-- outcomes that agree in all parts
pub same_outcome : {v v₁ : ℕ} {m m₁ r r₁ : List ℕ} → v ≡ v₁ → m ≡ m₁ → r ≡ r₁ → outcome v m r ≡ outcome v₁ m₁ r₁
same_outcome a b c = rw (a, b, c) refl

-- a flash run
module _ (dialect : ℕ) (map memory image : List ℕ) (limit : ℕ) (room : List ℕ) where
  abbrev opening : Opened
  opening = opened_by (dialect_of dialect) (count_of map) (windows_of map) image limit

  pub flash_unknown : {value : ℕ} → 1 < dialect → value ≡ code_of refusal.Call * 2 ^ 56
      → outcome value memory room ≡ flash_events dialect map memory image limit room
  unfolding flash_events
  flash_unknown other v = same_outcome v refl refl ∙ sym (chosen _ _ _ (lt-ltb _ _ other))

  pub flash_short : {value : ℕ} → dialect ≤ 1 → is_short (length room) limit (length image) ≡ true → value ≡ code_of refusal.Room * 2 ^ 56
      → outcome value memory room ≡ flash_events dialect map memory image limit room
  unfolding flash_events
  flash_short known short v = same_outcome v refl refl ∙ sym (passed _ _ _ (le-ltb _ _ known) ∙ chosen _ _ _ short)

  flash_told : dialect ≤ 1 → is_short (length room) limit (length image) ≡ false
      → flash_events dialect map memory image limit room ≡ run_told opening memory image room
  unfolding flash_events
  flash_told known long = passed _ _ _ (le-ltb _ _ known) ∙ passed _ _ _ long

  -- by what the code has
  pub flash_ran : {family : Dialect} {count : ℕ} {windows : List Window} {o : Opened} {ran : Ran} {left laid : List ℕ} {code value : ℕ}
      → dialect ≤ 1 → is_short (length room) limit (length image) ≡ false
      → family ≡ dialect_of dialect → count ≡ count_of map → windows ≡ windows_of map → o ≡ opened_by family count windows image limit
      → (ran.called ≡ (ran_from o memory image).answer) × ((left ≡ (ran_from o memory image).memory)
      × ((ran.told ≡ place_after (length room) 0 (events_from o memory image)) × (laid ≡ room_after room 0 (events_from o memory image))))
      → code ≡ code_of ran.called.refusal → value ≡ told_value code ran.told
      → outcome value left laid ≡ flash_events dialect map memory image limit room
  flash_ran {family} {count} {windows} {o} {ran} known long d c w opened run code v =
      let from : o ≡ opening = opened ∙ same_opening d c w in
      same_outcome
      (v ∙ ap₂ told_value (code ∙ ap (λ (a : Called). code_of a.refusal) run.0) run.1.1.0)
      run.1.0 run.1.1.1
      ∙ ap (λ (x : Opened). run_told x memory image room) from
      ∙ sym (flash_told known long)
    where
      same_opening : {f f₁ : Dialect} {n n₁ : ℕ} {ws ws₁ : List Window} → f ≡ f₁ → n ≡ n₁ → ws ≡ ws₁
          → opened_by f n ws image limit ≡ opened_by f₁ n₁ ws₁ image limit
      same_opening x y z = rw (x, y, z) refl

-- an exchange
module _ (line dialect : ℕ) (map memory image : List ℕ) (tries limit pings : ℕ) (room : List ℕ) where
  abbrev why : Verdict
  why = exchange_refused line dialect map (length memory)

  abbrev result : SessionOutcome
  result = host_events line dialect map memory image tries limit pings room

  pub host_unnamed : {value : ℕ} → are_named line dialect ≡ false → value ≡ code_of refusal.Call * 2 ^ 56 → outcome value memory room ≡ result
  unfolding host_events
  host_unnamed other v = same_outcome v refl refl ∙ sym (chosen _ _ _ (ap not other))

  pub host_short : {value : ℕ} → are_named line dialect ≡ true → is_short (length room) limit (length image) ≡ true → value ≡ code_of refusal.Room * 2 ^ 56
      → outcome value memory room ≡ result
  unfolding host_events
  host_short named short v = same_outcome v refl refl ∙ sym (passed _ _ _ (ap not named) ∙ chosen _ _ _ short)

  pub host_barred : {q : Verdict} {value : ℕ} → are_named line dialect ≡ true → is_short (length room) limit (length image) ≡ false
      → q ≡ why → code_of q ≢ 0 → value ≡ code_of q * 2 ^ 56 → outcome value memory room ≡ result
  unfolding host_events
  host_barred named long e some v =
      same_outcome (v ∙ ap (λ (x : Verdict). code_of x * 2 ^ 56) e) refl refl
      ∙ sym (passed _ _ _ (ap not named) ∙ passed _ _ _ long ∙ passed _ _ _ (ne_eqb _ _ (λ none. some (ap code_of e ∙ none))))

  pub host_exchanged : {q : Verdict} {bus : Bus} {family : Dialect} {count : ℕ} {windows : List Window} {e : Exchanged} {value : ℕ} {left laid : List ℕ}
      → are_named line dialect ≡ true → is_short (length room) limit (length image) ≡ false → q ≡ why → code_of q ≡ 0
      → bus ≡ line_of line → family ≡ dialect_of dialect → count ≡ count_of map → windows ≡ windows_of map
      → (e ≡ outcome_of (length room) (exchanged (meeting bus family count windows memory image tries limit pings) image))
      × ((left ≡ (exchanged (meeting bus family count windows memory image tries limit pings) image).loader.memory)
      × (laid ≡ room_after room 0 (exchanged (meeting bus family count windows memory image tries limit pings) image).events))
      → value ≡ told_value (code_of e.refusal) e.told → outcome value left laid ≡ result
  unfolding host_events
  host_exchanged named long q none b d c w ended v =
      same_outcome (v ∙ ap (λ (x : Exchanged). told_value (code_of x.refusal) x.told) ended.0) ended.1.0 ended.1.1
      ∙ ap (λ (t : Talk). talk_told (exchanged t image) room) (same_meeting b d c w)
      ∙ sym (passed _ _ _ (ap not named) ∙ passed _ _ _ long ∙ chosen _ _ _ (eq-eqb _ _ (ap code_of (sym q) ∙ none)))
    where
      same_meeting : {bus bus₁ : Bus} {family family₁ : Dialect} {count count₁ : ℕ} {windows windows₁ : List Window}
          → bus ≡ bus₁ → family ≡ family₁ → count ≡ count₁ → windows ≡ windows₁
          → meeting bus family count windows memory image tries limit pings ≡ meeting bus₁ family₁ count₁ windows₁ memory image tries limit pings
      same_meeting x y z u = rw (x, y, z, u) refl

-- events that fit are told whole
fitting : (code : ℕ) (events : List Event) (memory room : List ℕ) → 8 * length events ≤ length room → length events < 2 ^ 56
    → telling code events memory room ≡ whole code events memory room
unfolding told_value
fitting code events memory room fits small =
    let n = length events in
    let count : (0 + 8 * n) / 8 % 2 ^ 56 ≡ n = omega (arith, small) in
    let inside : 0 + 8 * n ≤ length room = omega (arith, fits) in
    same_outcome (ap (λ (bytes : ℕ). code * 2 ^ 56 + bytes / 8 % 2 ^ 56) (place_whole (length room) 0 events inside) ∙ ap (λ (k : ℕ). code * 2 ^ 56 + k) count)
    refl (room_whole room 0 events inside)

-- so few events has a run
pub few_events : (limit n : ℕ) → limit < 256 → most_events limit n ≤ 838657
unfolding most_events
few_events limit n small =
    omega (arith, mul-le-mul {n₁ = limit + 1} {m₁ = min n longest / 20} {n₂ = 256} {m₂ = 3276} (omega arith) (omega arith))

pub events_are_whole : EventsAreWhole
unfolding is_short
events_are_whole =
    record {
      fitting = fitting;
      flash = λ dialect map memory image limit room known small enough.
          let fit = events_fit (dialect_of dialect) (count_of map) (windows_of map) memory image limit in
          flash_told dialect map memory image limit room known (le-ltb _ _ enough)
          ∙ fitting _ _ _ room (omega (arith, fit, enough)) (omega (arith, fit, few_events limit (length image) small));
    }

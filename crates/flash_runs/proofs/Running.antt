-- A run with both rows of entries and its events in a room, call by call: the calls that are left lead to the same end, by one step of each definition.
use Prim.Native.Nat.{ℕ, zero, suc, ◌-◌}
use mathlib.Core.Bool.{true, false}
use mathlib.Core.List.{List, ◌++◌, append-nil}
use mathlib.Core.Logic.{◌≢◌}
use mathlib.Core.Path.{◌≡◌, refl, sym, ap, ap₂, ◌∙◌}
use native.Mathlib.Omega.{arith}
use lib.ListN.{length}
use Rattle.words.proofs.Choice.{chosen, passed}
use Rattle.opcodes.specs.rules.Answers as answers
use Rattle.opcodes.specs.declared.Event.{Event}
use Rattle.event_room.specs.rules.Room.{place_after, room_after}
use Rattle.event_room.proofs.Writing.{length_after, place_joined, room_joined}
use Rattle.commands.specs.declared.Wrote.{Wrote}
use Rattle.bit_stamps.specs.rules.Stamps.{stamped}
use Rattle.flash_session.specs.rules.Sessions.{CallOutcome, ◌leaving◌}
use Rattle.flash.specs.rules.Step.{step_of}
use Rattle.flash_session.specs.declared.Called.{Called}
use Rattle.flash_session.specs.declared.Session.{Session}
use Rattle.flash_runs.specs.rules.Entries.{number_wrote, offset_wrote, stamps_on, call_entries, call_offsets}
use Rattle.flash_runs.specs.rules.Events.{events_on}
use Rattle.flash_runs.specs.rules.Run.{goes_on, carried_on}
use Rattle.flash_runs.proofs.Calls as calls

-- the last call of a run: none is left after it, or it does not go on
pub data Last (n : ℕ) (a : Called) : Type 0 where
  spent : n ≡ 0 → Last n a
  stops : goes_on a ≡ false → Last n a

-- what stands beside a run: the numbers, the offsets, and the room with the place of the next event
pub record Beside : Type 0 where
  pub numbers : List ℕ
  pub offsets : List ℕ
  pub room : List ℕ
  pub place : ℕ

module _ (places image : List ℕ) where
  -- at most n calls after an outcome lead to an end, and to this beside it
  pub record Leads (n : ℕ) (now : Beside) (o end : CallOutcome) (all : Beside) : Type 0 where
    pub outcome : carried_on n o image ≡ end
    pub by_number : stamps_on number_wrote n places now.numbers o image ≡ all.numbers
    pub by_offset : stamps_on offset_wrote n places now.offsets o image ≡ all.offsets
    pub by_place : place_after (length now.room) now.place (events_on n o image) ≡ all.place
    pub by_event : room_after now.room now.place (events_on n o image) ≡ all.room

  -- the last call leaves its outcome, and the entries after it
  outcome_last : (n : ℕ) (o : CallOutcome) → Last n o.answer → carried_on n o image ≡ o
  unfolding carried_on
  outcome_last n o (spent e) = ap (λ (k : ℕ). carried_on k o image) e
  outcome_last n o (stops e) = calls.stays image n o e

  module _ (tell : Called → Wrote) (entries : List ℕ) where
    entries_stay : (n : ℕ) (o : CallOutcome) → goes_on o.answer ≡ false
        → stamps_on tell n places entries o image ≡ stamped entries places (tell o.answer)
    unfolding stamps_on
    entries_stay zero o e = refl
    entries_stay (suc n) o e = passed _ _ _ e

    entries_last : (n : ℕ) (o : CallOutcome) → Last n o.answer → stamps_on tell n places entries o image ≡ stamped entries places (tell o.answer)
    unfolding stamps_on
    entries_last n o (spent e) = ap (λ (k : ℕ). stamps_on tell k places entries o image) e
    entries_last n o (stops e) = entries_stay n o e

    -- any other call hands its entries on
    entries_go : (n : ℕ) (o : CallOutcome) → goes_on o.answer ≡ true
        → stamps_on tell (suc n) places entries o image
        ≡ stamps_on tell n places (stamped entries places (tell o.answer)) (step_of o.answer.session o.memory image) image
    unfolding stamps_on
    entries_go n o e = chosen _ _ _ e

  -- the last call tells its event, any other has more after it
  events_stay : (n : ℕ) (o : CallOutcome) → goes_on o.answer ≡ false → events_on n o image ≡ answers.told o.answer.event
  unfolding events_on
  events_stay zero o e = refl
  events_stay (suc n) o e = ap (λ (es : List Event). answers.told o.answer.event ++ es) (passed _ _ _ e) ∙ append-nil (answers.told o.answer.event)

  events_last : (n : ℕ) (o : CallOutcome) → Last n o.answer → events_on n o image ≡ answers.told o.answer.event
  unfolding events_on
  events_last n o (spent e) = ap (λ (k : ℕ). events_on k o image) e
  events_last n o (stops e) = events_stay n o e

  events_go : (n : ℕ) (o : CallOutcome) → goes_on o.answer ≡ true
      → events_on (suc n) o image ≡ answers.told o.answer.event ++ events_on n (step_of o.answer.session o.memory image) image
  unfolding events_on
  events_go n o e = ap (λ (es : List Event). answers.told o.answer.event ++ es) (chosen _ _ _ e)

  -- a call of a session s, with its answer and the memory that it leaves
  module _ (s : Session) (m : List ℕ) {a : Called} {after : List ℕ} (e : a ≡ (step_of s m image).answer) (f : after ≡ (step_of s m image).memory) where
    whole : (a leaving after) ≡ step_of s m image
    whole = ap₂ ◌leaving◌ e f

    -- and the entries that it leaves
    module _ (tell : Called → Wrote) (entries : List ℕ) {left : List ℕ} (g : left ≡ stamped entries places (tell (step_of s m image).answer)) where
      told : left ≡ stamped entries places (tell a)
      told = g ∙ ap (λ (x : Called). stamped entries places (tell x)) (sym e)

      entries_again : (n : ℕ) → suc (n - 1) ≡ n → goes_on a ≡ true
          → stamps_on tell (n - 1) places left (step_of a.session after image) image ≡ stamps_on tell n places entries (step_of s m image) image
      entries_again n again more =
          ap (λ (es : List ℕ). stamps_on tell (n - 1) places es (step_of a.session after image) image) told
          ∙ sym (entries_go tell entries (n - 1) (a leaving after) more)
          ∙ ap₂ (λ (k : ℕ) (o : CallOutcome). stamps_on tell k places entries o image) again whole

      entries_end : (n : ℕ) → Last n a → left ≡ stamps_on tell n places entries (step_of s m image) image
      entries_end n last =
          told ∙ sym (entries_last tell entries n (a leaving after) last) ∙ ap (λ (o : CallOutcome). stamps_on tell n places entries o image) whole

    -- and its event told in a room
    module _ (room : List ℕ) (place : ℕ) {next-room : List ℕ} {next_place : ℕ} (p : next_place ≡ place_after (length room) place (answers.told a.event))
        (r : next-room ≡ room_after room place (answers.told a.event)) where
      same_events : (n : ℕ) → suc (n - 1) ≡ n → goes_on a ≡ true
          → answers.told a.event ++ events_on (n - 1) (step_of a.session after image) image ≡ events_on n (step_of s m image) image
      same_events n again more =
          sym (events_go (n - 1) (a leaving after) more) ∙ ap₂ (λ (k : ℕ) (o : CallOutcome). events_on k o image) again whole

      last-event : (n : ℕ) → Last n a → answers.told a.event ≡ events_on n (step_of s m image) image
      last-event n last = sym (events_last n (a leaving after) last) ∙ ap (λ (o : CallOutcome). events_on n o image) whole

      room_again : (n : ℕ) → suc (n - 1) ≡ n → goes_on a ≡ true
          → room_after next-room next_place (events_on (n - 1) (step_of a.session after image) image)
          ≡ room_after room place (events_on n (step_of s m image) image)
      room_again n again more =
          let rest = events_on (n - 1) (step_of a.session after image) image in
          ap₂ (λ (l : List ℕ) (k : ℕ). room_after l k rest) r p
          ∙ sym (room_joined room place (answers.told a.event) rest)
          ∙ ap (room_after room place) (same_events n again more)

      place_again : (n : ℕ) → suc (n - 1) ≡ n → goes_on a ≡ true
          → place_after (length next-room) next_place (events_on (n - 1) (step_of a.session after image) image)
          ≡ place_after (length room) place (events_on n (step_of s m image) image)
      place_again n again more =
          let rest = events_on (n - 1) (step_of a.session after image) image in
          ap₂ (λ (size k : ℕ). place_after size k rest) (ap length r ∙ length_after room place (answers.told a.event)) p
          ∙ sym (place_joined (length room) place (answers.told a.event) rest)
          ∙ ap (place_after (length room) place) (same_events n again more)

    module _ (n : ℕ) (before : Beside) {next-numbers next-offsets next-room : List ℕ} {next_place : ℕ}
        (entries : (next-numbers ≡ call_entries places before.numbers s m image) × (next-offsets ≡ call_offsets places before.offsets s m image))
        (told_in : (next_place ≡ place_after (length before.room) before.place (answers.told a.event))
        × (next-room ≡ room_after before.room before.place (answers.told a.event)))
        {end : CallOutcome} {all : Beside} (leads : Leads n before (step_of s m image) end all) where
      -- after one that goes on one fewer is left
      pub leads_on : n ≢ 0 → goes_on a ≡ true
          → Leads (n - 1) (record { numbers = next-numbers; offsets = next-offsets; room = next-room; place = next_place })
          (step_of a.session after image) end all
      leads_on h more =
          let again : suc (n - 1) ≡ n = omega (arith, h) in
          record {
            outcome = sym (calls.goes image (n - 1) (a leaving after) more)
                ∙ ap₂ (λ (k : ℕ) (o : CallOutcome). carried_on k o image) again whole
                ∙ leads.outcome;
            by_number = entries_again number_wrote before.numbers entries.0 n again more ∙ leads.by_number;
            by_offset = entries_again offset_wrote before.offsets entries.1 n again more ∙ leads.by_offset;
            by_place = place_again before.room before.place told_in.0 told_in.1 n again more ∙ leads.by_place;
            by_event = room_again before.room before.place told_in.0 told_in.1 n again more ∙ leads.by_event;
          }

      -- the last one leaves what the run leaves
      pub leads_last : Last n a
          → (a ≡ end.answer) × ((after ≡ end.memory) × ((next-numbers ≡ all.numbers) × ((next-offsets ≡ all.offsets)
          × ((next_place ≡ all.place) × (next-room ≡ all.room)))))
      leads_last last =
          let reached = sym (outcome_last n (a leaving after) last) ∙ ap (λ (o : CallOutcome). carried_on n o image) whole ∙ leads.outcome in
          let event = last-event before.room before.place told_in.0 told_in.1 n last in
          let by_number = entries_end number_wrote before.numbers entries.0 n last ∙ leads.by_number in
          let by_offset = entries_end offset_wrote before.offsets entries.1 n last ∙ leads.by_offset in
          let by_place = told_in.0 ∙ ap (place_after (length before.room) before.place) event ∙ leads.by_place in
          let by_event = told_in.1 ∙ ap (room_after before.room before.place) event ∙ leads.by_event in
          (ap (λ (o : CallOutcome). o.answer) reached, (ap (λ (o : CallOutcome). o.memory) reached, (by_number, (by_offset, (by_place, by_event)))))

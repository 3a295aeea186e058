-- "Exactly when" from the course: the events of the talk only grow and end as those of the flash run, and among those an entry is the last.
use Prim.Native.Nat.{ℕ, zero, suc, ◌+◌}
use mathlib.Core.Bool.{true, false, true≢false, not}
use mathlib.Core.List.{List, [], ◌∷◌, ◌++◌}
use mathlib.Core.Logic.{◌⊎◌, inl, inr}
use mathlib.Core.Path.{◌≡◌, refl, sym, ap, subst, ◌∙◌}
use native.Mathlib.Omega.{arith}
use native.Mathlib.Nat.{zero-add, suc-add}
use borrow.Author.Tests.{eq-eqb}
use Rattle.words.proofs.Choice.{chosen, passed, by_test}
use Rattle.opcodes.specs.rules.Answers.{code_of, kind_of, told}
use Rattle.opcodes.specs.declared.Event.{Event}
use Rattle.opcodes.specs.declared.Event.TheVariants as event
use Rattle.flash_commands.specs.claims.Ways.{Way, forward, back, kept}
use Rattle.flash_session.specs.rules.Sessions.{CallOutcome}
use Rattle.flash.specs.rules.Step.{step_of}
use Rattle.flash_session.specs.declared.Called.{Called}
use Rattle.flash_session.specs.declared.Opened.{Opened}
use Rattle.flash_session.specs.declared.Session.{Session}
use Rattle.flash_laws.proofs.Calls.{every_call}
use Rattle.flash_runs.specs.rules.Run.{goes_on, carried_on, enough, opens, run_of, ran_from}
use Rattle.flash_runs.specs.rules.Events.{events_on, run_events, events_from}
use Rattle.flash_runs.proofs.Calls as calls
use Rattle.law_line.specs.claims.Line.{OnTheLine}
use Rattle.exchange.specs.rules.Exchange.{Talk, talked, onward}
use Rattle.law_exchange.specs.claims.Course.{exchange_turns}
use Rattle.law_exchange.specs.claims.Entering.{Among, EntersExactlyWhen}
use Rattle.law_exchange.proofs.Course.{events_stay, events_go, same_course}

-- what is among the first of two lists, or the second, is among both; and what is among both is among one of them
among_left : (e : Event) (es fs : List Event) → Among e es → Among e (es ++ fs)
unfolding Among
among_left e [] fs a = absurd a
among_left e (f ∷ es) fs (inl same) = inl same
among_left e (f ∷ es) fs (inr later) = inr (among_left e es fs later)

among_right : (e : Event) (es fs : List Event) → Among e fs → Among e (es ++ fs)
unfolding Among
among_right e [] fs a = a
among_right e (f ∷ es) fs a = inr (among_right e es fs a)

later_side : {A B C : Type 0} → B ⊎ C → (A ⊎ B) ⊎ C
later_side (inl b) = inl (inr b)
later_side (inr c) = inr c

side : (e : Event) (es fs : List Event) → Among e (es ++ fs) → Among e es ⊎ Among e fs
unfolding Among
side e [] fs a = inr a
side e (f ∷ es) fs (inl same) = inl (inl same)
side e (f ∷ es) fs (inr later) = later_side (side e es fs later)

-- the one event that is told
differ : (address cycles : ℕ) → event.Enter address ≡ event.Wait cycles → ⊥
differ address cycles e = absurd (omega (arith, ap kind_of e))

told_is : (address : ℕ) (e : Event) → Among (event.Enter address) (told e) → e ≡ event.Enter address
unfolding Among
told_is address event.Nothing a = absurd a
told_is address (event.Wait cycles) (inl same) = absurd (differ address cycles same)
told_is address (event.Wait cycles) (inr a) = absurd a
told_is address (event.Enter other) (inl same) = sym same
told_is address (event.Enter other) (inr a) = absurd a

told_too : (address : ℕ) (e : Event) → e ≡ event.Enter address → Among (event.Enter address) (told e)
unfolding Among
told_too address e same = subst (λ (f : Event). Among (event.Enter address) (told f)) (sym same) (inl refl)

-- a call that enters does not go on
enters_stops : (s : Session) (image : List ℕ) (a : Called) → kind_of a.event ≡ 3 → Way s image a → goes_on a ≡ false
unfolding goes_on
enters_stops s image a entering (forward f) =
    calls.accepted_goes a (ap code_of f.accepted) ∙ ap not (f.ended ∙ eq-eqb (kind_of a.event) 3 entering)
enters_stops s image a entering (back b) = absurd (omega (arith, entering, ap kind_of b.no_event))
enters_stops s image a entering (kept k) = absurd (omega (arith, entering, ap kind_of k.no_event))

module _ (image : List ℕ) (address : ℕ) where
  -- an entry among the events of calls is the event of the last
  entry_last : (n : ℕ) (s : Session) (m : List ℕ) → Among (event.Enter address) (events_on n (step_of s m image) image)
      → (carried_on n (step_of s m image) image).answer.event ≡ event.Enter address
  unfolding carried_on events_on
  entry_last zero s m a = told_is address _ a
  entry_last (suc n) s m a =
      let o = step_of s m image in
      by_test (goes_on o.answer)
      (λ on.
      let next = subst (Among (event.Enter address)) (events_go image n o on) a in
      ap (λ (p : CallOutcome). p.answer.event) (calls.goes image n o on)
      ∙ on_side (side (event.Enter address) (told o.answer.event) _ next) on (entry_last n o.answer.session o.memory))
      (λ off.
      ap (λ (p : CallOutcome). p.answer.event) (calls.stays image (suc n) o off)
      ∙ told_is address _ (subst (Among (event.Enter address)) (events_stay image (suc n) o off) a))
    where
      on_side : Among (event.Enter address) (told (step_of s m image).answer.event)
          ⊎ Among (event.Enter address) (events_on n (step_of (step_of s m image).answer.session (step_of s m image).memory image) image)
          → goes_on (step_of s m image).answer ≡ true
          → (Among (event.Enter address) (events_on n (step_of (step_of s m image).answer.session (step_of s m image).memory image) image)
          → (carried_on n (step_of (step_of s m image).answer.session (step_of s m image).memory image) image).answer.event ≡ event.Enter address)
          → (carried_on n (step_of (step_of s m image).answer.session (step_of s m image).memory image) image).answer.event ≡ event.Enter address
      on_side (inl now) on later =
          let is = told_is address (step_of s m image).answer.event now in
          absurd (true≢false (sym on ∙ enters_stops s image (step_of s m image).answer (ap kind_of is) (every_call s m image).way))
      on_side (inr a) on later = later a

  -- and the event of the last is among them
  last_entry : (n : ℕ) (s : Session) (m : List ℕ) → (carried_on n (step_of s m image) image).answer.event ≡ event.Enter address
      → Among (event.Enter address) (events_on n (step_of s m image) image)
  unfolding carried_on events_on
  last_entry zero s m e = told_too address _ e
  last_entry (suc n) s m e =
      let o = step_of s m image in
      by_test (goes_on o.answer)
      (λ on.
      subst (Among (event.Enter address)) (sym (events_go image n o on))
      (among_right (event.Enter address) (told o.answer.event) _
      (last_entry n o.answer.session o.memory (sym (ap (λ (p : CallOutcome). p.answer.event) (calls.goes image n o on)) ∙ e))))
      (λ off.
      subst (Among (event.Enter address)) (sym (events_stay image (suc n) o off))
      (told_too address _ (sym (ap (λ (p : CallOutcome). p.answer.event) (calls.stays image (suc n) o off)) ∙ e)))

  -- so of a run from an opening
  run_entry : (o : Opened) (m : List ℕ) → Among (event.Enter address) (events_from o m image) → (ran_from o m image).answer.event ≡ event.Enter address
  unfolding events_from ran_from run_events run_of Among
  run_entry o m a =
      by_test (opens o)
      (λ opened.
      ap (λ (p : CallOutcome). p.answer.event) (chosen _ _ _ opened)
      ∙ entry_last (enough o.session) o.session m (subst (Among (event.Enter address)) (chosen _ _ _ opened) a))
      (λ shut. absurd (subst (Among (event.Enter address)) (passed _ _ _ shut) a))

  entry_run : (o : Opened) (m : List ℕ) → (ran_from o m image).answer.event ≡ event.Enter address → Among (event.Enter address) (events_from o m image)
  unfolding events_from ran_from run_events run_of
  entry_run o m e =
      by_test (opens o)
      (λ opened.
      subst (Among (event.Enter address)) (sym (chosen _ _ _ opened))
      (last_entry (enough o.session) o.session m (sym (ap (λ (p : CallOutcome). p.answer.event) (chosen _ _ _ opened)) ∙ e)))
      (λ shut. absurd (omega (arith, ap kind_of (sym (ap (λ (p : CallOutcome). p.answer.event) (passed _ _ _ shut)) ∙ e))))

-- the events of a talk only grow
grows : (image : List ℕ) (e : Event) (n : ℕ) (t : Talk) → Among e t.events → Among e (talked n t image).events
unfolding talked onward
grows image e zero t a = a
grows image e (suc n) t a = grows image e n (onward t image) (among_left e t.events _ a)

talked_add : (image : List ℕ) (n k : ℕ) (t : Talk) → talked (n + k) t image ≡ talked k (talked n t image) image
unfolding talked
talked_add image zero k t = rw (zero-add k) refl
talked_add image (suc n) k t = rw (suc-add n k) (talked_add image n k (onward t image))

pub exactly_when : OnTheLine → EntersExactlyWhen
exactly_when line bus dialect count windows m image tries limit pings premises =
    let enough_Turns = exchange_turns bus dialect count windows m image tries limit pings in
    let course = same_course line bus dialect count windows m image tries limit pings premises in
    record {
      only_when = λ n address a.
          let later = subst (λ (t : Talk). Among (event.Enter address) t.events) (sym (talked_add image n enough_Turns _))
          (grows image (event.Enter address) enough_Turns _ a) in
          run_entry image address _ m (subst (Among (event.Enter address)) (course (n + enough_Turns) (omega arith)).events later);
      when = λ n address h e.
          subst (Among (event.Enter address)) (sym (course n h).events) (entry_run image address _ m e);
    }

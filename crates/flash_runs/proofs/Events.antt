-- The events of a run: a call waits exactly where it is an accepted setting, by the cases of its command, and one that enters is the last.
use Rattle.std.specs.Prelude.{Some, Ok, Err}
use Prim.Native.Nat.{ℕ, zero, suc, ◌+◌}
use mathlib.Core.Bool.{Bool, true, false, not, true≢false}
use mathlib.Core.List.{List, [], ◌∷◌, ◌++◌, append-nil, append_assoc}
use mathlib.Core.Logic.{◌⊎◌, inl, inr}
use mathlib.Core.Path.{◌≡◌, refl, sym, ap, ap₂, ◌∙◌}
use native.Mathlib.Omega.{arith}
use borrow.Author.Tests.{eq-eqb, ne_eqb}
use Rattle.std.specs.declared.result.Result.{Result}
use Rattle.std.specs.declared.result.Result.TheVariants.{Ok, Err}
use Rattle.words.specs.rules.Choice.{pick}
use Rattle.words.proofs.Choice.{chosen, passed, by_test, of_choice}
use Rattle.opcodes.specs.rules.Answers.{code_of, kind_of, accepted, told}
use Rattle.opcodes.specs.declared.Command.{Command}
use Rattle.opcodes.specs.declared.Command.TheVariants as command
use Rattle.opcodes.specs.declared.Event.{Event}
use Rattle.opcodes.specs.declared.Event.TheVariants as event
use Rattle.opcodes.specs.rules.Refusals.{Verdict}
use Rattle.opcodes.specs.rules.Refusals as refusal
use Rattle.opcodes.specs.rules.Opcodes.{by_writing}
use Rattle.opcodes.specs.declared.Known.{Known}
use Rattle.ledger.specs.rules.Totals.{is_spent}
use Rattle.ledger.specs.declared.Happening.{Happening}
use Rattle.reading.specs.rules.Reading.{past_words, argument, read_at}
use Rattle.reading.specs.declared.Unread.{Unread}
use Rattle.commands.specs.rules.Commands.{load_judged, setting_judged, fill_done, setting_done, close_done, sought_from, Sought, Judged}
use Rattle.commands.specs.declared.Done.{Done}
use Rattle.commands.specs.declared.Wrote.{Wrote}
use Rattle.flash_commands.specs.claims.Ways.{Way, forward, back, kept}
use Rattle.flash_session.specs.rules.Sessions as flash
use Rattle.flash_session.specs.rules.Sessions.{CallOutcome}
use Rattle.flash_commands.specs.rules.Commands as flash-commands
use Rattle.flash.specs.rules.Step as step
use Rattle.flash.specs.rules.Step.{followed, performed, step_of}
use Rattle.flash_session.specs.declared.Called.{Called}
use Rattle.flash_session.specs.declared.Session.{Session}
use Rattle.flash_laws.proofs.Calls.{every_call}
use Rattle.flash_commands.proofs.Verdicts.{Judges, denies, ends, setting_judges, barred_judges}
use Rattle.flash_runs.specs.rules.Events.{waited, waits_of, last_of, events_on, run_events, events_from}
use Rattle.flash_runs.specs.rules.Run.{goes_on, carried_on, enough, opens, run_of, ran_from}
use Rattle.flash_runs.specs.claims.Events.{delay_of, delays_on, delays_from, EventsOfARun}
use Rattle.flash_runs.proofs.Calls as calls

-- waits of two stretches, and of one event
waits_append : (es fs : List Event) → waits_of (es ++ fs) ≡ waits_of es ++ waits_of fs
unfolding waits_of
waits_append [] fs = refl
waits_append (e ∷ es) fs = ap (λ (ws : List ℕ). waited e ++ ws) (waits_append es fs) ∙ sym (append_assoc (waited e) (waits_of es) (waits_of fs))

waits_told : (e : Event) → waits_of (told e) ≡ waited e
unfolding waits_of
waits_told event.Nothing = refl
waits_told (event.Wait cycles) = refl
waits_told (event.Enter address) = refl

-- a call waits as its setting says: what it tells, and the delay of what was read where it is accepted
abbrev pub Waits : List ℕ → CallOutcome → Type 0
Waits delay o = waited o.answer.event ≡ pick (accepted o.answer.refusal) delay []

-- a call that tells no wait, of a command that has none
none_waited : (o : CallOutcome) → waited o.answer.event ≡ [] → Waits [] o
none_waited o e = e ∙ of_choice (λ (ws : List ℕ). ◌≡◌ {A = List ℕ} [] ws) (accepted o.answer.refusal) (λ t. refl) (λ t. refl)

-- a command that was judged and done tells its event where it is accepted
after_event : (s : Session) (h : Happening) (w : Wrote) (done : Done) (next : ℕ) → waited done.event ≡ [] → waited (flash.after s h w done next).event ≡ []
unfolding flash.after
after_event s h w done next e = of_choice (λ (a : Called). waited a.event ≡ []) _ (λ t. e) (λ t. refl)

load_event : (s : Session) (m image : List ℕ) (next address size : ℕ) (j : Judged)
    → waited (step.load_judged_as s m image next address size j).answer.event ≡ []
unfolding step.load_at
load_event s m image next address size (Ok place) =
    of_choice (λ (o : CallOutcome). waited o.answer.event ≡ []) _ (λ t. refl)
    (λ t. of_choice (λ (o : CallOutcome). waited o.answer.event ≡ []) _ (λ t. refl) (λ t. refl))
load_event s m image next address size (Err q) = refl

fill_event : (j : Judged) (on : Bool) (checksum address size kind pattern : ℕ) → waited (fill_done j on checksum address size kind pattern).event ≡ []
unfolding fill_done
fill_event (Ok place) on checksum address size kind pattern = refl
fill_event (Err q) on checksum address size kind pattern = refl

close_event : (j : Judged) (checksum address : ℕ) → waited (close_done j checksum address).event ≡ []
unfolding close_done
close_event (Ok place) checksum address = refl
close_event (Err q) checksum address = refl

-- a setting: granted it waits, refused it does not
setting_waits : (s : Session) (m : List ℕ) (next word value delay : ℕ) (j : Judged) → Judges j
    → Waits (delay ∷ []) (flash-commands.setting_judged_as s m next word value delay j)
unfolding flash.after setting_done pick
setting_waits s m next word value delay (Ok place) judges = refl
setting_waits s m next word value delay (Err q) (denies ending) =
    let shut : accepted (Some q) ≡ false = ne_eqb (code_of (Some q)) 0 ending.refused in
    ap (λ (a : Called). waited a.event) (passed _ _ _ shut)
    ∙ sym (ap (λ (a : Called). pick (accepted a.refusal) (delay ∷ []) []) (passed _ _ _ shut) ∙ passed _ _ _ shut)

seek_event : (s : Session) (led : Sought) → waited (flash-commands.sought_as s led).event ≡ []
seek_event s (Ok offset) = refl
seek_event s (Err q) = refl

request_event : (s : Session) (next expected seek : ℕ) → waited (flash-commands.requested s next expected seek).event ≡ []
unfolding flash-commands.requested
request_event s next expected seek =
    of_choice (λ (a : Called). waited a.event ≡ []) _ (λ t. refl)
    (λ t. of_choice (λ (a : Called). waited a.event ≡ []) _ (λ t. refl) (λ t. seek_event s (sought_from s.offset seek)))

module _ (s : Session) (m image : List ℕ) (next : ℕ) where
  performed_waits : (c : Command) → Waits (by_writing c [] [] (argument image s.offset 3 ∷ []) []) (performed c next s m image)
  performed_waits command.Load = none_waited (performed command.Load next s m image)
      (load_event s m image next (argument image s.offset 0) (argument image s.offset 1)
      (flash-commands.overflowing s (argument image s.offset 1) (load_judged s.windows (argument image s.offset 0) (argument image s.offset 1))))
  performed_waits command.Fill = none_waited (performed command.Fill next s m image) (after_event s _ _ _ next (fill_event _ s.on s.checksum _ _ _ _))
  performed_waits command.BootTable =
      setting_waits s m next (argument image s.offset 0) (argument image s.offset 2) (argument image s.offset 3)
      (flash-commands.out_of_numbers s (setting_judged s.windows (argument image s.offset 0) (argument image s.offset 1) (argument image s.offset 2)))
      (barred_judges (is_spent s.totals) (ends refusal.Number refl) (setting_judges s.windows _ _ _))
  performed_waits command.Enable = none_waited (performed command.Enable next s m image) refl
  performed_waits command.Disable = none_waited (performed command.Disable next s m image) refl
  performed_waits command.Request = none_waited (performed command.Request next s m image) (request_event s next _ _)
  performed_waits command.StartOver = none_waited (performed command.StartOver next s m image) refl
  performed_waits command.JumpAndClose = none_waited (performed command.JumpAndClose next s m image) (after_event s _ _ _ next (close_event _ s.checksum _))
  performed_waits command.Ping = none_waited (performed command.Ping next s m image) refl
  performed_waits command.SequentialRead = none_waited (performed command.SequentialRead next s m image) refl

followed_waits : (s : Session) (m image : List ℕ) (what : Result Known Unread) → Waits (delay_of image s.offset what) (followed s m image what)
followed_waits s m image (Err said) = none_waited (followed s m image (Err said)) refl
followed_waits s m image (Ok f) = performed_waits (flash.fetching (1 + f.words) s) m image (past_words s.offset f.words) f.command

-- a session that is spared waits for nothing
spared_waits : (delay : List ℕ) (q : Verdict) (s : Session) (m : List ℕ) → accepted q ≡ false → Waits delay (flash.◌leaving◌ (flash.unchanged q s) m)
spared_waits delay q s m shut = sym (passed _ _ _ shut)

-- so of every call
pub call_waits : (s : Session) (m image : List ℕ) → Waits (delay_of image s.offset (read_at image s.offset s.dialect)) (step_of s m image)
unfolding step_of
call_waits s m image =
    let delay = delay_of image s.offset (read_at image s.offset s.dialect) in
    of_choice (Waits delay) _ (λ t. spared_waits delay refusal.Ended s m refl)
    (λ t. of_choice (Waits delay) _ (λ t. spared_waits delay refusal.Memory s m refl)
    (λ t. of_choice (Waits delay) _ (λ t. spared_waits delay refusal.Image s m refl)
    (λ t. followed_waits s m image (read_at image s.offset s.dialect))))

-- and of a run
waits_on : (image : List ℕ) (n : ℕ) (s : Session) (m : List ℕ) → waits_of (events_on n (step_of s m image) image) ≡ delays_on n s m image
unfolding events_on delays_on waits_of
waits_on image zero s m = waits_told (step_of s m image).answer.event ∙ call_waits s m image
waits_on image (suc n) s m =
    let o = step_of s m image in
    waits_append (told o.answer.event) _
    ∙ ap₂ ◌++◌ (waits_told o.answer.event ∙ call_waits s m image)
    (by_test (goes_on o.answer)
    (λ on. ap waits_of (chosen _ _ _ on) ∙ waits_on image n o.answer.session o.memory ∙ sym (chosen _ _ _ on))
    (λ off. ap waits_of (passed _ _ _ off) ∙ sym (passed _ _ _ off)))

-- the last of two stretches is that of the second, if it has one
last_append : (es : List Event) (f : Event) (fs : List Event) → last_of (es ++ (f ∷ fs)) ≡ last_of (f ∷ fs)
unfolding last_of
last_append [] f fs = refl
last_append (e ∷ []) f fs = refl
last_append (e ∷ g ∷ es) f fs = last_append (g ∷ es) f fs

last_told : (e : Event) → last_of (told e) ≡ e
unfolding last_of
last_told event.Nothing = refl
last_told (event.Wait cycles) = refl
last_told (event.Enter address) = refl

-- an entry is the last of two stretches where it is the last of the second; and where it is the last of both, it is that of the second, or of the first
not_entering : (address : ℕ) → event.Nothing ≡ event.Enter address → ⊥
not_entering address e = absurd (omega (arith, ap kind_of e))

last_later : (es fs : List Event) (address : ℕ) → last_of fs ≡ event.Enter address → last_of (es ++ fs) ≡ event.Enter address
unfolding last_of
last_later es [] address e = absurd (not_entering address e)
last_later es (f ∷ fs) address e = last_append es f fs ∙ e

last_of_two : (es fs : List Event) (address : ℕ) → last_of (es ++ fs) ≡ event.Enter address
    → (last_of fs ≡ event.Enter address) ⊎ (last_of es ≡ event.Enter address)
last_of_two es [] address e = inr (sym (ap last_of (append-nil es)) ∙ e)
last_of_two es (f ∷ fs) address e = inl (sym (last_append es f fs) ∙ e)

-- a call that enters does not go on
pub enters_stops : (s : Session) (image : List ℕ) (a : Called) → kind_of a.event ≡ 3 → Way s image a → goes_on a ≡ false
enters_stops s image a entering (forward f) =
    calls.accepted_goes a (ap code_of f.accepted) ∙ ap not (f.ended ∙ eq-eqb (kind_of a.event) 3 entering)
enters_stops s image a entering (back b) = absurd (omega (arith, entering, ap kind_of b.no_event))
enters_stops s image a entering (kept k) = absurd (omega (arith, entering, ap kind_of k.no_event))

module _ (image : List ℕ) (address : ℕ) where
  last_enters : (n : ℕ) (s : Session) (m : List ℕ) → (carried_on n (step_of s m image) image).answer.event ≡ event.Enter address
      → last_of (events_on n (step_of s m image) image) ≡ event.Enter address
  unfolding carried_on events_on
  last_enters zero s m e = last_told (step_of s m image).answer.event ∙ e
  last_enters (suc n) s m e =
      let o = step_of s m image in
      by_test (goes_on o.answer)
      (λ on.
      ap (λ (es : List Event). last_of (told o.answer.event ++ es)) (chosen _ _ _ on)
      ∙ last_later (told o.answer.event) _ address
      (last_enters n o.answer.session o.memory (sym (ap (λ (p : CallOutcome). p.answer.event) (calls.goes image n o on)) ∙ e)))
      (λ off.
      ap (λ (es : List Event). last_of (told o.answer.event ++ es)) (passed _ _ _ off)
      ∙ ap last_of (append-nil (told o.answer.event)) ∙ last_told o.answer.event
      ∙ sym (ap (λ (p : CallOutcome). p.answer.event) (calls.stays image (suc n) o off)) ∙ e)

  -- the entry is not that of a call that goes on
  later_enters : (s : Session) (m : List ℕ) (rest : List Event) → goes_on (step_of s m image).answer ≡ true
      → (last_of rest ≡ event.Enter address) ⊎ (last_of (told (step_of s m image).answer.event) ≡ event.Enter address) → last_of rest ≡ event.Enter address
  later_enters s m rest on (inl e) = e
  later_enters s m rest on (inr e) =
      let entering = ap kind_of (sym (last_told (step_of s m image).answer.event) ∙ e) in
      absurd (true≢false (sym on ∙ enters_stops s image (step_of s m image).answer entering (every_call s m image).way))

  only_last : (n : ℕ) (s : Session) (m : List ℕ) → last_of (events_on n (step_of s m image) image) ≡ event.Enter address
      → (carried_on n (step_of s m image) image).answer.event ≡ event.Enter address
  unfolding carried_on events_on
  only_last zero s m e = sym (last_told (step_of s m image).answer.event) ∙ e
  only_last (suc n) s m e =
      let o = step_of s m image in
      by_test (goes_on o.answer)
      (λ on.
      let rest = events_on n (step_of o.answer.session o.memory image) image in
      let joined = sym (ap (λ (es : List Event). last_of (told o.answer.event ++ es)) (chosen _ _ _ on)) ∙ e in
      ap (λ (p : CallOutcome). p.answer.event) (calls.goes image n o on)
      ∙ only_last n o.answer.session o.memory (later_enters s m rest on (last_of_two (told o.answer.event) rest address joined)))
      (λ off.
      ap (λ (p : CallOutcome). p.answer.event) (calls.stays image (suc n) o off)
      ∙ sym (ap (λ (es : List Event). last_of (told o.answer.event ++ es)) (passed _ _ _ off)
      ∙ ap last_of (append-nil (told o.answer.event)) ∙ last_told o.answer.event)
      ∙ e)

pub events_of_a_run : EventsOfARun
unfolding events_from run_events delays_from ran_from run_of waits_of last_of
events_of_a_run =
    record {
      waits = λ o m image.
          by_test (opens o)
          (λ t. ap waits_of (chosen _ _ _ t) ∙ waits_on image (enough o.session) o.session m ∙ sym (chosen _ _ _ t))
          (λ t. ap waits_of (passed _ _ _ t) ∙ sym (passed _ _ _ t));
      enters = λ o m image address e.
          by_test (opens o)
          (λ t.
          ap last_of (chosen _ _ _ t)
          ∙ last_enters image address (enough o.session) o.session m (sym (ap (λ (p : CallOutcome). p.answer.event) (chosen _ _ _ t)) ∙ e))
          (λ t. absurd (not_entering address (sym (ap (λ (p : CallOutcome). p.answer.event) (passed _ _ _ t)) ∙ e)));
      only = λ o m image address e.
          by_test (opens o)
          (λ t.
          ap (λ (p : CallOutcome). p.answer.event) (chosen _ _ _ t)
          ∙ only_last image address (enough o.session) o.session m (sym (ap last_of (chosen _ _ _ t)) ∙ e))
          (λ t. absurd (not_entering address (sym (ap last_of (passed _ _ _ t)) ∙ e)));
    }

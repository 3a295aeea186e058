-- A talk without the codes of its refusals, turn by turn: what a turn leaves is told by what the host says in it and by what its units do to the loader.
use Prim.Native.Nat.{ℕ, zero, suc, ◌+◌}
use mathlib.Core.Bool.{Bool, true, false, not, ◌&&◌}
use mathlib.Core.List.{List, [], ◌++◌, append-nil}
use mathlib.Core.Path.{◌≡◌, refl, sym, ap, ◌∙◌}
use native.Mathlib.Nat.{zero-add, suc-add}
use lib.Dec.{eqb}
use lib.ListN.{length}
use borrow.Author.Tests.{eq-eqb}
use Rattle.words.proofs.Choice.{chosen, passed}
use Rattle.opcodes.specs.declared.Event.{Event}
use Rattle.opcodes.specs.rules.Refusals.{Verdict}
use Rattle.opcodes.specs.rules.Refusals as refusal
use Rattle.flash_session.specs.rules.Opening.{good_length}
use Rattle.sent.specs.rules.Feeding.{State, Heard, fed, answers, replied, events_heard}
use Rattle.sent.specs.declared.Bus.{Bus}
use Rattle.sent.proofs.Feeding.{none_replied, none_told}
use Rattle.sent.proofs.Lift.{absorbed}
use Rattle.law_line.specs.claims.Line.{Carries}
use Rattle.host_answers.specs.rules.Hosts.{heard_all}
use Rattle.host_answers.specs.rules.Answers as answer
use Rattle.host.specs.rules.Turn.{turned, in_wait}
use Rattle.host_answers.specs.declared.Host.{Host}
use Rattle.host_answers.specs.declared.Sending.{Sending}
use Rattle.host_answers.specs.declared.Sending.TheVariants as sending
use Rattle.host_answers.specs.declared.Turned.{Turned}
use Rattle.exchange.specs.rules.Exchange.{Talk, units_sent, onward, talked}

-- host, loader and events
pub record Scene : Type 0 where
  pub host : Host
  pub loader : State
  pub events : List Event

abbrev pub scene : Host → State → List Event → Scene
scene h x es = record { host = h; loader = x; events = es }

abbrev pub seen : Talk → Scene
seen t = scene t.host t.loader t.events

module _ (image : List ℕ) where
  -- a scene after a turn, given what the host says in it
  abbrev pub played : Turned → Scene → Scene
  played said x =
      let bus : Bus = x.host.bus in
      let heard : List Heard = answers bus x.loader (units_sent bus said.sending image) in
      scene (heard_all said.host (replied heard)) (fed bus x.loader (units_sent bus said.sending image)) (x.events ++ events_heard heard)

  abbrev pub advance : Scene → Scene
  advance x = played (turned x.host image) x

  -- after n turns
  unfoldable pub turns : ℕ → Scene → Scene
  turns zero x = x
  turns (suc n) x = turns n (advance x)

  pub seen_turns : (n : ℕ) (t : Talk) → seen (talked n t image) ≡ turns n (seen t)
  unfolding talked turns onward
  seen_turns zero t = refl
  seen_turns (suc n) t = seen_turns n (onward t image)

  pub turns_add : (n k : ℕ) (x : Scene) → turns (n + k) x ≡ turns k (turns n x)
  unfolding turns
  turns_add zero k x = rw (zero-add k) refl
  turns_add (suc n) k x = rw (suc-add n k) (turns_add n k (advance x))

  -- a turn that is told: what the host says, and what its units carry
  pub by_turn : (h h' : Host) (x y : State) (es fs : List Event) (bytes : List ℕ) (out : Sending) → turned h image ≡ answer.sending out h'
      → Carries h.bus x (units_sent h.bus out image) y bytes fs → advance (scene h x es) ≡ scene (heard_all h' bytes) y (es ++ fs)
  by_turn h h' x y es fs bytes out said carried =
      ap (λ (t : Turned). played t (scene h x es)) said
      ∙ (λ i. scene (heard_all h' (carried.replies i)) (carried.leads i) (es ++ carried.tells i))

  -- nothing goes out
  pub nothing_carried : (bus : Bus) (x : State) → Carries bus x [] x [] []
  unfolding fed answers replied events_heard
  nothing_carried bus x = record { leads = refl; replies = refl; tells = refl }

  -- an ended loader absorbs all
  pub absorbed_carried : (bus : Bus) (x : State) (units : List ℕ) → x.session.core.ended ≡ true → Carries bus x units x [] []
  absorbed_carried bus x units over =
      let a = absorbed bus x units over in
      record {
        leads = a.stays;
        replies = ap replied a.hears ∙ none_replied refusal.Ended (length units);
        tells = ap events_heard a.hears ∙ none_told refusal.Ended (length units);
      }

  -- a silent turn: the loader has ended, so nothing is heard
  pub silent_turn : (h h' : Host) (x : State) (es : List Event) (out : Sending) → turned h image ≡ answer.sending out h' → x.session.core.ended ≡ true
      → advance (scene h x es) ≡ scene h' x es
  unfolding heard_all
  silent_turn h h' x es out said over =
      by_turn h h' x x es [] [] out said (absorbed_carried h.bus x (units_sent h.bus out image) over)
      ∙ ap (λ (fs : List Event). scene h' x fs) (append-nil es)

  -- a turn in which nothing goes out
  pub idle_turn : (h h' : Host) (x : State) (es : List Event) → turned h image ≡ answer.sending sending.Nothing h' → advance (scene h x es) ≡ scene h' x es
  unfolding heard_all
  idle_turn h h' x es said =
      by_turn h h' x x es [] [] sending.Nothing said (nothing_carried h.bus x) ∙ ap (λ (fs : List Event). scene h' x fs) (append-nil es)

  -- a refused turn
  pub refused_turn : (h h' : Host) (x : State) (es : List Event) (q : Verdict) → turned h image ≡ answer.unchanged q h' → advance (scene h x es) ≡ scene h' x es
  unfolding heard_all fed answers replied events_heard
  refused_turn h h' x es q said =
      ap (λ (t : Turned). played t (scene h x es)) said ∙ ap (λ (fs : List Event). scene h' x fs) (append-nil es)

  -- the turn of a host that has ended, and of one that goes by its wait
  pub ended_turned : (h : Host) → h.ended ≡ true → turned h image ≡ answer.unchanged refusal.Ended h
  unfolding turned
  ended_turned h over = chosen _ _ _ over

  pub wait_turned : (h : Host) → h.ended ≡ false → good_length (length image) ≡ true → h.length ≡ length image
      → turned h image ≡ in_wait h.stage.wait h image
  unfolding turned
  wait_turned h standing good same =
      let sound : not (good_length (length image) && eqb (length image) h.length) ≡ false =
      ap (λ (t : Bool). not (t && eqb (length image) h.length)) good ∙ ap not (eq-eqb (length image) h.length (sym same)) in
      passed _ _ _ standing ∙ passed _ _ _ sound

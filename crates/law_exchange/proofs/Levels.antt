-- Host and loader level with a flash session: the host is at its offset and about to meet the command there, the loader is like it. And at rest: one of the two
-- has ended, so that nothing more happens and the host ends soon.
use Prim.Native.Nat.{ℕ, zero, suc, ◌+◌, ◌/◌, ◌≤◌}
use mathlib.Core.Bool.{true, false, true≢false}
use mathlib.Core.List.{List, ◌++◌, append-nil}
use mathlib.Core.Path.{◌≡◌, refl, sym, ap, subst, ◌∙◌}
use lib.ListN.{length}
use Rattle.opcodes.specs.rules.Answers.{told}
use Rattle.opcodes.specs.declared.Event.{Event}
use Rattle.opcodes.specs.declared.Event.TheVariants.{Nothing}
use Rattle.flash_session.specs.rules.Sessions.{CallOutcome}
use Rattle.flash_session.specs.declared.Session.{Session}
use Rattle.flash_runs.specs.rules.Run.{goes_on}
use Rattle.machine_answers.specs.declared.Core.{Core}
use Rattle.sent.specs.rules.Feeding.{State}
use Rattle.sent.specs.claims.Lift.{at_word}
use Rattle.sent.specs.declared.Bus.{Bus}
use Rattle.law_line.specs.claims.Line.{Standing, Stopped, GoesOnAt, Keeps}
use Rattle.host_ear.specs.rules.Ear.{nothing_heard}
use Rattle.host.specs.rules.Turn.{turned}
use Rattle.host_answers.specs.declared.Host.{Host}
use Rattle.host_answers.specs.declared.Wait.TheVariants as wait
use Rattle.exchange.specs.rules.Exchange.{units_sent}
use Rattle.law_exchange.proofs.Scenes.{Scene, scene, advance, turns, absorbed_carried}
use Rattle.law_exchange.proofs.Silence.{ended_stays}
use Rattle.law_exchange.proofs.Standing.{host_at}

-- one of the two has ended
pub data Over (x : Scene) : Type 0 where
  host_over : x.host.ended ≡ true → Over x
  loader_over : x.loader.session.core.ended ≡ true → Over x

module _ (image : List ℕ) where
  -- then loader, memory and events stay
  record Still (x y : Scene) : Type 0 where
    loader : y.loader ≡ x.loader
    events : y.events ≡ x.events

  one_still : (x : Scene) → x.loader.session.core.ended ≡ true → Still x (advance image x)
  one_still x over =
      let carried = absorbed_carried image x.host.bus x.loader (units_sent x.host.bus (turned x.host image).sending image) over in
      record { loader = carried.leads; events = ap (λ (fs : List Event). x.events ++ fs) carried.tells ∙ append-nil x.events }

  loader_still : (n : ℕ) (x : Scene) → x.loader.session.core.ended ≡ true → Still x (turns image n x)
  unfolding turns
  loader_still zero x over = record { loader = refl; events = refl }
  loader_still (suc n) x over =
      let first = one_still x over in
      let rest = loader_still n (advance image x) (ap (λ (l : State). l.session.core.ended) first.loader ∙ over) in
      record { loader = rest.loader ∙ first.loader; events = rest.events ∙ first.events }

  pub over_stays : (n : ℕ) (x : Scene) → Over x → ((turns image n x).loader.memory ≡ x.loader.memory) × ((turns image n x).events ≡ x.events)
  over_stays n x (host_over e) =
      let same = ended_stays image n x e in
      (ap (λ (y : Scene). y.loader.memory) same, ap (λ (y : Scene). y.events) same)
  over_stays n x (loader_over e) =
      let still = loader_still n x e in
      (ap (λ (l : State). l.memory) still.loader, still.events)

module _ (bus : Bus) (image : List ℕ) (tries pings : ℕ) where
  -- the host that is level with a flash session
  abbrev pub host_of : Session → Host
  host_of s = host_at bus s.dialect image tries s.limit pings s.retries s.offset 0 wait.Nothing nothing_heard

  pub record Level (s : Session) (m : List ℕ) (es : List Event) (x : Scene) : Type 0 where
    pub core : Core
    pub is : x ≡ scene (host_of s) (at_word core m) es
    pub stands : Standing s m image core

  -- the turns in which a host ends that nobody answers
  abbrev pub rest_turns : ℕ
  rest_turns = length image / 4 + 1 + 1 + tries

  pub record Rest (m : List ℕ) (es : List Event) (x : Scene) : Type 0 where
    pub memory : x.loader.memory ≡ m
    pub events : x.events ≡ es
    pub over : Over x
    pub ends : (turns image rest_turns x).host.ended ≡ true

  -- some turns follow a call of flash: to the level of its session, or to rest
  pub record Followed (o : CallOutcome) (es : List Event) (x : Scene) : Type 0 where
    pub count : ℕ
    pub few : count ≤ 3
    pub goes : goes_on o.answer ≡ true → Level o.answer.session o.memory (es ++ told o.answer.event) (turns image count x)
    pub stops : goes_on o.answer ≡ false → Rest o.memory (es ++ told o.answer.event) (turns image count x)

  -- no event adds nothing
  no_event_adds : (o : CallOutcome) (es : List Event) → o.answer.event ≡ Nothing → es ≡ es ++ told o.answer.event
  no_event_adds o es e = sym (ap (λ (v : Event). es ++ told v) e ∙ append-nil es)

  -- the host has ended, and the call is refused
  pub stopped_follows : (o : CallOutcome) (m : List ℕ) (es : List Event) (x y : Scene) (count : ℕ) → count ≤ 3 → turns image count x ≡ y
      → y.host.ended ≡ true → y.loader.memory ≡ m → y.events ≡ es → Stopped m o → Followed o es x
  stopped_follows o m es x y count few arrives ended memory events stopped =
      record {
        count = count;
        few = few;
        goes = λ on. absurd (true≢false (sym on ∙ stopped.stops));
        stops = λ _. subst (Rest o.memory (es ++ told o.answer.event)) (sym arrives)
            (record {
              memory = memory ∙ sym stopped.memory;
              events = events ∙ no_event_adds o es stopped.no_event;
              over = host_over ended;
              ends = ap (λ (z : Scene). z.host.ended) (ended_stays image rest_turns y ended) ∙ ended;
            });
      }

  -- the call goes on with no event and nothing written, and both are level again
  module _ (s : Session) (o : CallOutcome) (keeps : Keeps s o.answer.session) where
    abbrev next : Session
    next = o.answer.session

    -- the host, once offset and retries are those of the session after the call
    host_is : (retries offset : ℕ) → next.retries ≡ retries → next.offset ≡ offset
        → host_at bus s.dialect image tries s.limit pings retries offset 0 wait.Nothing nothing_heard ≡ host_of next
    host_is retries offset r e =
        λ i. host_at bus (sym keeps.dialect i) image tries (sym keeps.limit i) pings (sym r i) (sym e i) 0 wait.Nothing nothing_heard

    pub level_again : (m : List ℕ) (es fs : List Event) (y : Scene) (k : Core) (retries offset : ℕ)
        → y ≡ scene (host_at bus s.dialect image tries s.limit pings retries offset 0 wait.Nothing nothing_heard) (at_word k m) es
        → next.retries ≡ retries → next.offset ≡ offset → o.memory ≡ m → es ≡ fs → Standing next m image k → Level next o.memory fs y
    level_again m es fs y k retries offset arrives r e memory events stands =
        record {
          core = k;
          is = arrives ∙ (λ i. scene (host_is retries offset r e i) (at_word k (sym memory i)) (events i));
          stands = subst (λ (n : List ℕ). Standing next n image k) (sym memory) stands;
        }

    pub on_follows : (m : List ℕ) (es : List Event) (x y : Scene) (k : Core) (retries offset count : ℕ) → count ≤ 3 → turns image count x ≡ y
        → y ≡ scene (host_at bus s.dialect image tries s.limit pings retries offset 0 wait.Nothing nothing_heard) (at_word k m) es
        → GoesOnAt m image o offset retries k → Followed o es x
    on_follows m es x y k retries offset count few arrives is g =
        record {
          count = count;
          few = few;
          goes = λ _. level_again m es _ (turns image count x) k retries offset (arrives ∙ is) g.retries_are g.offset_is g.memory
              (no_event_adds o es g.no_event) g.standing;
          stops = λ off. absurd (true≢false (sym g.goes ∙ off));
        }

-- The theorem: the first turns lead to the level of the opened flash session, each call of its run is followed, and where the run stops host and loader come to
-- rest. An opening that is refused in flash is refused by the host, which has then ended.
use Prim.Native.Nat.{ℕ, zero, suc, ◌+◌, ◌-◌, ◌*◌, ◌≤◌}
use mathlib.Core.Bool.{true, false, not, ◌&&◌}
use mathlib.Core.List.{List, [], ◌++◌, append-nil, append_assoc}
use mathlib.Core.Path.{◌≡◌, refl, sym, ap, ap₂, subst, ◌∙◌}
use native.Mathlib.Omega.{arith}
use lib.Dec.{leb, eqb}
use lib.ListN.{length}
use borrow.Author.Tests.{le-leb}
use Rattle.words.specs.rules.Bytes.{word_at}
use Rattle.words.specs.rules.Choice.{pick}
use Rattle.words.proofs.Choice.{chosen, passed, by_test}
use Rattle.windows.specs.rules.Map.{kept_of}
use Rattle.windows.specs.declared.Window.{Window}
use Rattle.opcodes.specs.rules.Answers.{accepted, told}
use Rattle.opcodes.specs.declared.Dialect.{Dialect}
use Rattle.opcodes.specs.declared.Event.{Event}
use Rattle.opcodes.specs.rules.Refusals.{Verdict}
use Rattle.opcodes.specs.rules.Refusals as refusal
use Rattle.flash_session.specs.rules.Opening as flash
use Rattle.flash_session.specs.rules.Opening.{good_length, magic}
use Rattle.flash_session.specs.rules.Sessions.{CallOutcome}
use Rattle.flash.specs.rules.Step.{step_of}
use Rattle.flash_session.specs.declared.Opened.{Opened}
use Rattle.flash_session.specs.declared.Session.{Session}
use Rattle.flash_runs.specs.rules.Run.{goes_on, carried_on, enough, run_of, ran_from}
use Rattle.flash_runs.specs.rules.Events.{events_on, run_events, events_from}
use Rattle.flash_runs.proofs.Calls as calls
use Rattle.flash_runs.proofs.Ends.{run_ends}
use Rattle.sent.specs.rules.Opening as sent
use Rattle.sent.specs.declared.Bus.{Bus}
use Rattle.machine_answers.specs.rules.Replies.{sent_bytes}
use Rattle.host_laws.proofs.HearingLaws.{only_the_ear}
use Rattle.law_line.specs.claims.Line.{OnTheLine}
use Rattle.host_answers.specs.rules.Hosts as host
use Rattle.host_answers.specs.rules.Hosts.{most_tries, heard_all}
use Rattle.host_answers.specs.declared.Host.{Host}
use Rattle.host_answers.specs.declared.Opened.{Opened as HostOpened}
use Rattle.sent.specs.declared.Opened.{Opened as LoaderOpened}
use Rattle.exchange.specs.rules.Exchange.{Talk, meeting}
use Rattle.law_exchange.specs.claims.Course.{Premises, exchange_turns, talk_after, in_flash, Course, SameCourse}
use Rattle.law_exchange.proofs.Beginning.{greeted, begins_level}
use Rattle.law_exchange.proofs.Following.{follows}
use Rattle.law_exchange.proofs.Levels.{over_stays, rest_turns, Level, Rest, Followed}
use Rattle.law_exchange.proofs.Scenes.{Scene, scene, seen, turns, seen_turns, turns_add}
use Rattle.law_exchange.proofs.Silence.{ended_stays, ended_later}

-- the events of a run, call by call
pub events_stay : (image : List ℕ) (n : ℕ) (o : CallOutcome) → goes_on o.answer ≡ false → events_on n o image ≡ told o.answer.event
unfolding events_on
events_stay image zero o off = refl
events_stay image (suc n) o off = ap (λ (es : List Event). told o.answer.event ++ es) (passed _ _ _ off) ∙ append-nil _

pub events_go : (image : List ℕ) (n : ℕ) (o : CallOutcome) → goes_on o.answer ≡ true
    → events_on (suc n) o image ≡ told o.answer.event ++ events_on n (step_of o.answer.session o.memory image) image
unfolding events_on
events_go image n o on = ap (λ (es : List Event). told o.answer.event ++ es) (chosen _ _ _ on)

module _ (line : OnTheLine) (bus : Bus) (image : List ℕ) (tries pings : ℕ) (good : good_length (length image) ≡ true) (some : 1 ≤ tries) where
  -- a run of at most n calls more, followed to rest
  record Arrived (n : ℕ) (o : CallOutcome) (es : List Event) (x : Scene) : Type 0 where
    count : ℕ
    few : count ≤ 3 * n + 3
    rest : Rest bus image tries pings (carried_on n o image).memory (es ++ events_on n o image) (turns image count x)

  -- a call at which the run stops
  stops_here : (n : ℕ) (o : CallOutcome) (es : List Event) (x : Scene) → Followed bus image tries pings o es x → goes_on o.answer ≡ false → Arrived n o es x
  stops_here n o es x f off =
      record {
        count = f.count;
        few = omega (arith, f.few);
        rest = subst (λ (m : List ℕ). Rest bus image tries pings m (es ++ events_on n o image) (turns image f.count x))
            (sym (ap (λ (p : CallOutcome). p.memory) (calls.stays image n o off)))
            (subst (λ (fs : List Event). Rest bus image tries pings o.memory (es ++ fs) (turns image f.count x)) (sym (events_stay image n o off))
            (f.stops off));
      }

  -- one after which it goes on
  goes-on : (n : ℕ) (o : CallOutcome) (es : List Event) (x : Scene) (f : Followed bus image tries pings o es x) → goes_on o.answer ≡ true
      → Arrived n (step_of o.answer.session o.memory image) (es ++ told o.answer.event) (turns image f.count x) → Arrived (suc n) o es x
  goes-on n o es x f on later =
      let next = step_of o.answer.session o.memory image in
      let events : (es ++ told o.answer.event) ++ events_on n next image ≡ es ++ events_on (suc n) o image =
      append_assoc es (told o.answer.event) (events_on n next image) ∙ ap (λ (fs : List Event). es ++ fs) (sym (events_go image n o on)) in
      let memory : (carried_on n next image).memory
      ≡ (carried_on (suc n) o image).memory = ap (λ (p : CallOutcome). p.memory) (sym (calls.goes image n o on)) in
      record {
        count = f.count + later.count;
        few = omega (arith, f.few, later.few);
        rest = subst (Rest bus image tries pings (carried_on (suc n) o image).memory (es ++ events_on (suc n) o image)) (sym (turns_add image f.count _ x))
            (subst
            (λ (m : List ℕ). Rest bus image tries pings m (es ++ events_on (suc n) o image) (turns image later.count (turns image f.count x))) memory
            (subst (λ (fs : List Event). Rest bus image tries pings (carried_on n next image).memory fs (turns image later.count (turns image f.count x)))
            events later.rest));
      }

  -- the run of a session
  arrives : (n : ℕ) (s : Session) (m : List ℕ) (es : List Event) (x : Scene) → Level bus image tries pings s m es x
      → goes_on (carried_on n (step_of s m image) image).answer ≡ false → Arrived n (step_of s m image) es x
  unfolding carried_on
  arrives zero s m es x level off = stops_here zero (step_of s m image) es x (follows line bus image tries pings good some s m es x level) off
  arrives (suc n) s m es x level off =
      let o = step_of s m image in
      let f = follows line bus image tries pings good some s m es x level in
      by_test (goes_on o.answer)
      (λ on. goes-on n o es x f on
      (arrives n o.answer.session o.memory (es ++ told o.answer.event) (turns image f.count x) (f.goes on)
      (sym (ap (λ (p : CallOutcome). goes_on p.answer) (calls.goes image n o on)) ∙ off)))
      (λ here. stops_here (suc n) o es x f here)

-- at rest for good
rest_course : (bus : Bus) (image : List ℕ) (tries pings count n : ℕ) (m : List ℕ) (es : List Event) (x : Scene)
    → Rest bus image tries pings m es (turns image count x) → count + rest_turns bus image tries pings ≤ n
    → ((turns image n x).host.ended ≡ true) × ((turns image n x).events ≡ es) × ((turns image n x).loader.memory ≡ m)
rest_course bus image tries pings count n m es x rest enough_Turns =
    let y = turns image count x in
    let more : n ≡ count + (n - count) = omega (arith, enough_Turns) in
    let whole : turns image n x ≡ turns image (n - count) y = ap (λ (j : ℕ). turns image j x) more ∙ turns_add image count (n - count) x in
    let still = over_stays image (n - count) y rest.over in (
      ap (λ (z : Scene). z.host.ended) whole
          ∙ ended_later image (rest_turns bus image tries pings) (n - count) y rest.ends (omega (arith, enough_Turns)),
      ap (λ (z : Scene). z.events) whole ∙ still.1 ∙ rest.events,
      ap (λ (z : Scene). z.loader.memory) whole ∙ still.0 ∙ rest.memory,
    )

module _ (line : OnTheLine) (bus : Bus) (dialect : Dialect) (count : ℕ) (windows : List Window) (m image : List ℕ) (tries limit pings : ℕ)
    (premises : Premises bus dialect count windows m image tries limit pings) where
  abbrev talk : ℕ → Talk
  talk n = talk_after bus dialect count windows m image tries limit pings n

  abbrev flash_opening : Opened
  flash_opening = in_flash bus dialect count windows m image tries limit pings

  abbrev first : Talk
  first = meeting bus dialect count windows m image tries limit pings

  -- what is seen of the talk after n turns
  told_so : (n : ℕ) → (turns image n (seen first)).host.ended ≡ true → (turns image n (seen first)).events ≡ events_from flash_opening m image
      → (turns image n (seen first)).loader.memory ≡ (ran_from flash_opening m image).memory → Course bus dialect count windows m image tries limit pings n
  told_so n ended events memory =
      let same = seen_turns image n first in
      record {
        ended = ap (λ (x : Scene). x.host.ended) same ∙ ended;
        events = ap (λ (x : Scene). x.events) same ∙ events;
        memory = ap (λ (x : Scene). x.loader.memory) same ∙ memory;
      }

  -- the loader's opening
  loader_opens : sent.opened_by bus dialect count windows
      ≡ record { refusal = refusal.None; reply = sent.greeting bus; session = sent.at_start dialect (kept_of count windows) false }
  unfolding sent.opened_by
  loader_opens = passed _ _ _ (ap not premises.map)

  -- an opening that both refuse: the host has ended
  module _ (q : Verdict) (fetched : ℕ) (wrong : accepted q ≡ false) (in-flash : flash_opening ≡ flash.refused_by q fetched)
      (by-host : host.opened_by bus dialect image tries limit pings ≡ host.refused_by q) where
    host_ended : (seen first).host.ended ≡ true
    host_ended =
        ap (λ (h : Host). h.ended) (only_the_ear (sent_bytes (sent.opened_by bus dialect count windows).reply)
        (host.opened_by bus dialect image tries limit pings).host)
        ∙ ap (λ (o : HostOpened). o.host.ended) by-host

    loader_memory : (seen first).loader.memory ≡ m
    loader_memory = refl

    refused_course : (n : ℕ) → Course bus dialect count windows m image tries limit pings n
    unfolding events_from ran_from
    refused_course n =
        let stays = ended_stays image n (seen first) host_ended in
        told_so n (ap (λ (x : Scene). x.host.ended) stays ∙ host_ended)
        (ap (λ (x : Scene). x.events) stays ∙ sym (ap (λ (o : Opened). events_from o m image) in-flash ∙ passed _ _ _ wrong))
        (ap (λ (x : Scene). x.loader.memory) stays
        ∙ sym (ap (λ (o : Opened). (ran_from o m image).memory) in-flash ∙ ap (λ (p : CallOutcome). p.memory) (passed _ _ _ wrong)))

  -- one that both accept
  module _ (good : good_length (length image) ≡ true) (right : eqb (word_at image 0) magic ≡ true) where
    abbrev session : Session
    session = (flash.begun dialect (kept_of count windows) (length image) limit).session

    flash_opens : flash_opening ≡ flash.begun dialect (kept_of count windows) (length image) limit
    unfolding flash.opened_by
    flash_opens = passed _ _ _ (ap not premises.map) ∙ passed _ _ _ (ap not good) ∙ passed _ _ _ (ap not right)

    host_opens : host.opened_by bus dialect image tries limit pings
        ≡ record { refusal = refusal.None; host = host.at_start bus dialect (length image) tries limit pings false }
    unfolding host.opened_by
    host_opens =
        let in-range : not (leb 1 tries && leb tries most_tries) ≡ false =
        ap not (ap₂ ◌&&◌ (le-leb 1 tries premises.some) (le-leb tries most_tries premises.most)) in
        passed _ _ _ (ap not good) ∙ passed _ _ _ (ap not right) ∙ passed _ _ _ in-range

    abbrev start : Scene
    start = greeted bus dialect (kept_of count windows) m image tries limit pings good premises.lent premises.word

    meets : seen first ≡ start
    meets =
        ap₂ (λ (h : HostOpened) (o : LoaderOpened). scene (heard_all h.host (sent_bytes o.reply)) (record { session = o.session; memory = m }) [])
        host_opens loader_opens
        ∙ ap (λ (h : Host). scene h (record { session = sent.at_start dialect (kept_of count windows) false; memory = m }) [])
        (only_the_ear (sent_bytes (sent.greeting bus)) (host.at_start bus dialect (length image) tries limit pings false))

    flash-events : events_from flash_opening m image ≡ events_on (enough session) (step_of session m image) image
    unfolding events_from run_events pick
    flash-events = ap (λ (o : Opened). events_from o m image) flash_opens

    flash-memory : (ran_from flash_opening m image).memory ≡ (carried_on (enough session) (step_of session m image) image).memory
    unfolding ran_from run_of pick
    flash-memory = ap (λ (o : Opened). (ran_from o m image).memory) flash_opens

    opened_course : (n : ℕ) → exchange_turns bus dialect count windows m image tries limit pings ≤ n
        → Course bus dialect count windows m image tries limit pings n
    unfolding run_of
    opened_course n enough_Turns =
        let level = begins_level bus dialect (kept_of count windows) m image tries limit pings good premises.lent premises.word premises.bytes in
        let arrived = arrives line bus image tries pings good premises.some (enough session) session m [] (turns image (pings + 4) start) level
        (run_ends session m image) in
        let total : ℕ = pings + 4 + arrived.count in
        let rest = subst (Rest bus image tries pings _ _) (sym (turns_add image (pings + 4) arrived.count start)) arrived.rest in
        let done = rest_course bus image tries pings total n _ _ start rest (omega (arith, arrived.few, enough_Turns)) in
        told_so n (ap (λ (x : Scene). (turns image n x).host.ended) meets ∙ done.0)
        (ap (λ (x : Scene). (turns image n x).events) meets ∙ done.1 ∙ sym flash-events)
        (ap (λ (x : Scene). (turns image n x).loader.memory) meets ∙ done.2 ∙ sym flash-memory)

  -- whichever it is
  course : (n : ℕ) → exchange_turns bus dialect count windows m image tries limit pings ≤ n → Course bus dialect count windows m image tries limit pings n
  unfolding flash.opened_by host.opened_by
  course n enough_Turns =
      let mapped = ap not premises.map in
      by_test (good_length (length image))
      (λ good. by_test (eqb (word_at image 0) magic)
      (λ right. opened_course good right n enough_Turns)
      (λ wrong. refused_course refusal.Magic 1 refl (passed _ _ _ mapped ∙ passed _ _ _ (ap not good) ∙ chosen _ _ _ (ap not wrong))
      (passed _ _ _ (ap not good) ∙ chosen _ _ _ (ap not wrong)) n))
      (λ bad. refused_course refusal.Image 0 refl (passed _ _ _ mapped ∙ chosen _ _ _ (ap not bad)) (chosen _ _ _ (ap not bad)) n)

pub same_course : OnTheLine → SameCourse
same_course line bus dialect count windows m image tries limit pings premises n enough_Turns =
    course line bus dialect count windows m image tries limit pings premises n enough_Turns

-- A talk settles: once the host has ended a turn changes nothing, and before that each turn leaves fewer; so the talk from any of its turns has the same end.
use Rattle.opcodes.specs.rules.Refusals.{Verdict}
use Prim.Native.Nat.{ℕ, zero, suc, ◌≤◌, ◌<◌}
use mathlib.Core.Bool.{true, false, ◌&&◌, true≢false}
use mathlib.Core.List.{List, [], ◌∷◌, append-nil}
use mathlib.Core.Path.{◌≡◌, refl, sym, ap, ap₂, ◌∙◌}
use native.Mathlib.Omega.{arith}
use native.Mathlib.Nat.{le_refl}
use lib.Dec.{eqb}
use lib.ListN.{length}
use borrow.Author.Tests.{eq-eqb, not-false}
use Rattle.words.specs.rules.Choice.{pick}
use Rattle.words.proofs.Choice.{chosen, by_test, of_choice}
use Rattle.windows.specs.declared.Window.{Window}
use Rattle.opcodes.specs.declared.Dialect.{Dialect}
use Rattle.opcodes.specs.declared.Event.{Event}
use Rattle.opcodes.specs.rules.Refusals as refusal
use Rattle.event_room.specs.rules.Room.{place_after, room_after}
use Rattle.event_room.proofs.Writing.{length_after, place_joined, room_joined}
use Rattle.flash_session.specs.rules.Opening.{good_length}
use Rattle.sent.specs.rules.Feeding.{State, fed, answers, replied, events_heard}
use Rattle.sent.specs.declared.Bus.{Bus}
use Rattle.sent.specs.declared.Session.{Session}
use Rattle.host_answers.specs.rules.Ends.{most_turns}
use Rattle.host_answers.specs.rules.Hosts.{heard_all, opened_by}
use Rattle.host_answers.specs.rules.Hosts as hosts
use Rattle.host_answers.specs.rules.Answers.{unchanged}
use Rattle.host.specs.rules.Turn.{turned}
use Rattle.host_laws.specs.claims.Looks.{is_lent, is_turn}
use Rattle.host_answers.specs.declared.Host.{Host}
use Rattle.host_answers.specs.declared.Opened.{Opened}
use Rattle.host_answers.specs.declared.Turned.{Turned}
use Rattle.host_laws.proofs.RefusalLaws.{keeps_settings}
use Rattle.host_laws.proofs.FewerLaws.{each_turn_counts}
use Rattle.exchange.specs.rules.Exchange.{Talk, units_sent, first_but_ended, after, onward, talked, meeting, exchanged}
use Rattle.exchange.specs.rules.Standing.{
  outcome_of,
  standing_of,
  left_by,
  standing_fed,
  memory_fed,
  room_fed,
  standing_onward,
  memory_onward,
  room_onward,
}
use Rattle.exchange.specs.declared.Standing.{Standing}
use Rattle.exchange.proofs.Hearing.{last_append, first_none}

-- hearing changes neither the length nor whether the host has ended
heard_length : (h : Host) (bytes : List ℕ) → (heard_all h bytes).length ≡ h.length
unfolding heard_all hosts.heard
heard_length h [] = refl
heard_length h (b ∷ bytes) = heard_length (hosts.heard h b) bytes

heard_ended : (h : Host) (bytes : List ℕ) → (heard_all h bytes).ended ≡ h.ended
unfolding heard_all hosts.heard
heard_ended h [] = refl
heard_ended h (b ∷ bytes) = heard_ended (hosts.heard h b) bytes

-- the image is the one that the host was opened with, unless it has ended
abbrev pub Lent : Host → List ℕ → Type 0
Lent h image = h.ended ≡ false → is_lent h image ≡ true

same_talk : {h : Host} {x : State} {es es₁ : List Event} {q q₁ r r₁ : Verdict} → es ≡ es₁ → q ≡ q₁ → r ≡ r₁
    → ◌≡◌ {A = Talk} (record { host = h; loader = x; events = es; host_refused = q; loader_refused = r })
    (record { host = h; loader = x; events = es₁; host_refused = q₁; loader_refused = r₁ })
same_talk a b c = rw (a, b, c) refl

module _ (image : List ℕ) where
  -- a host that has ended says 14, and that counts for nothing
  idle : (t : Talk) → t.host.ended ≡ true → onward t image ≡ t
  unfolding onward turned fed answers replied events_heard first_but_ended heard_all pick
  idle t ended =
      let still : turned t.host image ≡ unchanged refusal.Ended t.host = chosen t.host.ended _ _ ended in
      ap (λ (turn : Turned). after turn (units_sent t.host.bus turn.sending image) t) still
      ∙ same_talk (append-nil t.events) (first_none t.host_refused) (first_none t.loader_refused)

  rests : (n : ℕ) (t : Talk) → t.host.ended ≡ true → talked n t image ≡ t
  unfolding talked
  rests zero t ended = refl
  rests (suc n) t ended = ap (λ (x : Talk). talked n x image) (idle t ended) ∙ rests n t ended

  -- before that a turn leaves fewer, and the image stays the host's
  fewer : (t : Talk) → t.host.ended ≡ false → Lent t.host image → most_turns (onward t image).host < most_turns t.host
  unfolding onward
  fewer t running lent =
      let counts = each_turn_counts t.host image in
      let turn : is_turn t.host image ≡ true = rw (running, lent running) refl in
      let heard = (each_turn_counts (turned t.host image).host image).hearing in
      rw (heard _) (counts.turn turn)

  stays_lent : (t : Talk) → t.host.ended ≡ false → Lent t.host image → Lent (onward t image).host image
  unfolding onward
  stays_lent t running lent more =
      let same : (onward t image).host.length ≡ t.host.length = heard_length (turned t.host image).host _ ∙ (keeps_settings t.host image).length in
      ap (λ (n : ℕ). good_length (length image) && eqb (length image) n) same ∙ lent running

  -- as many turns as are left, or more, have the same end
  pub same_end : (n m : ℕ) (t : Talk) → Lent t.host image → most_turns t.host ≤ n → most_turns t.host ≤ m → talked n t image ≡ talked m t image
  unfolding talked
  same_end zero m t lent a b =
      by_test t.host.ended (λ e. sym (rests m t e)) (λ e. absurd (omega (arith, fewer t e lent)))
  same_end (suc n) zero t lent a b =
      by_test t.host.ended (λ e. rests (suc n) t e) (λ e. absurd (omega (arith, fewer t e lent)))
  same_end (suc n) (suc m) t lent a b =
      by_test t.host.ended (λ e. rests (suc n) t e ∙ sym (rests (suc m) t e))
      (λ e. same_end n m (onward t image) (stays_lent t e lent) (omega (arith, fewer t e lent)) (omega (arith, fewer t e lent)))

  -- a turn leads to the same end
  onward_end : (n : ℕ) (t : Talk) → most_turns t.host ≡ n → t.host.ended ≡ false → Lent t.host image
      → exchanged (onward t image) image ≡ talked n t image
  unfolding exchanged talked
  onward_end zero t e running lent = absurd (omega (arith, fewer t running lent))
  onward_end (suc n) t e running lent =
      same_end (most_turns (onward t image).host) n (onward t image) (stays_lent t running lent) (le_refl _) (omega (arith, fewer t running lent))

  -- what is kept of a talk goes on as the talk does
  standing-onward : (size : ℕ) (t : Talk) → standing_of size (onward t image) ≡ standing_onward size (standing_of size t) t.loader.memory image
  unfolding onward standing_onward standing_fed
  standing-onward size t = same_events (last_append _ t.events _) (place_joined size 0 t.events _)
    where
      same_events : {h : Host} {x : Session} {e e₁ : Event} {q r : Verdict} {p p₁ : ℕ} → e ≡ e₁ → p ≡ p₁
          → ◌≡◌ {A = Standing} (record { host = h; session = x; event = e; refusal = q; refused = r; told = p })
          (record { host = h; session = x; event = e₁; refusal = q; refused = r; told = p₁ })
      same_events e f = rw (e, f) refl

  memory-onward : (size : ℕ) (t : Talk) → (onward t image).loader.memory ≡ memory_onward (standing_of size t) t.loader.memory image
  unfolding onward memory_onward memory_fed
  memory-onward size t = refl

  room-onward : (room : List ℕ) (t : Talk)
      → room_after room 0 (onward t image).events
      ≡ room_onward (standing_of (length room) t) t.loader.memory (room_after room 0 t.events) image
  unfolding onward room_onward room_fed
  room-onward room t = room_joined room 0 t.events _

  -- what stands, with the memory and what was the room at first, is kept of a talk that leads to this end
  module _ (first : List ℕ) where
    pub record Reaches (end : Talk) (s : Standing) (m room : List ℕ) : Type 0 where
      pub talk : Talk
      pub kept : s ≡ standing_of (length first) talk
      pub memory : m ≡ talk.loader.memory
      pub written : room ≡ room_after first 0 talk.events
      pub lent : Lent talk.host image
      pub leads : exchanged talk image ≡ end

    module _ {end : Talk} {s : Standing} {m room : List ℕ} (r : Reaches end s m room) where
      abbrev t : Talk
      t = r.talk

      is_on : s.host.ended ≡ false → t.host.ended ≡ false
      is_on running = ap (λ (x : Standing). x.host.ended) (sym r.kept) ∙ running

      next_kept : {s₁ : Standing} → s₁ ≡ standing_onward (length room) s m image → s₁ ≡ standing_of (length first) (onward t image)
      next_kept e =
          let size : length room ≡ length first = ap length r.written ∙ length_after first 0 t.events in
          e
          ∙ ap (λ (k : ℕ). standing_onward k s m image) size
          ∙ ap₂ (λ (x : Standing) (l : List ℕ). standing_onward (length first) x l image) r.kept r.memory
          ∙ sym (standing-onward (length first) t)

      -- one turn more
      pub goes : {s₁ : Standing} {m₁ room₁ : List ℕ} → s.host.ended ≡ false
          → (s₁ ≡ standing_onward (length room) s m image) × ((m₁ ≡ memory_onward s m image) × (room₁ ≡ room_onward s m room image))
          → Reaches end s₁ m₁ room₁
      unfolding exchanged
      goes running after =
          let on = is_on running in
          record {
            talk = onward t image;
            kept = next_kept after.0;
            memory = after.1.0
                ∙ ap₂ (λ (x : Standing) (l : List ℕ). memory_onward x l image) r.kept r.memory
                ∙ sym (memory-onward (length first) t);
            written = after.1.1
                ∙ ap₂ (λ (x : Standing) (l : List ℕ). room_onward x l room image) r.kept r.memory
                ∙ ap (λ (l : List ℕ). room_onward (standing_of (length first) t) t.loader.memory l image) r.written
                ∙ sym (room-onward first t);
            lent = stays_lent t on r.lent;
            leads = onward_end (most_turns t.host) t refl on r.lent ∙ r.leads;
          }

      pub goes_less : {s₁ : Standing} → s.host.ended ≡ false → s₁ ≡ standing_onward (length room) s m image
          → most_turns s₁.host < most_turns s.host
      goes_less running e =
          rw (ap (λ (x : Standing). most_turns x.host) (next_kept e), ap (λ (x : Standing). most_turns x.host) r.kept)
          (fewer t (is_on running) r.lent)

      -- the end
      pub ends : s.host.ended ≡ true
          → (left_by s ≡ outcome_of (length first) end) × ((m ≡ end.loader.memory) × (room ≡ room_after first 0 end.events))
      unfolding exchanged
      ends over =
          let off : t.host.ended ≡ true = ap (λ (x : Standing). x.host.ended) (sym r.kept) ∙ over in
          let last : t ≡ end = sym (rests (most_turns t.host) t off) ∙ r.leads in (
            ap left_by r.kept ∙ ap (outcome_of (length first)) last,
            (r.memory ∙ ap (λ (x : Talk). x.loader.memory) last, r.written ∙ ap (λ (x : Talk). room_after first 0 x.events) last),
          )

abbrev Fits : List ℕ → Opened → Type 0
Fits image o = Lent o.host image

-- a host that opens is lent its image, and one that does not has ended
opened_lent : (bus : Bus) (dialect : Dialect) (image : List ℕ) (tries limit pings : ℕ) → Lent (opened_by bus dialect image tries limit pings).host image
unfolding opened_by
opened_lent bus dialect image tries limit pings =
    of_choice (Fits image) _ (λ e f. absurd (true≢false f))
    (λ good. of_choice (Fits image) _ (λ e f. absurd (true≢false f))
    (λ e. of_choice (Fits image) _ (λ e f. absurd (true≢false f))
    (λ e f. ap₂ ◌&&◌ (not-false (good_length (length image)) good) (eq-eqb (length image) (length image) refl))))

heard_lent : (h : Host) (bytes image : List ℕ) → Lent h image → Lent (heard_all h bytes) image
heard_lent h bytes image lent more =
    ap (λ (n : ℕ). good_length (length image) && eqb (length image) n) (heard_length h bytes) ∙ lent (sym (heard_ended h bytes) ∙ more)

pub meeting_lent : (bus : Bus) (dialect : Dialect) (count : ℕ) (windows : List Window) (m image : List ℕ) (tries limit pings : ℕ)
    → Lent (meeting bus dialect count windows m image tries limit pings).host image
meeting_lent bus dialect count windows m image tries limit pings = heard_lent _ _ image (opened_lent bus dialect image tries limit pings)

-- the meeting leads to the end of its exchange
pub meets : (bus : Bus) (dialect : Dialect) (count : ℕ) (windows : List Window) (m image : List ℕ) (tries limit pings : ℕ) (room : List ℕ) {s : Standing}
    → s ≡ standing_of 0 (meeting bus dialect count windows [] image tries limit pings)
    → Reaches image room (exchanged (meeting bus dialect count windows m image tries limit pings) image) s m room
unfolding place_after room_after
meets bus dialect count windows m image tries limit pings room e =
    record {
      talk = meeting bus dialect count windows m image tries limit pings;
      kept = e;
      memory = refl;
      written = refl;
      lent = meeting_lent bus dialect count windows m image tries limit pings;
      leads = refl;
    }

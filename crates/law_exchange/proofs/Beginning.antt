-- The first turns: the greeting is heard, the start unit answered, Ping acknowledged and each of its words echoed; then host and loader are level with the
-- flash session that was opened on the same image.
use Prim.Native.Nat.{ℕ, zero, suc, ◌+◌, ◌-◌, ◌^◌, ◌≤◌, ◌<◌}
use mathlib.Core.Bool.{Bool, true, false, true≢false, not, ◌&&◌}
use mathlib.Core.List.{List, [], ◌∷◌, append-nil}
use mathlib.Core.Path.{◌≡◌, refl, sym, ap, ap₂, subst, ◌∙◌}
use native.Mathlib.Omega.{arith}
use native.Mathlib.Nat.{zero-add}
use lib.Dec.{ltb, eqb, lit<}
use lib.ListN.{length}
use borrow.Author.Tests.{lt-ltb, le-ltb, eq-eqb, ne_eqb}
use Rattle.std.specs.declared.result.Result.TheVariants.{Ok}
use Rattle.words.specs.rules.Bytes.{byte, AreBytes}
use Rattle.words.specs.rules.Choice.{pick}
use Rattle.words.proofs.Choice.{chosen, passed, of_choice}
use Rattle.windows.specs.rules.Window.{sum_of}
use Rattle.windows.specs.declared.Window.{Window}
use Rattle.opcodes.specs.rules.Answers.{code_of, told}
use Rattle.opcodes.specs.rules.Opcodes.{rows, row_serves, found_in, looked_up, with_words}
use Rattle.opcodes.specs.declared.Command.TheVariants.{Ping}
use Rattle.opcodes.specs.declared.Dialect.{Dialect}
use Rattle.opcodes.specs.declared.Dialect.TheVariants.{Am17xx, Dm648}
use Rattle.opcodes.specs.declared.Mode.TheVariants.{Sent}
use Rattle.flash_session.specs.rules.Opening as flash
use Rattle.flash_session.specs.rules.Opening.{good_length}
use Rattle.flash_session.specs.declared.Session.{Session}
use Rattle.machine_answers.specs.rules.Answers.{WordOutcome, ◌leaving◌, await, said}
use Rattle.machine_commands.specs.rules.Performed.{none_kept, echoing}
use Rattle.machine.specs.rules.Machine.{keeping, begun, acknowledging, at_opcode, word_step}
use Rattle.machine_answers.specs.rules.Replies.{one_word, word_then, acknowledged, sent_bytes}
use Rattle.machine_answers.specs.declared.Core.{Core}
use Rattle.machine_answers.specs.declared.Phase.{Phase}
use Rattle.machine_answers.specs.declared.Phase.TheVariants as phase
use Rattle.sent.specs.rules.Bus.{start_unit, units_of}
use Rattle.sent.specs.rules.Feeding.{State, replied, events_heard}
use Rattle.sent.specs.rules.Line.{start_answer, is_start}
use Rattle.sent.specs.rules.Opening.{greeting, at_start}
use Rattle.sent.specs.claims.Lift.{at_word, Plain}
use Rattle.sent.specs.declared.Bus.{Bus}
use Rattle.sent.specs.declared.Bus.TheVariants.{Bytes, Halves}
use Rattle.sent.proofs.Cases.{unit_start}
use Rattle.sent.proofs.Feeding.{unit_goes}
use Rattle.host_laws.proofs.HearingLaws.{heard_by, only_the_ear, acknowledged_small}
use Rattle.law_line.specs.claims.Line.{Carries}
use Rattle.law_line.proofs.Words.{word_comes}
use Rattle.host_ear.specs.rules.Ear.{nothing_heard, newest}
use Rattle.host_answers.specs.rules.Sendings.{ping_opcode}
use Rattle.host_answers.specs.rules.Answers as answer
use Rattle.host.specs.rules.Turn as turn
use Rattle.host_answers.specs.rules.Answers.{answered_by}
use Rattle.host.specs.rules.Turn.{turned, echo_heard}
use Rattle.host_ear.specs.declared.Ear.{Ear}
use Rattle.host_answers.specs.declared.Host.{Host}
use Rattle.host_answers.specs.declared.Sending.{Sending}
use Rattle.host_answers.specs.declared.Sending.TheVariants as sending
use Rattle.host_answers.specs.declared.Wait.{Wait}
use Rattle.host_answers.specs.declared.Wait.TheVariants as wait
use Rattle.exchange.specs.rules.Exchange.{units_sent}
use Rattle.law_exchange.proofs.Hearing.{one_word_heard, newest_word, word_count, greeting_heard, start_heard}
use Rattle.law_exchange.proofs.Levels.{Level}
use Rattle.law_exchange.proofs.Scenes.{Scene, scene, advance, turns, by_turn, idle_turn}
use Rattle.law_exchange.proofs.Standing.{host_at, turned_at}

-- Ping's row
ping_row : (dialect : Dialect) → looked_up ping_opcode Sent dialect ≡ Ok (with_words Ping 1)
unfolding looked_up found_in rows row_serves pick
ping_row Am17xx = refl
ping_row Dm648 = refl

-- Ping begins with no start unit
ping_plain : (bus : Bus) (k : Core) → Plain bus k ping_opcode
unfolding byte
ping_plain Bytes k e same = absurd (omega (arith, same))
ping_plain Halves k e same = absurd (omega (arith, same))

module _ (bus : Bus) (dialect : Dialect) (windows : List Window) (m image : List ℕ) (tries limit pings : ℕ) (good : good_length (length image) ≡ true)
    (lent : length m ≡ sum_of windows) (small : pings < 2 ^ 32) where
  abbrev at : Wait → Ear → Host
  at wait ear = host_at bus dialect image tries limit pings 0 4 0 wait ear

  -- the loader's core, opened, then at Ping's count, then with words to echo
  abbrev opened : Core
  opened = (at_start dialect windows false).core

  abbrev pinged : Core
  pinged = await (begun Ping opened) (begun Ping opened).tally (phase.Argument Ping 1 (keeping none_kept 0))

  abbrev echoes : ℕ → Core
  echoes n = await pinged pinged.tally (echoing n)

  by_wait : (w : Wait) (ear : Ear) → turned (at w ear) image ≡ turn.in_wait w (at w ear) image
  by_wait w ear = turned_at bus dialect image tries limit pings good 0 4 0 w ear

  -- a turn whose units are answered by some bytes, and no event
  answered_turn : (h : Host) (w : Wait) (out : Sending) (x y : State) (bytes : List ℕ) → h.bus ≡ bus → turned h image ≡ answer.sending out (at w nothing_heard)
      → Carries bus x (units_sent bus out image) y bytes [] → advance image (scene h x []) ≡ scene (at w (heard_by nothing_heard bytes)) y []
  answered_turn h w out x y bytes on said carried =
      by_turn image h (at w nothing_heard) x y [] [] bytes out said
      (subst (λ (b : Bus). Carries b x (units_sent b out image) y bytes []) (sym on) carried)
      ∙ ap (λ (g : Host). scene g y []) (only_the_ear bytes (at w nothing_heard))

  -- the start unit is answered
  starts : is_start bus (at_start dialect windows false) (start_unit bus) ≡ true
  unfolding is_start
  starts = ap (λ (t : Bool). t && true) (eq-eqb (start_unit bus) (start_unit bus) refl)

  start_carried : Carries bus (record { session = at_start dialect windows false; memory = m }) (start_unit bus ∷ []) (at_word opened m)
      (sent_bytes (start_answer bus)) []
  unfolding replied events_heard
  start_carried =
      let goes = unit_goes (unit_start bus (at_start dialect windows false) m (start_unit bus) refl lent starts) in
      record {
        leads = goes.leads;
        replies = ap replied goes.says ∙ append-nil (sent_bytes (start_answer bus));
        tells = ap events_heard goes.says;
      }

  -- a word that is taken with a reply of one word, and no event
  word_carried : (k next : Core) (word reply : ℕ) → k.ended ≡ false → length m ≡ sum_of k.windows → word < 2 ^ 32 → Plain bus k word → next.ended ≡ false
      → word_step k m word ≡ (said (one_word reply) next leaving m)
      → Carries bus (at_word k m) (units_of bus word) (at_word next m) (sent_bytes (one_word reply)) []
  word_carried k next word reply running lent-here below plain standing e =
      let comes = word_comes bus k m word (record { running = running; lent = lent-here; small = below; plain = plain }) in
      record {
        leads = comes.next (ap (λ (o : WordOutcome). code_of o.answer.refusal) e)
            (ap (λ (o : WordOutcome). o.answer.core.ended) e ∙ standing)
            ∙ ap (λ (o : WordOutcome). at_word o.answer.core o.memory) e;
        replies = comes.replies ∙ ap (λ (o : WordOutcome). sent_bytes o.answer.reply) e;
        tells = comes.tells ∙ ap (λ (o : WordOutcome). told o.answer.event) e;
      }

  -- Ping's opcode, its count and its words
  ping_word : word_step opened m ping_opcode ≡ (said (one_word (acknowledged ping_opcode)) pinged leaving m)
  unfolding word_step acknowledging word_then one_word pick
  ping_word = ap (at_opcode opened m ping_opcode) (ping_row dialect)

  count_word : word_step pinged m pings ≡ (said (one_word pings) (echoes pings) leaving m)
  unfolding word_step pick
  count_word = refl

  echo_word : (n word : ℕ) → word_step (echoes (suc n)) m word ≡ (said (one_word word) (echoes n) leaving m)
  unfolding word_step echoing
  echo_word n word =
      let some : echoing (suc n) ≡ phase.Echo (suc n) = passed _ _ _ (ne_eqb (suc n) 0 (λ e. absurd (omega (arith, e)))) in
      let one_less : suc n - 1 ≡ n = omega arith in
      ap (λ (p : Phase). word_step (await pinged pinged.tally p) m word) some
      ∙ ap (λ (j : ℕ). said (one_word word) (await pinged pinged.tally (echoing j)) leaving m) one_less

  -- what the host sends and hears in its wait for an echo
  abbrev echo : ℕ → ℕ
  echo k = pick (eqb k 0) pings k

  echo_small : (k : ℕ) → k ≤ pings → echo k < 2 ^ 32
  echo_small k h = of_choice (λ (v : ℕ). v < 2 ^ 32) (eqb k 0) (λ e. small) (λ e. omega (arith, small, h))

  abbrev echoed_scene : ℕ → ℕ → Scene
  echoed_scene k left = scene (at (wait.Echo k) (heard_by nothing_heard (sent_bytes (one_word (echo k))))) (at_word (echoes left) m) []

  -- the echo is right: the next word goes out, or the first command is met
  echo_right : (k : ℕ) → k ≤ pings → turned (at (wait.Echo k) (heard_by nothing_heard (sent_bytes (one_word (echo k))))) image
      ≡ pick (ltb k pings) (answer.enters (wait.Echo (k + 1)) (at (wait.Echo k) (heard_by nothing_heard (sent_bytes (one_word (echo k))))) image)
      (answer.enters wait.Nothing (at (wait.Echo k) (heard_by nothing_heard (sent_bytes (one_word (echo k))))) image)
  unfolding echo_heard
  echo_right k h =
      let heard = heard_by nothing_heard (sent_bytes (one_word (echo k))) in
      let four : ltb heard.count 4 ≡ false = ap (λ (n : ℕ). ltb n 4) (word_count (echo k) (echo_small k h)) in
      let right : not (eqb (newest heard 4) (echo k)) ≡ false = ap not (eq-eqb (newest heard 4) (echo k) (newest_word (echo k) (echo_small k h))) in
      by_wait (wait.Echo k) heard ∙ passed _ _ _ four ∙ passed _ _ _ right

  echo_turn : (k left : ℕ) → k < pings → advance image (echoed_scene k (suc left)) ≡ echoed_scene (k + 1) left
  echo_turn k left more =
      answered_turn (at (wait.Echo k) (heard_by nothing_heard (sent_bytes (one_word (echo k))))) (wait.Echo (k + 1)) (sending.Word (echo (k + 1)))
      (at_word (echoes (suc left)) m) (at_word (echoes left) m) _ refl (echo_right k (omega (arith, more)) ∙ chosen _ _ _ (lt-ltb _ _ more))
      (word_carried (echoes (suc left)) (echoes left) (echo (k + 1)) (echo (k + 1)) refl lent (echo_small (k + 1) (omega (arith, more)))
      (λ e. absurd (true≢false e)) refl (echo_word left (echo (k + 1))))

  abbrev ready : Scene
  ready = scene (at wait.Nothing nothing_heard) (at_word (echoes 0) m) []

  last_echo : advance image (echoed_scene pings 0) ≡ ready
  last_echo =
      idle_turn image (at (wait.Echo pings) (heard_by nothing_heard (sent_bytes (one_word (echo pings))))) (at wait.Nothing nothing_heard)
      (at_word (echoes 0) m) []
      (echo_right pings (omega arith) ∙ passed _ _ _ (le-ltb pings pings (omega arith)))

  all_echoes : (left k : ℕ) → k + left ≡ pings → turns image (suc left) (echoed_scene k left) ≡ ready
  unfolding turns
  all_echoes zero k e = ap (λ (j : ℕ). advance image (echoed_scene j 0)) k_is ∙ last_echo
    where
      k_is : k ≡ pings
      k_is = omega (arith, e)
  all_echoes (suc left) k e =
      ap (turns image (suc left)) (echo_turn k left (omega (arith, e))) ∙ all_echoes left (k + 1) (omega (arith, e))

  -- the first three turns
  abbrev pub greeted : Scene
  greeted = scene (at wait.Greeting (heard_by nothing_heard (sent_bytes (greeting bus)))) (record { session = at_start dialect windows false; memory = m }) []

  abbrev started : Scene
  started = scene (at wait.Start (heard_by nothing_heard (sent_bytes (start_answer bus)))) (at_word opened m) []

  abbrev asked : Scene
  asked = scene (at wait.Ping (heard_by nothing_heard (sent_bytes (one_word (acknowledged ping_opcode))))) (at_word pinged m) []

  greeting_turn : advance image greeted ≡ started
  unfolding answered_by
  greeting_turn =
      answered_turn _ wait.Start sending.Start _ (at_word opened m) _ refl (by_wait wait.Greeting _ ∙ chosen _ _ _ (greeting_heard bus)) start_carried

  start_turn : advance image started ≡ asked
  unfolding answered_by
  start_turn =
      answered_turn _ wait.Ping (sending.Word ping_opcode) (at_word opened m) (at_word pinged m) _ refl
      (by_wait wait.Start _ ∙ chosen _ _ _ (start_heard bus))
      (word_carried opened pinged ping_opcode (acknowledged ping_opcode) refl lent (lit< tt) (ping_plain bus opened) refl ping_word)

  ping_turn : advance image asked ≡ echoed_scene 0 pings
  unfolding answered_by pick
  ping_turn =
      answered_turn _ (wait.Echo 0) (sending.Word pings) (at_word pinged m) (at_word (echoes pings) m) _ refl
      (by_wait wait.Ping _ ∙ chosen _ _ _ (one_word_heard (acknowledged ping_opcode) (acknowledged_small ping_opcode)))
      (word_carried pinged (echoes pings) pings pings refl lent small (λ e. absurd (true≢false e)) refl count_word)

  -- the turns before the first command
  pub begins : turns image (pings + 4) greeted ≡ ready
  unfolding turns
  begins =
      ap (λ (n : ℕ). turns image n greeted) count
      ∙ ap (λ (x : Scene). turns image (suc (suc (suc pings))) x) greeting_turn
      ∙ ap (λ (x : Scene). turns image (suc (suc pings)) x) start_turn
      ∙ ap (λ (x : Scene). turns image (suc pings) x) ping_turn
      ∙ all_echoes pings 0 (zero-add pings)
    where
      count : pings + 4 ≡ suc (suc (suc (suc pings)))
      count = omega arith

  -- the flash session that was opened on the image is level with them
  abbrev pub opened_session : Session
  opened_session = (flash.begun dialect windows (length image) limit).session

  pub begins_level : AreBytes image → Level bus image tries pings opened_session m [] (turns image (pings + 4) greeted)
  unfolding echoing pick
  begins_level bytes =
      record {
        core = echoes 0;
        is = begins;
        stands = record {
          alike = record { windows = refl; dialect = refl; ended = refl; on = refl; checksum = refl; totals = refl };
          running = refl;
          lent = lent;
          sound = ap₂ ◌&&◌ good (eq-eqb (length image) (length image) refl);
          bytes = bytes;
          awaits = refl;
          begun = refl;
          small = lit< tt;
        };
      }

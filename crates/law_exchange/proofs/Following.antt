-- From the level of a flash session the host's next turns follow the call of flash: what is refused or passed over takes one turn, a command two, its opcode
-- and then its words, and a mismatch one more for Start-Over.
use Rattle.std.specs.Prelude.{Some, Ok, Err}
use Prim.Native.Nat.{ℕ, suc, ◌+◌, ◌*◌, ◌/◌, ◌^◌, ◌≤◌, ◌<◌}
use mathlib.Core.Bool.{true, false, true≢false, not, ◌&&◌, and-false}
use mathlib.Core.List.{List, [], ◌++◌, append-nil}
use mathlib.Core.Logic.{◌≢◌}
use mathlib.Core.Path.{◌≡◌, refl, sym, ap, ap₂, subst, ◌∙◌}
use native.Mathlib.Omega.{arith}
use lib.Dec.{leb, ltb, eqb, lit<}
use lib.ListN.{length}
use borrow.Author.Tests.{le-leb, lt-leb, le-ltb, lt-ltb, eq-eqb, ne_eqb, ltb-true, ltb-false, leb-true, leb-false, eqb-true, eqb-false}
use Rattle.std.specs.declared.result.Result.{Result}
use Rattle.std.specs.declared.result.Result.TheVariants.{Ok, Err}
use Rattle.words.specs.rules.Bytes.{word_at}
use Rattle.words.specs.rules.Choice.{pick}
use Rattle.words.proofs.Choice.{chosen, passed, by_test}
use Rattle.windows.specs.rules.Window.{sum_of}
use Rattle.opcodes.specs.rules.Answers.{accepted, code_of, told}
use Rattle.opcodes.specs.declared.Command.{Command}
use Rattle.opcodes.specs.declared.Command.TheVariants.{Load, Fill, BootTable, Enable, Disable, Request, StartOver, JumpAndClose, Ping, SequentialRead}
use Rattle.opcodes.specs.declared.Dialect.{Dialect}
use Rattle.opcodes.specs.declared.Dialect.TheVariants.{Am17xx, Dm648}
use Rattle.opcodes.specs.declared.Event.{Event}
use Rattle.opcodes.specs.declared.Mode.TheVariants.{Flash}
use Rattle.opcodes.specs.rules.Refusals.{Verdict}
use Rattle.opcodes.specs.rules.Refusals as refusal
use Rattle.opcodes.proofs.Counts.{row_is, row-is}
use Rattle.opcodes.specs.rules.Opcodes.{with_words}
use Rattle.opcodes.specs.declared.Known.{Known}
use Rattle.reading.specs.rules.Reading.{past_words, argument, past_data, read_at}
use Rattle.reading.proofs.Reading as reading
use Rattle.reading.proofs.Reading.{Reads, no_opcode, unknown, retired, cut_short, whole, whole_there}
use Rattle.reading.specs.declared.Unread.{Unread}
use Rattle.commands.specs.rules.Commands.{sought_from, Sought}
use Rattle.flash_session.specs.rules.Opening.{good_length}
use Rattle.flash_session.specs.rules.Sessions.{CallOutcome}
use Rattle.flash.specs.rules.Step.{followed, step_of}
use Rattle.flash_session.specs.declared.Session.{Session}
use Rattle.flash_runs.specs.rules.Run.{goes_on}
use Rattle.machine_answers.specs.rules.Replies.{one_word, acknowledged, done_word, farewell, sent_bytes}
use Rattle.machine_answers.specs.declared.Core.{Core}
use Rattle.sent.specs.rules.Bus.{units_of, units_fed}
use Rattle.sent.specs.rules.Feeding.{State, answers, replied}
use Rattle.sent.specs.claims.Lift.{at_word}
use Rattle.sent.specs.declared.Bus.{Bus}
use Rattle.host_laws.proofs.HearingLaws.{heard_by, with_ear, only_the_ear, acknowledged_small}
use Rattle.law_line.specs.claims.Line.{Standing, Carries, Stopped, rest_here, CommandSent, RequestSent, OnTheLine}
use Rattle.host_ear.specs.rules.Ear.{nothing_heard}
use Rattle.host_answers.specs.rules.Hosts as hosts
use Rattle.host_answers.specs.rules.Hosts.{stop, heard_all}
use Rattle.host_answers.specs.rules.Sendings.{start_over, is_part}
use Rattle.host_answers.specs.rules.Answers as answer
use Rattle.host.specs.rules.Turn as turn
use Rattle.host_answers.specs.rules.Answers.{answered_by, on_to}
use Rattle.host_commands.specs.rules.Commands.{by_role, words_to, closing, compared, sought_as}
use Rattle.host.specs.rules.Turn.{turned, met, met_to}
use Rattle.host_ear.specs.declared.Ear.{Ear}
use Rattle.host_answers.specs.declared.Host.{Host}
use Rattle.host_answers.specs.declared.Sending.TheVariants as sending
use Rattle.host_answers.specs.declared.Turned.{Turned}
use Rattle.host_answers.specs.declared.Wait.{Wait}
use Rattle.host_answers.specs.declared.Wait.TheVariants as wait
use Rattle.law_exchange.proofs.Hearing.{ear_of, one_word_heard, checksum_heard, ends-with-checksum}
use Rattle.law_exchange.proofs.Hearing.{newest_checksum}
use Rattle.law_exchange.proofs.Levels.{loader_over, rest_turns, Level, Rest, Followed, stopped_follows, on_follows, level_again}
use Rattle.law_exchange.proofs.Silence.{closing as closing-wait, ended_stays, ended_later, waits_end, meets_end}
use Rattle.law_exchange.proofs.Stopping.{stops_entered}
use Rattle.law_exchange.proofs.Scenes.{Scene, scene, advance, turns, by_turn, idle_turn, refused_turn}
use Rattle.law_exchange.proofs.Standing.{Role, passes, asks, closes, goes, role_of, role_number, other_role, host_at, turned_at}

module _ (line : OnTheLine) (bus : Bus) (image : List ℕ) (tries pings : ℕ) (good : good_length (length image) ≡ true)
    (s : Session) (m : List ℕ) (es : List Event) (k : Core) (stands : Standing s m image k) where
  abbrev at : ℕ → ℕ → Wait → Ear → Host
  at retries offset wait ear = host_at bus s.dialect image tries s.limit pings retries offset 0 wait ear

  abbrev here : Host
  here = at s.retries s.offset wait.Nothing nothing_heard

  abbrev begin : Scene
  begin = scene here (at_word k m) es

  abbrev call : CallOutcome
  call = step_of s m image

  abbrev opcode : ℕ
  opcode = word_at image s.offset

  by_wait : (retries offset : ℕ) (w : Wait) (ear : Ear) → turned (at retries offset w ear) image ≡ turn.in_wait w (at retries offset w ear) image
  by_wait retries offset w ear = turned_at bus s.dialect image tries s.limit pings good retries offset 0 w ear

  by_reading : (what : Result Known Unread) → read_at image s.offset s.dialect ≡ what → turned here image ≡ met here image what
  by_reading what e = by_wait s.retries s.offset wait.Nothing nothing_heard ∙ ap (met here image) e

  -- one turn
  one_turn : {y : Scene} → advance image begin ≡ y → turns image 1 begin ≡ y
  unfolding turns
  one_turn e = e

  -- the host refuses what the call refuses
  refused_here : (q : Verdict) → turned here image ≡ answer.refused q here → Stopped m call → Followed bus image tries pings call es begin
  refused_here q said stopped =
      stopped_follows bus image tries pings call m es begin (scene (stop here) (at_word k m) es) 1 (omega arith)
      (one_turn (refused_turn image here (stop here) (at_word k m) es q said)) refl refl refl stopped

  -- a turn of an opcode: it goes out, and what comes back is heard
  opcode_turn : (retries offset : ℕ) (h : Host) (w : Wait) (word : ℕ) (x y : State) (bytes : List ℕ)
      → h.bus ≡ bus → turned h image ≡ answer.sending (sending.Word word) (at retries offset w nothing_heard) → Carries bus x (units_of bus word) y bytes []
      → advance image (scene h x es) ≡ scene (at retries offset w (heard_by nothing_heard bytes)) y es
  opcode_turn retries offset h w word x y bytes on said carried =
      by_turn image h (at retries offset w nothing_heard) x y es [] bytes (sending.Word word) said
      (subst (λ (b : Bus). Carries b x (units_of b word) y bytes []) (sym on) carried)
      ∙ ap₂ (λ (g : Host) (fs : List Event). scene g y fs) (only_the_ear bytes (at retries offset w nothing_heard)) (append-nil es)

  -- a command that is whole, with its data
  module _ (c : Command) (words : ℕ) (reads : read_at image s.offset s.dialect ≡ Ok (with_words c words))
      (there : past_data c words image s.offset ≤ length image) where
    abbrev end : ℕ
    end = past_data c words image s.offset

    meets : turned here image ≡ met_to here image c end
    meets = by_reading (Ok (with_words c words)) reads ∙ passed _ _ _ (le-ltb _ _ there)

    -- its words go out as a stretch
    is-part : is_part image (s.offset + 4) end ≡ true
    unfolding is_part
    is-part = ap₂ ◌&&◌ (le-leb (s.offset + 4) end (omega arith)) (le-leb end (length image) there)

    stretch_turn : (h after : Host) (x y : State) (bytes : List ℕ) (fs : List Event) → h.bus ≡ bus
        → turned h image ≡ answer.sending (sending.Stretch (s.offset + 4) end) after
        → Carries bus x (units_fed bus (rest_here bus s m image k c words)) y bytes fs
        → advance image (scene h x es) ≡ scene (heard_all after bytes) y (es ++ fs)
    stretch_turn h after x y bytes fs on said carried =
        by_turn image h after x y es fs bytes (sending.Stretch (s.offset + 4) end) said
        (subst (λ (b : Bus). Carries b x (units_fed b (pick (is_part image (s.offset + 4) end) (rest_here bus s m image k c words) [])) y bytes fs) (sym on)
        (subst (λ (part : List ℕ). Carries bus x (units_fed bus part) y bytes fs) (sym (chosen _ _ _ is-part)) carried))

    -- the host once the opcode is out and acknowledged
    abbrev acknowledged_host : Host
    acknowledged_host = at s.retries s.offset (wait.Opcode c end) (heard_by nothing_heard (sent_bytes (one_word (acknowledged opcode))))

    acknowledged_words : (next : Host)
        → answered_by (answer.acknowledges acknowledged_host opcode) acknowledged_host image (words_to acknowledged_host image end next)
        ≡ answer.sending (sending.Stretch (s.offset + 4) end) next
    unfolding answered_by words_to
    acknowledged_words next = chosen _ _ _ (one_word_heard (acknowledged opcode) (acknowledged_small opcode)) ∙ chosen _ _ _ is-part

    -- two turns: the opcode, and then the words
    module _ (sent : CommandSent bus s m image k c words)
        (out : turned here image ≡ answer.sending (sending.Word opcode) (at s.retries s.offset (wait.Opcode c end) nothing_heard)) where
      abbrev between : Scene
      between = scene acknowledged_host sent.between es

      opcode_out : advance image begin ≡ between
      opcode_out = opcode_turn s.retries s.offset here (wait.Opcode c end) opcode (at_word k m) sent.between _ refl out sent.opcode

      -- what is heard of the words
      abbrev heard_of_words : List ℕ
      heard_of_words = replied (answers bus sent.between (units_fed bus (rest_here bus s m image k c words)))

      words_out : (after : Host) → turned acknowledged_host image ≡ answer.sending (sending.Stretch (s.offset + 4) end) after
          → turns image 2 begin ≡ scene (heard_all after heard_of_words) sent.end (es ++ told call.answer.event)
      unfolding turns
      words_out after said =
          ap (advance image) opcode_out
          ∙ stretch_turn acknowledged_host after sent.between sent.end heard_of_words (told call.answer.event) refl said
          (record { leads = sent.leads; replies = refl; tells = sent.tells })

      -- where the call stops the loader has ended: with the host in any state that comes to its end, both are at rest
      at_rest : (y : Scene) (count : ℕ) → turns image count begin ≡ y → y.loader ≡ sent.end → y.events ≡ es ++ told call.answer.event
          → goes_on call.answer ≡ false → (turns image (rest_turns bus image tries pings) y).host.ended ≡ true
          → Rest bus image tries pings call.memory (es ++ told call.answer.event) (turns image count begin)
      at_rest y count arrives loader events off ends =
          subst (Rest bus image tries pings call.memory (es ++ told call.answer.event)) (sym arrives)
          (record {
            memory = ap (λ (l : State). l.memory) loader ∙ sent.after.memory;
            events = events;
            over = loader_over (ap (λ (l : State). l.session.core.ended) loader ∙ sent.after.stops off);
            ends = ends;
          })

    -- a command that goes on
    module _ (some : 1 ≤ tries) (sent : CommandSent bus s m image k c words) (role : role_number c ≡ 3)
        (same : (passed asked closed gone : Turned) → by_role c passed asked closed gone ≡ gone) where
      out : turned here image ≡ answer.sending (sending.Word opcode) (at s.retries s.offset (wait.Opcode c end) nothing_heard)
      out = meets ∙ same _ _ _ _

      said : turned acknowledged_host image ≡ answer.sending (sending.Stretch (s.offset + 4) end) (on_to acknowledged_host end)
      said = by_wait s.retries s.offset _ _ ∙ same _ _ _ _ ∙ acknowledged_words (on_to acknowledged_host end)

      abbrev past : List ℕ → Scene
      past bytes =
          scene (at s.retries end wait.Nothing (heard_by nothing_heard bytes)) sent.end (es ++ told call.answer.event)

      two_turns : turns image 2 begin ≡ past (heard_of_words sent out)
      two_turns =
          words_out sent out (on_to acknowledged_host end) said
          ∙ ap (λ (h : Host). scene h sent.end (es ++ told call.answer.event)) (only_the_ear (heard_of_words sent out) (on_to acknowledged_host end))

      goes_follows : Followed bus image tries pings call es begin
      unfolding heard_by
      goes_follows =
          record {
            count = 2;
            few = omega arith;
            goes = λ on.
                let next = sent.after.goes on in
                level_again bus image tries pings s call (line.keeps s m image) call.memory _ _ (turns image 2 begin) next.0 s.retries end
                (two_turns ∙ ap₂ (λ (bytes : List ℕ) (l : State).
                scene (at s.retries end wait.Nothing (heard_by nothing_heard bytes)) l (es ++ told call.answer.event)) (sent.silent on) next.1)
                (sent.retries on) (sent.offset on) refl refl next.2;
            stops = λ off.
                at_rest sent out (past (heard_of_words sent out)) 2 two_turns refl refl off
                (meets_end bus s.dialect image tries s.limit pings good sent.end (es ++ told call.answer.event) (sent.after.stops off) some
                s.retries (heard_by nothing_heard (heard_of_words sent out)) (length image / 4 + 1) end (omega arith));
          }

  -- Jump & Close
  module _ (some : 1 ≤ tries) (words : ℕ) (reads : read_at image s.offset s.dialect ≡ Ok (with_words JumpAndClose words))
      (there : past_data JumpAndClose words image s.offset ≤ length image) (sent : CommandSent bus s m image k JumpAndClose words) where
    abbrev last : ℕ
    last = past_data JumpAndClose words image s.offset

    -- it never goes on
    close_stops : goes_on call.answer ≡ false
    unfolding step_of goes_on
    close_stops =
        let called : call ≡ followed s m image (Ok (with_words JumpAndClose words)) =
        passed _ _ _ stands.running ∙ passed _ _ _ (ap not (eq-eqb (length m) (sum_of s.windows) stands.lent)) ∙ passed _ _ _ (ap not stands.sound)
        ∙ ap (followed s m image) reads in
        ap (λ (o : CallOutcome). goes_on o.answer) called ∙ and-false (accepted (followed s m image (Ok (with_words JumpAndClose words))).answer.refusal)

    abbrev answered_close : Host
    answered_close = acknowledged_host JumpAndClose words reads there

    out_close : turned here image ≡ answer.sending (sending.Word opcode) (at s.retries s.offset (wait.Opcode JumpAndClose last) nothing_heard)
    out_close = meets JumpAndClose words reads there

    said_close : turned answered_close image ≡ answer.sending (sending.Stretch (s.offset + 4) last) (closing s.dialect (hosts.at answered_close last))
    said_close = by_wait s.retries s.offset _ _ ∙ acknowledged_words JumpAndClose words reads there _

    abbrev farewell_heard : List ℕ
    farewell_heard = heard_of_words JumpAndClose words reads there sent out_close

    abbrev told_here : List Event
    told_here = es ++ told call.answer.event

    -- after the words, by the dialect
    close_turns : (after : Host) → closing s.dialect (hosts.at answered_close last) ≡ after
        → turns image 2 begin ≡ scene (with_ear after (heard_by after.ear farewell_heard)) sent.end told_here
    close_turns after e =
        words_out JumpAndClose words reads there sent out_close _ (said_close ∙ ap (answer.sending (sending.Stretch (s.offset + 4) last)) e)
        ∙ ap (λ (h : Host). scene h sent.end told_here) (only_the_ear farewell_heard after)

    followed_by : (y : Scene) → turns image 2 begin ≡ y → y.loader ≡ sent.end → y.events ≡ told_here
        → (turns image (rest_turns bus image tries pings) y).host.ended ≡ true → Followed bus image tries pings call es begin
    followed_by y arrives loader events ends =
        record {
          count = 2;
          few = omega arith;
          goes = λ on. absurd (true≢false (sym on ∙ close_stops));
          stops = λ off. at_rest JumpAndClose words reads there sent out_close y 2 arrives loader events off ends;
        }

    -- the host that waits for DONE
    abbrev waits_for_done : Ear → Host
    waits_for_done ear = at s.retries last wait.Closing ear

    done_heard : turned (waits_for_done (heard_by nothing_heard (sent_bytes (one_word done_word)))) image
        ≡ answer.sending sending.Nothing (stop (waits_for_done (heard_by nothing_heard (sent_bytes (one_word done_word)))))
    unfolding answered_by
    done_heard = by_wait s.retries last wait.Closing _ ∙ chosen _ _ _ (one_word_heard done_word (lit< tt))

    closing_ends : s.dialect ≡ Dm648
        → (turns image (rest_turns bus image tries pings) (scene (waits_for_done (heard_by nothing_heard farewell_heard)) sent.end told_here)).host.ended ≡ true
    unfolding turns heard_by
    closing_ends dm =
        by_test (eqb (code_of call.answer.refusal) 0)
        (λ accepted.
        let entered = stops_entered s m image (eqb-true _ _ accepted) close_stops in
        let bytes = sent.enters entered ∙ ap (λ (d : Dialect). sent_bytes (farewell d)) dm in
        rw bytes
        (ended_later image 1 (rest_turns bus image tries pings) _
        (ap (λ (y : Scene). y.host.ended) (idle_turn image _ _ sent.end told_here done_heard)) (omega arith)))
        (λ refused.
        rw (sent.refused (eqb-false _ _ refused))
        (ended_later image (suc tries) (rest_turns bus image tries pings) _
        (waits_end bus s.dialect image tries s.limit pings good sent.end told_here (sent.after.stops close_stops) tries s.retries last 0
        wait.Closing closing-wait (omega arith))
        (omega arith)))

    close_follows : Followed bus image tries pings call es begin
    close_follows = go s.dialect refl
      where
        go : (d : Dialect) → s.dialect ≡ d → Followed bus image tries pings call es begin
        go Am17xx am =
            let arrives = close_turns _ (ap (λ (d : Dialect). closing d (hosts.at answered_close last)) am) in
            followed_by _ arrives refl refl (ap (λ (y : Scene). y.host.ended) (ended_stays image (rest_turns bus image tries pings) _ refl))
        go Dm648 dm =
            let arrives = close_turns _ (ap (λ (d : Dialect). closing d (hosts.at answered_close last)) dm) in
            followed_by _ arrives refl refl (closing_ends dm)

  -- a Request
  module _ (words : ℕ) (reads : read_at image s.offset s.dialect ≡ Ok (with_words Request words))
      (there : past_data Request words image s.offset ≤ length image) (two : words ≡ 2) (sent : RequestSent bus s m image k) where
    abbrev past_request : ℕ
    past_request = past_data Request words image s.offset

    past_is : past_request ≡ s.offset + 12
    past_is = omega (arith, two)

    out_request : turned here image ≡ answer.sending (sending.Word opcode) (at s.retries s.offset (wait.Opcode Request past_request) nothing_heard)
    out_request = meets Request words reads there

    -- the host that has heard the checksum
    abbrev asking : Host
    asking = at s.retries s.offset (wait.Opcode Request past_request) (ear_of (acknowledged opcode + s.checksum * 2 ^ 32) 8)

    request_out : advance image begin ≡ scene asking (at_word sent.asked m) es
    request_out =
        opcode_turn s.retries s.offset here (wait.Opcode Request past_request) opcode (at_word k m) (at_word sent.asked m) _ refl out_request
        sent.opcode
        ∙ ap (λ (ear : Ear). scene (at s.retries s.offset (wait.Opcode Request past_request) ear) (at_word sent.asked m) es)
        (checksum_heard opcode s.checksum stands.small)

    -- it compares
    compares : turned asking image ≡ compared asking image past_request s.checksum
    unfolding answered_by
    compares =
        by_wait s.retries s.offset _ _ ∙ chosen _ _ _ (ends-with-checksum opcode s.checksum)
        ∙ ap (compared asking image past_request) (newest_checksum opcode s.checksum)

    two_from : {y : Scene} → advance image (scene asking (at_word sent.asked m) es) ≡ y → turns image 2 begin ≡ y
    unfolding turns
    two_from e = ap (advance image) request_out ∙ e

    -- refused, with the call
    refused_request : (q : Verdict) → turned asking image ≡ answer.refused q asking → Stopped m call → Followed bus image tries pings call es begin
    refused_request q said stopped =
        stopped_follows bus image tries pings call m es begin (scene (stop asking) (at_word sent.asked m) es) 2 (omega arith)
        (two_from (refused_turn image asking (stop asking) (at_word sent.asked m) es q said)) refl refl refl stopped

    -- a match
    matched : argument image s.offset 0 ≡ s.checksum → Followed bus image tries pings call es begin
    unfolding compared
    matched same =
        on_follows bus image tries pings s call (line.keeps s m image) m es begin _ sent.asked s.retries (s.offset + 12) 2 (omega arith)
        (two_from (idle_turn image asking (on_to asking past_request) (at_word sent.asked m) es (compares ∙ chosen _ _ _ (eq-eqb _ _ same))))
        (ap (λ (o : ℕ). scene (at s.retries o wait.Nothing nothing_heard) (at_word sent.asked m) es) past_is)
        (sent.match same)

    module _ (differ : argument image s.offset 0 ≢ s.checksum) where
      spent_retries : s.limit ≤ s.retries → Followed bus image tries pings call es begin
      unfolding compared
      spent_retries none =
          refused_request refusal.Checksum (compares ∙ passed _ _ _ (ne_eqb _ _ differ) ∙ chosen _ _ _ (le-leb _ _ none)) (sent.spent differ none)

      module _ (some_left : s.retries < s.limit) where
        seeks : (where_to : Sought) → sought_from s.offset (argument image s.offset 1) ≡ where_to → turned asking image ≡ sought_as asking image where_to
        unfolding compared
        seeks where_to e = compares ∙ passed _ _ _ (ne_eqb _ _ differ) ∙ passed _ _ _ (lt-leb _ _ some_left) ∙ ap (sought_as asking image) e

        -- Start-Over, and its acknowledgement
        abbrev over_at : ℕ → Ear → Host
        over_at offset ear = at (s.retries + 1) s.offset (wait.Over offset) ear

        over_heard : (offset : ℕ) → turned (over_at offset (heard_by nothing_heard (sent_bytes (one_word (acknowledged start_over))))) image
            ≡ answer.sending sending.Nothing (at (s.retries + 1) offset wait.Nothing nothing_heard)
        unfolding answered_by
        over_heard offset =
            by_wait (s.retries + 1) s.offset (wait.Over offset) _ ∙ chosen _ _ _ (one_word_heard (acknowledged start_over) (acknowledged_small start_over))

        goes_back : (offset : ℕ) → sought_from s.offset (argument image s.offset 1) ≡ Ok offset → Followed bus image tries pings call es begin
        unfolding turns
        goes_back offset e =
            let over = sent.back differ some_left offset e in
            let second = opcode_turn (s.retries + 1) s.offset asking (wait.Over offset) start_over (at_word sent.asked m) (at_word over.0 m) _ refl
            (seeks (Ok offset) e) over.1 in
            let third = idle_turn image (over_at offset (heard_by nothing_heard (sent_bytes (one_word (acknowledged start_over)))))
            (at (s.retries + 1) offset wait.Nothing nothing_heard) (at_word over.0 m) es (over_heard offset) in
            on_follows bus image tries pings s call (line.keeps s m image) m es begin _ over.0 (s.retries + 1) offset 3 (omega arith)
            (ap (λ (y : Scene). advance image (advance image y)) request_out ∙ ap (advance image) second ∙ third) refl over.2

        sought_follows : (where_to : Sought) → sought_from s.offset (argument image s.offset 1) ≡ where_to → Followed bus image tries pings call es begin
        sought_follows (Ok offset) e = goes_back offset e
        sought_follows (Err q) e = refused_request (Some q) (seeks (Err q) e) (sent.astray differ q e)

    request_follows : Followed bus image tries pings call es begin
    request_follows =
        by_test (eqb (argument image s.offset 0) s.checksum) (λ same. matched (eqb-true _ _ same))
        (λ other.
        let differ = eqb-false _ _ other in
        by_test (leb s.limit s.retries) (λ none. spent_retries differ (leb-true _ _ none))
        (λ left. sought_follows differ (leb-false _ _ left) _ refl))

  -- Sequential Read
  passed_follows : (words : ℕ) → read_at image s.offset s.dialect ≡ Ok (with_words SequentialRead words)
      → past_data SequentialRead words image s.offset ≤ length image → Followed bus image tries pings call es begin
  passed_follows words reads there =
      let over = line.passed_over bus s m image k stands words reads in
      let past : past_data SequentialRead words image s.offset ≡ s.offset + 4 = omega (arith, over.no_words) in
      on_follows bus image tries pings s call (line.keeps s m image) m es begin _ k s.retries (s.offset + 4) 1 (omega arith)
      (one_turn (idle_turn image here (on_to here (past_data SequentialRead words image s.offset)) (at_word k m) es (meets SequentialRead words reads there)))
      (ap (λ (o : ℕ). scene (at s.retries o wait.Nothing nothing_heard) (at_word k m) es) past)
      over.goes

  -- a Request has two words
  abbrev TwoAsk : Result Known Unread → Type 0
  TwoAsk (Err said) = Unit {0}
  TwoAsk (Ok f) = f.command ≡ Request → f.words ≡ 2

  two_ask : {what : Result Known Unread} → Reads image s.offset s.dialect what → TwoAsk what
  unfolding row_is
  two_ask (no_opcode short) = tt
  two_ask (unknown there e) = tt
  two_ask (retired there e) = tt
  two_ask (cut_short there e short) = tt
  two_ask (whole {command} {words} e long) =
      λ same. eqb-true words 2 (subst (λ (d : Command). row_is Flash s.dialect d words ≡ true) same (row-is Flash s.dialect opcode command words e))

  -- data are missing of a load alone
  missing_load : (c : Command) (words : ℕ) → past_words s.offset words ≤ length image → length image < past_data c words image s.offset → c ≡ Load
  missing_load Load words there short = refl
  missing_load Fill words there short = absurd (omega (arith, there, short))
  missing_load BootTable words there short = absurd (omega (arith, there, short))
  missing_load Enable words there short = absurd (omega (arith, there, short))
  missing_load Disable words there short = absurd (omega (arith, there, short))
  missing_load Request words there short = absurd (omega (arith, there, short))
  missing_load StartOver words there short = absurd (omega (arith, there, short))
  missing_load JumpAndClose words there short = absurd (omega (arith, there, short))
  missing_load Ping words there short = absurd (omega (arith, there, short))
  missing_load SequentialRead words there short = absurd (omega (arith, there, short))

  module _ (some : 1 ≤ tries) (words : ℕ) where
    -- what holds once a command is one that is known
    abbrev IfRead : Command → Type 0
    IfRead c = read_at image s.offset s.dialect ≡ Ok (with_words c words) → past_data c words image s.offset ≤ length image
        → Followed bus image tries pings call es begin

    by-role : (c : Command) → Role c → IfRead c
    by-role c (passes e) = subst IfRead (sym e) (passed_follows words)
    by-role c (asks e) =
        subst IfRead (sym e)
        (λ reads there. request_follows words reads there (subst TwoAsk reads (two_ask (reading.reads image s.offset s.dialect)) refl)
        (line.requests bus s m image k stands words reads))
    by-role c (closes e) =
        subst IfRead (sym e)
        (λ reads there. close_follows some words reads there
        (line.commands bus s m image k stands JumpAndClose words reads (other_role JumpAndClose Request (λ z. omega (arith, z)))
        (other_role JumpAndClose SequentialRead (λ z. omega (arith, z))) there))
    by-role c (goes number same) =
        λ reads there. goes_follows c words reads there some
        (line.commands bus s m image k stands c words reads (other_role c Request (λ z. omega (arith, number, z)))
        (other_role c SequentialRead (λ z. omega (arith, number, z))) there)
        number same

    -- its data are not there
    without_data : (c : Command) → read_at image s.offset s.dialect ≡ Ok (with_words c words) → length image < past_data c words image s.offset
        → Followed bus image tries pings call es begin
    without_data c reads short =
        refused_here refusal.Missing (by_reading (Ok (with_words c words)) reads ∙ chosen _ _ _ (lt-ltb _ _ short))
        (subst
        (λ (d : Command). read_at image s.offset s.dialect ≡ Ok (with_words d words) → length image < past_data d words image s.offset → Stopped m call)
        (sym (missing_load c words (whole_there image s.offset s.dialect reads) short)) (line.data_missing s m image k stands words) reads short)

  -- whatever stands there
  follow_at : 1 ≤ tries → (what : Result Known Unread) → read_at image s.offset s.dialect ≡ what → Followed bus image tries pings call es begin
  follow_at some (Err said) e = refused_here (Some said.refusal) (by_reading (Err said) e) (line.not_read s m image k stands said.refusal said.fetched e)
  follow_at some (Ok f) e =
      by_test (ltb (length image) (past_data f.command f.words image s.offset)) (λ short. without_data some f.words f.command e (ltb-true _ _ short))
      (λ there. by-role some f.words f.command (role_of f.command) e (ltb-false _ _ there))

-- from the level of a session, its call is followed
pub follows : (line : OnTheLine) (bus : Bus) (image : List ℕ) (tries pings : ℕ) → good_length (length image) ≡ true → 1 ≤ tries
    → (s : Session) (m : List ℕ) (es : List Event) (x : Scene) → Level bus image tries pings s m es x → Followed bus image tries pings (step_of s m image) es x
follows line bus image tries pings good some s m es x level =
    subst (Followed bus image tries pings (step_of s m image) es) (sym level.is)
    (follow_at line bus image tries pings good s m es level.core level.stands some _ refl)

-- A Request: sent, it says the checksum and stands unsettled, as if it had matched. So where flash goes on past it the loader is there; where flash goes back,
-- Start-Over puts the totals back as the seek does.
use Rattle.std.specs.Prelude.{Some, Ok, Err}
use Prim.Native.Nat.{ℕ, ◌+◌, ◌≤◌, ◌<◌}
use mathlib.Core.Bool.{true, false, not, true≢false}
use mathlib.Core.List.{List, []}
use mathlib.Core.Logic.{◌≢◌}
use mathlib.Core.Path.{◌≡◌, refl, sym, ap, subst, ◌∙◌}
use native.Mathlib.Omega.{arith}
use lib.Dec.{leb, lit<}
use lib.ListN.{length}
use borrow.Author.Tests.{leb-true, eq-eqb, ne_eqb, le-leb, lt-leb}
use Rattle.std.specs.declared.result.Result.TheVariants.{Ok}
use Rattle.words.specs.rules.Bytes.{word_at}
use Rattle.words.proofs.Choice.{chosen, passed, by_test}
use Rattle.windows.specs.rules.Window.{sum_of}
use Rattle.opcodes.specs.rules.Opcodes.{looked_up, with_words}
use Rattle.opcodes.specs.declared.Command.TheVariants as command
use Rattle.opcodes.specs.declared.Event.TheVariants.{Nothing}
use Rattle.opcodes.specs.declared.Mode.TheVariants.{Flash}
use Rattle.opcodes.specs.declared.Refusal.{Refusal}
use Rattle.opcodes.specs.rules.Refusals.{Verdict}
use Rattle.opcodes.specs.rules.Refusals as refusal
use Rattle.ledger.specs.rules.Totals.{settled, put_back}
use Rattle.ledger.specs.declared.Happening.{Happening}
use Rattle.ledger.specs.declared.Happening.TheVariants as happening
use Rattle.ledger.proofs.Laws.{stays}
use Rattle.reading.specs.rules.Reading.{past_words, argument}
use Rattle.commands.specs.rules.Commands.{sought_from, Sought}
use Rattle.commands.specs.rules.Wrote.{none_wrote}
use Rattle.flash_session.specs.rules.Sessions as flash
use Rattle.flash_commands.specs.rules.Commands.{sought_as, requested}
use Rattle.flash.specs.rules.Step.{step_of}
use Rattle.flash_session.specs.declared.Called.{Called}
use Rattle.flash_session.specs.declared.Session.{Session}
use Rattle.flash_runs.specs.rules.Run.{goes_on}
use Rattle.flash_runs.proofs.Calls.{accepted_goes}
use Rattle.machine_answers.specs.rules.Answers.{await, changed, with_checksum}
use Rattle.machine.specs.rules.Machine.{begun}
use Rattle.machine_answers.specs.rules.Replies.{one_word, word_then, acknowledged, sent_bytes}
use Rattle.machine.specs.claims.Words.{after_words}
use Rattle.machine_answers.specs.declared.Core.{Core}
use Rattle.machine_answers.specs.declared.Phase.TheVariants.{Opcode}
use Rattle.machine.proofs.ByTheTable.{by_the_table}
use Rattle.sent.specs.rules.Bus.{units_of}
use Rattle.sent.specs.claims.Lift.{at_word}
use Rattle.sent.specs.declared.Bus.{Bus}
use Rattle.law_modes.specs.claims.Modes.{Alike, RequestByMode}
use Rattle.law_modes.proofs.Modes.{both_modes}
use Rattle.law_line.specs.claims.Line.{Standing, Carries, Stopped, GoesOnAt, RequestSent}
use Rattle.law_line.proofs.Calls.{stopped_stops, stands_next}
use Rattle.law_line.proofs.Commands.{carries, acknowledged_quiet, running, lent, ready, before}
use Rattle.law_line.proofs.Rows.{request_row, over_row}
use Rattle.law_line.proofs.Stretch.{word_small}

module _ (bus : Bus) {s : Session} {m image : List ℕ} {k : Core} (standing : Standing s m image k)
    (known : looked_up (word_at image s.offset) Flash s.dialect ≡ Ok (with_words command.Request 2)) (there : past_words s.offset 2 ≤ length image) where
  abbrev opcode : ℕ
  opcode = word_at image s.offset

  abbrev call : flash.CallOutcome
  call = step_of s m image

  abbrev expected : ℕ
  expected = argument image s.offset 0

  abbrev seek : ℕ
  seek = argument image s.offset 1

  -- the session with its three words fetched, and what both modes make of the Request
  abbrev here : Session
  here = flash.fetching 3 s

  by_mode : RequestByMode s m image k
  by_mode =
      let in-flash = ap (looked_up opcode Flash) (sym standing.alike.dialect) ∙ known in
      both_modes.request s m image k (before bus standing (omega arith))
      (record { in-flash = in-flash; in_sent = request_row k.dialect opcode 2 in-flash }) there

  -- the loader after it, and after Start-Over
  abbrev asked : Core
  asked = await (begun command.Request k) (with_checksum (begun command.Request k) 0) Opcode

  abbrev over : Core
  over = changed (begun command.StartOver asked) k.ended k.on true (with_checksum (begun command.StartOver asked) 0) Opcode

  asks : Carries bus (at_word k m) (units_of bus opcode) (at_word asked m) (sent_bytes (word_then (acknowledged opcode) (one_word s.checksum))) []
  asks =
      subst (λ (n : ℕ). Carries bus (at_word k m) (units_of bus opcode) (at_word asked m) (sent_bytes (word_then (acknowledged opcode) (one_word n))) [])
      (sym standing.alike.checksum)
      (carries (ready bus standing opcode (word_small image s.offset)) by_mode.sent (running bus standing))

  starts_over : Carries bus (at_word asked m) (units_of bus 0x58535908) (at_word over m) (sent_bytes (one_word (acknowledged 0x58535908))) []
  unfolding after_words
  starts_over =
      carries (record { running = running bus standing; lent = lent bus standing; small = lit< tt; plain = λ e. absurd (true≢false e) })
      (by_the_table.done asked m 0x58535908 command.StartOver 0 [] refl (over_row k.dialect) refl ∙ acknowledged_quiet 0x58535908 over m)
      (running bus standing)

  -- an answer that stops, and one that goes on
  answer_stops : (q : Verdict) (x : Session) → call.answer ≡ flash.stopped q x → Stopped m call
  answer_stops q x e =
      record {
        stops = ap goes_on e ∙ (stopped_stops q x m).stops;
        no_event = ap (λ (a : Called). a.event) e;
        memory = by_mode.memory;
      }

  answer_goes : (h : Happening) (x : Session) {next : Core} → call.answer ≡ flash.accepted_as here h none_wrote Nothing x → x.ended ≡ false
      → Alike call.answer.session next → next.windows ≡ k.windows → next.stage.phase ≡ Opcode → next.begun ≡ true
      → GoesOnAt m image call x.offset x.retries next
  answer_goes h x e on alike windows awaits begun =
      record {
        goes = ap goes_on e ∙ accepted_goes (flash.accepted_as here h none_wrote Nothing x) refl ∙ ap not on;
        no_event = ap (λ (a : Called). a.event) e;
        memory = by_mode.memory;
        offset_is = ap (λ (a : Called). a.session.offset) e;
        retries_are = ap (λ (a : Called). a.session.retries) e;
        standing = stands_next standing alike (ap (λ (a : Called). a.session.ended) e ∙ on) (lent bus standing ∙ ap sum_of (sym windows)) awaits begun;
      }

  -- a match
  matches : expected ≡ s.checksum → GoesOnAt m image call (s.offset + 12) s.retries asked
  unfolding requested
  matches same =
      answer_goes happening.Passed (flash.go_to here 0 (past_words s.offset 2)) (by_mode.answer ∙ chosen _ _ _ (eq-eqb _ _ same)) standing.running
      (by_mode.match same).alike refl refl refl

  -- a mismatch
  module _ (differs : expected ≢ s.checksum) where
    no_retry : s.limit ≤ s.retries → Stopped m call
    unfolding requested
    no_retry spent =
        answer_stops refusal.Checksum (flash.go_to here 0 s.offset)
        (by_mode.answer ∙ passed _ _ _ (ne_eqb _ _ differs) ∙ chosen _ _ _ (le-leb _ _ spent))

    sought_answer : leb s.limit s.retries ≡ false → {led : Sought} → sought_from s.offset seek ≡ led → call.answer ≡ sought_as here led
    unfolding requested
    sought_answer some e =
        by_mode.answer ∙ passed _ _ _ (ne_eqb _ _ differs) ∙ passed _ _ _ some ∙ ap (sought_as here) e

    leads_astray : (q : Refusal) → sought_from s.offset seek ≡ Err q → Stopped m call
    leads_astray q e =
        by_test (leb s.limit s.retries) (λ spent. no_retry (leb-true _ _ spent))
        (λ some. answer_stops (Some q) (flash.go_to here 0 s.offset) (sought_answer some e))

    goes_back : s.retries < s.limit → (offset : ℕ) → sought_from s.offset seek ≡ Ok offset
        → GoesOnAt m image call offset (s.retries + 1) over
    goes_back some offset e =
        let answer = sought_answer (lt-leb _ _ some) e in
        answer_goes happening.Retried (flash.go_back here offset) answer standing.running
        (subst (λ (a : Called). Alike a.session over) (sym answer)
        (record {
          windows = standing.alike.windows;
          dialect = standing.alike.dialect;
          ended = standing.alike.ended;
          on = standing.alike.on;
          checksum = refl;
          totals = ap put_back standing.alike.totals ∙ sym (stays (put_back (settled k.tally.totals)) refl);
        }))
        refl refl refl

  pub request-sent : RequestSent bus s m image k
  request-sent =
      record {
        asked = asked;
        running = running bus standing;
        awaits = refl;
        begun = refl;
        opcode = asks;
        match = matches;
        spent = no_retry;
        astray = leads_astray;
        back = λ differs some offset e. (over, starts_over, goes_back differs some offset e);
      }

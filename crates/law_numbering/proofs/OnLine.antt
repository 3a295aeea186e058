-- A word beside the same word without the numbers: each part of the rules gives the same, or 25 where the other accepts a command that takes a number; then a
-- unit, and units by induction. So a session that has none, which is its own session without them, goes on to have none.
use Rattle.std.specs.Prelude.{Some, Ok, Err}
use Prim.Native.Nat.{ℕ, ◌+◌, ◌-◌}
use mathlib.Core.Bool.{Bool, true, false, not, ◌&&◌, ◌||◌, and-false, false≢true, true≢false}
use mathlib.Core.List.{List, [], ◌∷◌}
use mathlib.Core.Logic.{◌≢◌}
use mathlib.Core.Path.{◌≡◌, refl, sym, ap, ap₂, subst, ◌∙◌}
use native.Mathlib.Omega.{arith}
use lib.Dec.{eqb, ltb}
use lib.ListN.{length}
use borrow.Author.Tests.{ne_eqb, eqb-true}
use Rattle.std.specs.declared.result.Result.{Result}
use Rattle.words.specs.rules.Choice.{pick}
use Rattle.words.proofs.Choice.{of_choice}
use Rattle.checksum.specs.rules.Checksum.{fed_words}
use Rattle.windows.specs.rules.Window.{sum_of}
use Rattle.windows.specs.declared.Window.{Window}
use Rattle.opcodes.specs.rules.Answers.{code_of, accepted}
use Rattle.opcodes.specs.rules.Opcodes.{looked_up}
use Rattle.opcodes.specs.declared.Command.{Command}
use Rattle.opcodes.specs.declared.Command.TheVariants as command
use Rattle.opcodes.specs.declared.Dialect.{Dialect}
use Rattle.opcodes.specs.declared.Event.{Event}
use Rattle.opcodes.specs.declared.Event.TheVariants as event
use Rattle.opcodes.specs.declared.Mode.TheVariants.{Sent}
use Rattle.opcodes.specs.declared.Refusal.TheVariants as why
use Rattle.opcodes.specs.rules.Refusals as refusal
use Rattle.opcodes.proofs.Counts.{row_is, row-is}
use Rattle.opcodes.specs.declared.Known.{Known}
use Rattle.opcodes.specs.declared.Refusal.{Refusal}
use Rattle.opcodes.proofs.Looked.{Looked, of_row, of_none, of_retired, looked}
use Rattle.ledger.specs.claims.Agreement.{KeepsNone}
use Rattle.ledger.specs.rules.Totals.{standing, would_pass, differs, is_spent, numbered, turned}
use Rattle.ledger.specs.declared.Totals.{Totals}
use Rattle.ledger.proofs.Agreement.{never_numbers}
use Rattle.commands.specs.rules.Commands.{barred, done_if, load_judged, fill_judged, fill_done, fill_memory, setting_judged, setting_done, setting_memory}
use Rattle.commands.specs.rules.Commands.{entry_judged}
use Rattle.commands.specs.rules.Commands.{close_done, Judged}
use Rattle.commands.specs.rules.Wrote.{none_wrote, bytes_wrote, setting_wrote}
use Rattle.commands.specs.declared.Done.{Done}
use Rattle.commands.specs.declared.Wrote.{Wrote}
use Rattle.commands.proofs.Judging.{Passes, barred_passes, load_passes, fill_passes, setting_passes, entry_passes}
use Rattle.sent.specs.rules.Bus.{units_in_word, start_unit, pushed}
use Rattle.sent.specs.rules.Feeding.{State, totals, next, fed, answers}
use Rattle.sent.specs.rules.Line as line
use Rattle.sent.specs.rules.Line.{carried, is_start, unit_step}
use Rattle.machine_answers.specs.rules.Answers.{WordOutcome, tallied, changed, await, quiet, writing, ◌leaving◌, after, entered}
use Rattle.machine_answers.specs.rules.Counts.{counted_on, out_of_numbers}
use Rattle.machine_loads.specs.rules.Loads.{awaited, load_begun}
use Rattle.machine_commands.specs.rules.Performed.{none_kept, close_address, performed}
use Rattle.machine.specs.rules.Machine.{keeping, toward, begun, acknowledging, opening, at_opcode, in_phase, word_step}
use Rattle.sent.specs.rules.Opening.{opened_by}
use Rattle.machine_answers.specs.rules.Replies.{silence}
use Rattle.sent.specs.declared.Bus.{Bus}
use Rattle.machine_answers.specs.declared.Core.{Core}
use Rattle.machine_answers.specs.declared.Kept.{Kept}
use Rattle.sent.specs.declared.Opened.{Opened}
use Rattle.machine_answers.specs.declared.Phase.{Phase}
use Rattle.machine_answers.specs.declared.Phase.TheVariants as phase
use Rattle.sent.specs.declared.Session.{Session}
use Rattle.machine_answers.specs.declared.Taken.{Taken}
use Rattle.sent_laws.specs.claims.Reached.{Reached, opened, stepped, numbering as is_numbering}
use Rattle.law_numbering.specs.claims.LeftOut.{unnumbered, by_any, takes}
use Rattle.law_numbering.specs.claims.OnLine.{plain, plainly, plain_outcome, plain_session, plain_unit, plain_state, takes_at, takes_in, OutOfNumbers}
use Rattle.law_numbering.specs.claims.OnLine.{NoneSpent, ButNumbers, OnLine}
use Rattle.law_numbering.proofs.Common.{none_left, passes_alike, differs_alike, counted_alike, numbered_alike, turned_alike, bytes_alike, setting_alike}
use Rattle.law_numbering.proofs.Common.{Other, OtherRefusal, other, each_other, none_not}

-- an answer without the numbers, and what is given beside it
record Same (a b : Taken) : Type 0 where
  told : plainly a ≡ b

data Beside (spent takes_one : Bool) (o p : WordOutcome) : Type 0 where
  same : code_of o.answer.refusal ≢ 25 → plain_outcome o ≡ p → (spent ≡ true → takes_one ≡ true → code_of o.answer.refusal ≢ 0)
      → Beside spent takes_one o p
  lacks : o.answer.refusal ≡ refusal.Number → spent ≡ true → takes_one ≡ true → p.answer.refusal ≡ refusal.None → Beside spent takes_one o p

answer_choice : (t : Bool) {a b c d : Taken} → Same a b → Same c d → Same (pick t a c) (pick t b d)
unfolding pick
answer_choice true first second = first
answer_choice false first second = second

-- a refusal that is not 25, and what takes no number
refused : {spent takes_one : Bool} {o p : WordOutcome} → Other o.answer.refusal → plain_outcome o ≡ p → Beside spent takes_one o p
refused q e = same q.not_25 e (λ s t. q.refuses)

free : {spent : Bool} {o p : WordOutcome} → code_of o.answer.refusal ≢ 25 → plain_outcome o ≡ p → Beside spent false o p
free n e = same n e (λ s t. absurd (false≢true t))

-- what takes none may be told with any totals
settle : {spent later takes_one : Bool} {o p : WordOutcome} → takes_one ≡ false → Beside spent takes_one o p → Beside later false o p
settle none (same n e f) = free n e
settle none (lacks number spent takes_one accepted) = absurd (false≢true (sym none ∙ takes_one))

-- a command at its last word, or a word before it
toward_choice : {spent takes_one : Bool} (t : Bool) {o p r : WordOutcome} (q : WordOutcome) → Beside spent takes_one o p → code_of q.answer.refusal ≢ 25
    → plain_outcome q ≡ r
    → Beside spent (t && takes_one) (pick t o q) (pick t p r)
unfolding pick
toward_choice true q last n e = last
toward_choice false q last n e = free n e

-- what an acknowledgement and an entry leave
plain_choice : (t : Bool) (x y : Taken) → plainly (pick t x y) ≡ pick t (plainly x) (plainly y)
unfolding pick
plain_choice true x y = refl
plain_choice false x y = refl

entered_plain : (t : Taken) → plainly (entered t) ≡ entered (plainly t)
unfolding entered
entered_plain t = plain_choice (eqb (code_of t.refusal) 0) _ t

entered_refusal : (t : Taken) → (entered t).refusal ≡ t.refusal
unfolding entered
entered_refusal t = of_choice (λ (x : Taken). x.refusal ≡ t.refusal) _ {b = t} (λ h. refl) (λ h. refl)

opening_plain : (opcode : ℕ) (o : WordOutcome) → plain_outcome (opening opcode o) ≡ opening opcode (plain_outcome o)
unfolding acknowledging
opening_plain opcode o = ap (λ (t : Taken). t leaving o.memory) (plain_choice (eqb (code_of o.answer.refusal) 0) _ o.answer)

ack_refusal : (opcode : ℕ) (t : Taken) → (acknowledging opcode t).refusal ≡ t.refusal
unfolding acknowledging
ack_refusal opcode t = of_choice (λ (x : Taken). x.refusal ≡ t.refusal) _ {b = t} (λ h. refl) (λ h. refl)

opening_beside : {spent takes_one : Bool} (opcode : ℕ) {o p : WordOutcome} → Beside spent takes_one o p
    → Beside spent takes_one (opening opcode o) (opening opcode p)
opening_beside opcode {o} {p} (same n e f) =
    let as_before = sym (ap code_of (ack_refusal opcode o.answer)) in
    same (λ q. n (as_before ∙ q)) (opening_plain opcode o ∙ ap (opening opcode) e) (λ s t q. f s t (as_before ∙ q))
opening_beside opcode {o} {p} (lacks number spent takes_one accepted) =
    lacks (ack_refusal opcode o.answer ∙ number) spent takes_one (ack_refusal opcode p.answer ∙ accepted)

module _ (k : Core) where
  after_plain : (t u : Totals) → unnumbered t ≡ u → (done : Done) → Same (after k t done) (after (plain k) u done)
  unfolding after
  after_plain t u e done =
      answer_choice (eqb (code_of done.refusal) 0)
      (record {
        told = ap (λ (v : Totals). record {
          refusal = refusal.None;
          reply = silence;
          event = done.event;
          core = await k (tallied done.checksum v)
              phase.Opcode;
          wrote = none_wrote;
        }) e;
      })
      (record { told = refl })

  after_refused : (t : Totals) (done : Done) → Other done.refusal → Other (after k t done).refusal
  unfolding after
  after_refused t done q = of_choice (λ (a : Taken). Other a.refusal) _ (λ e. absurd (true≢false (sym e ∙ ne_eqb _ _ q.refuses))) (λ e. q)

  after_not : (t : Totals) (done : Done) → code_of done.refusal ≢ 25 → code_of (after k t done).refusal ≢ 25
  unfolding after
  after_not t done p = of_choice (λ (a : Taken). code_of a.refusal ≢ 25) _ (λ e. none_not) (λ e. p)

done_not : (judged : Judged) (checksum fed : ℕ) (told : Event) → Passes OtherRefusal judged → code_of (done_if judged checksum told fed).refusal ≢ 25
done_not (Ok place) checksum fed told p = none_not
done_not (Err q) checksum fed told p = p.not_25

-- a fill and a setting, by what they do where they are granted
module _ (k : Core) (t u : Totals) (left : unnumbered t ≡ u) (wrote : Judged → ℕ → Wrote)
    (alike : (judged : Judged) (number : ℕ) → by_any (wrote judged number) ≡ wrote judged 0) (memory : Judged → List ℕ) (told : Event) (fed : ℕ) where
  abbrev written : Core → Totals → Judged → WordOutcome
  written x v judged = writing (wrote judged x.tally.totals.next) (after x v (done_if judged k.tally.checksum told fed)) leaving memory judged

  written_plain : (judged : Judged) → plain_outcome (written k t judged) ≡ written (plain k) u judged
  written_plain judged =
      ap₂ (λ (w : Wrote) (a : Taken). writing w a leaving memory judged) (alike judged k.tally.totals.next)
      (after_plain k t u left (done_if judged k.tally.checksum told fed)).told

  written_granted : (place : ℕ) (spent : Bool) → Beside spent true (written k t (pick spent (Err why.Number) (Ok place)))
      (written (plain k) u (Ok place))
  unfolding after pick
  written_granted place true = lacks refl refl refl refl
  written_granted place false = same none_not (written_plain (Ok place)) (λ s t. absurd (false≢true s))

  written_beside : (judged : Judged) → Passes OtherRefusal judged
      → Beside (is_spent k.tally.totals) true (written k t (out_of_numbers k judged)) (written (plain k) u (out_of_numbers (plain k) judged))
  unfolding pick
  written_beside (Ok place) p = written_granted place (is_spent k.tally.totals)
  written_beside (Err q) p = refused (after_refused k t (record { refusal = Some q; event = event.Nothing; checksum = k.tally.checksum }) p)
      (written_plain (Err q))

module _ (k : Core) (m : List ℕ) where
  load_plain : (address size : ℕ) (judged : Judged) → plain_outcome (load_begun k address size judged leaving m) ≡ load_begun (plain k) address size judged
      leaving m
  load_plain address size (Ok place) =
      let fed : ℕ = pick k.on (fed_words k.tally.checksum (address ∷ size ∷ [])) k.tally.checksum in
      ap (λ (t : Totals). quiet (await k (tallied fed t) (awaited (place + size) size)) leaving m) (counted_alike k.dialect k.tally.totals size)
  load_plain address size (Err q) = refl

  load_granted : (address size place : ℕ) (spent : Bool)
      → Beside spent true (load_begun k address size (pick spent (Err why.Number) (Ok place)) leaving m)
      (load_begun (plain k) address size (Ok place) leaving m)
  unfolding pick
  load_granted address size place true = lacks refl refl refl refl
  load_granted address size place false = same none_not (load_plain address size (Ok place)) (λ s t. absurd (false≢true s))

  load_beside : (address size : ℕ) (judged : Judged) → Passes OtherRefusal judged
      → Beside (is_spent k.tally.totals) true (load_begun k address size (out_of_numbers k judged) leaving m)
      (load_begun (plain k) address size (out_of_numbers (plain k) judged) leaving m)
  unfolding pick
  load_beside address size (Ok place) p = load_granted address size place (is_spent k.tally.totals)
  load_beside address size (Err q) p = refused p refl

  -- 18 is given alike
  abbrev past : ℕ → Bool
  past size = would_pass k.dialect k.tally.totals size

  section_passes : (size : ℕ) (judged : Judged) → Passes OtherRefusal judged → Passes OtherRefusal (barred (past size) why.Overflow judged)
  section_passes size judged p = barred_passes OtherRefusal (past size) why.Overflow judged (other refusal.Overflow refl refl) p

  module _ (kept : Kept) (word : ℕ) where
    load_last : Beside (is_spent k.tally.totals) true (performed command.Load k m kept word) (performed command.Load (plain k) m kept word)
    load_last =
        let judged : Judged = load_judged k.windows kept.third word in
        subst
        (λ (t : Bool). Beside (is_spent k.tally.totals) true (performed command.Load k m kept word)
        (load_begun (plain k) kept.third word (out_of_numbers (plain k) (barred t why.Overflow judged)) leaving m))
        (passes_alike k.dialect k.tally.totals word)
        (load_beside kept.third word (barred (past word) why.Overflow judged)
        (section_passes word judged (load_passes OtherRefusal each_other k.windows kept.third word)))

    fill_last : Beside (is_spent k.tally.totals) true (performed command.Fill k m kept word) (performed command.Fill (plain k) m kept word)
    unfolding fill_done
    fill_last =
        let size : ℕ = kept.second in
        let judged : Judged = fill_judged k.windows kept.first size kept.third in
        let fed : ℕ = pick k.on (fed_words k.tally.checksum (kept.first ∷ size ∷ kept.third ∷ word ∷ [])) k.tally.checksum in
        let lent : Judged → List ℕ = λ j. fill_memory j m size kept.third word in
        subst
        (λ (t : Bool). Beside (is_spent k.tally.totals) true (performed command.Fill k m kept word)
        (written k (counted_on k size) (counted_on (plain k) size) (counted_alike k.dialect k.tally.totals size) (λ j n. bytes_wrote j size n)
        (λ j n. bytes_alike j size n)
        lent event.Nothing fed (plain k) (counted_on (plain k) size) (out_of_numbers (plain k) (barred t why.Overflow judged))))
        (passes_alike k.dialect k.tally.totals size)
        (written_beside k (counted_on k size) (counted_on (plain k) size) (counted_alike k.dialect k.tally.totals size) (λ j n. bytes_wrote j size n)
        (λ j n. bytes_alike j size n) lent event.Nothing fed (barred (past size) why.Overflow judged)
        (section_passes size judged (fill_passes OtherRefusal each_other k.windows kept.first size kept.third)))

    setting_last : Beside (is_spent k.tally.totals) true (performed command.BootTable k m kept word) (performed command.BootTable (plain k) m kept word)
    unfolding setting_done
    setting_last =
        written_beside k (numbered k.tally.totals) (numbered (unnumbered k.tally.totals)) (numbered_alike k.tally.totals)
        (λ j n. setting_wrote j kept.first n)
        (λ j n. setting_alike j kept.first n) (λ j. setting_memory j m kept.first kept.third) (event.Wait word) k.tally.checksum
        (setting_judged k.windows kept.first kept.second kept.third)
        (setting_passes OtherRefusal each_other k.windows kept.first kept.second kept.third)

    close_last : Beside (is_spent k.tally.totals) false (performed command.JumpAndClose k m kept word) (performed command.JumpAndClose (plain k) m kept word)
    unfolding close_done
    close_last =
        let address : ℕ = close_address k.dialect kept word in
        let judged : Judged = entry_judged k.windows address in
        let done_by : Bool → Done = λ t. done_if (barred t why.Totals judged) k.tally.checksum (event.Enter address) k.tally.checksum in
        let differ : Bool = differs k.dialect k.tally.totals (standing kept.third word) in
        let t : Totals = k.tally.totals in
        free
        (λ q. after_not k t (done_by differ)
        (done_not (barred differ why.Totals judged) k.tally.checksum k.tally.checksum (event.Enter address)
        (barred_passes OtherRefusal differ why.Totals judged (other refusal.Totals refl refl) (entry_passes OtherRefusal each_other k.windows address)))
        (sym (ap code_of (entered_refusal (after k t (done_by differ)))) ∙ q))
        (ap (λ (a : Taken). a leaving m)
        (entered_plain (after k t (done_by differ))
        ∙ ap entered
        ((after_plain k t (unnumbered t) refl (done_by differ)).told
        ∙ ap (λ (d : Bool). after (plain k) (unnumbered t) (done_by d)) (differs_alike k.dialect t (standing kept.third word)))))

    performed_beside : (c : Command) → Beside (is_spent k.tally.totals) (takes c) (performed c k m kept word) (performed c (plain k) m kept word)
    performed_beside command.Load = load_last
    performed_beside command.Fill = fill_last
    performed_beside command.BootTable = setting_last
    performed_beside command.Enable = free none_not refl
    performed_beside command.Disable = free none_not refl
    performed_beside command.Request = free none_not refl
    performed_beside command.StartOver = free none_not refl
    performed_beside command.JumpAndClose = close_last
    performed_beside command.Ping = free none_not refl
    performed_beside command.SequentialRead = free (other refusal.Opcode refl refl).not_25 refl

    toward_beside : (c : Command) (left : ℕ) → Beside (is_spent k.tally.totals) (takes_at c left) (toward c left k m kept word)
        (toward c left (plain k) m kept word)
    toward_beside c left = toward_choice (eqb left 0) (quiet (await k k.tally (phase.Argument c left (keeping kept word))) leaving m) (performed_beside c)
        none_not refl

-- the table has no command that takes a number and no words
no_taking : (d : Dialect) (c : Command) (words : ℕ) → row_is Sent d c words ≡ true → takes_at c words ≡ false
unfolding row_is
no_taking d command.Load words row = ap (λ (t : Bool). t && true) (ne_eqb words 0 (λ e. omega (arith, e, eqb-true words 2 row)))
no_taking d command.Fill words row = ap (λ (t : Bool). t && true) (ne_eqb words 0 (λ e. omega (arith, e, eqb-true words 4 row)))
no_taking d command.BootTable words row = ap (λ (t : Bool). t && true) (ne_eqb words 0 (λ e. omega (arith, e, eqb-true words 4 row)))
no_taking d command.Enable words row = rw and-false
no_taking d command.Disable words row = rw and-false
no_taking d command.Request words row = rw and-false
no_taking d command.StartOver words row = rw and-false
no_taking d command.JumpAndClose words row = rw and-false
no_taking d command.Ping words row = rw and-false
no_taking d command.SequentialRead words row = rw and-false

module _ (k : Core) (m : List ℕ) (word : ℕ) where
  opcode_beside : {f : Result Known Refusal} → Looked f → looked_up word Sent k.dialect ≡ f
      → Beside (is_spent k.tally.totals) false (at_opcode k m word f) (at_opcode (plain k) m word f)
  opcode_beside of_none known = free (other refusal.Opcode refl refl).not_25 refl
  opcode_beside of_retired known = free (other refusal.Retired refl refl).not_25 refl
  opcode_beside (of_row f) known =
      let core : Totals → Core = λ t. changed k k.ended k.on true (tallied k.tally.checksum t) k.stage.phase in
      settle (no_taking k.dialect f.command f.words (row-is Sent k.dialect word f.command f.words known))
      (opening_beside word
      (subst
      (λ (t : Totals). Beside (is_spent (turned f.command k.tally.totals)) (takes_at f.command f.words)
      (toward f.command f.words (begun f.command k) m none_kept 0)
      (toward f.command f.words (core t) m none_kept 0))
      (turned_alike f.command k.tally.totals) (toward_beside (begun f.command k) m none_kept 0 f.command f.words)))

  phase_beside : (p : Phase) → Beside (is_spent k.tally.totals) (takes_in p) (in_phase p k m word) (in_phase p (plain k) m word)
  phase_beside phase.Opcode = opcode_beside (looked word Sent k.dialect) refl
  phase_beside (phase.Argument c left kept) = toward_beside k m kept word c (left - 1)
  phase_beside (phase.Data end left) = free none_not refl
  phase_beside (phase.Echo n) = free none_not refl

  word_beside : Beside (is_spent k.tally.totals) (takes_in k.stage.phase) (word_step k m word) (word_step (plain k) m word)
  unfolding word_step
  word_beside = phase_beside k.stage.phase

  word_same : code_of (word_step k m word).answer.refusal ≢ 25 → plain_outcome (word_step k m word) ≡ word_step (plain k) m word
  word_same other = go word_beside
    where
      go : Beside (is_spent k.tally.totals) (takes_in k.stage.phase) (word_step k m word) (word_step (plain k) m word)
          → plain_outcome (word_step k m word) ≡ word_step (plain k) m word
      go (same n e f) = e
      go (lacks number spent takes_one accepted) = absurd (other (ap code_of number))

  word_only : code_of (word_step k m word).answer.refusal ≡ 25 → OutOfNumbers k m word
  word_only is = go word_beside
    where
      go : Beside (is_spent k.tally.totals) (takes_in k.stage.phase) (word_step k m word) (word_step (plain k) m word) → OutOfNumbers k m word
      go (same n e f) = absurd (n is)
      go (lacks number spent takes_one accepted) = record { spent = spent; takes_one = takes_one; accepted = accepted }

  word_spent : OutOfNumbers k m word → (word_step k m word).answer.refusal ≡ refusal.Number
  word_spent out = go word_beside
    where
      go : Beside (is_spent k.tally.totals) (takes_in k.stage.phase) (word_step k m word) (word_step (plain k) m word)
          → (word_step k m word).answer.refusal ≡ refusal.Number
      go (same n e f) = absurd (f out.spent out.takes_one (ap code_of (ap (λ (o : WordOutcome). o.answer.refusal) e ∙ out.accepted)))
      go (lacks number spent takes_one accepted) = number

-- a unit, whichever of its tests decides
record Unless (o p : line.UnitOutcome) : Type 0 where
  unless : code_of o.answer.refusal ≢ 25 → plain_unit o ≡ p

unit_choice : (t : Bool) {o p q r : line.UnitOutcome} → Unless o p → Unless q r → Unless (pick t o q) (pick t p r)
unfolding pick
unit_choice true first second = first
unit_choice false first second = second

module _ (bus : Bus) (s : Session) (m : List ℕ) (u : ℕ) where
  abbrev whole : ℕ
  whole = pushed bus s.line.word u

  carried_same : Unless (carried s (word_step s.core m whole)) (carried (plain_session s) (word_step (plain s.core) m whole))
  unfolding carried
  carried_same = record { unless = λ n. ap (carried (plain_session s)) (word_same s.core m whole n) }

  unit_unless : Unless (unit_step bus s m u) (unit_step bus (plain_session s) m u)
  unfolding unit_step is_start
  unit_unless =
      unit_choice s.core.ended (record { unless = λ n. refl })
      (unit_choice (not (eqb (length m) (sum_of s.core.windows))) (record { unless = λ n. refl })
      (unit_choice (eqb u (start_unit bus) && (not s.line.started || (eqb s.line.have 0 && not s.core.begun))) (record { unless = λ n. refl })
      (unit_choice (not s.line.started) (record { unless = λ n. refl })
      (unit_choice (ltb s.line.have (units_in_word bus - 1)) (record { unless = λ n. refl }) carried_same))))

  unit_same : code_of (unit_step bus s m u).answer.refusal ≢ 25 → plain_unit (unit_step bus s m u) ≡ unit_step bus (plain_session s) m u
  unit_same n = unit_unless.unless n

  -- 25 comes of a word alone
  unit_only : code_of (unit_step bus s m u).answer.refusal ≡ 25 → is_spent s.core.tally.totals ≡ true
  unfolding unit_step carried
  unit_only =
      let P : line.UnitOutcome → Type 0 = λ o. code_of o.answer.refusal ≡ 25 → is_spent s.core.tally.totals ≡ true in
      of_choice P _ (λ h is. absurd ((other refusal.Ended refl refl).not_25 is))
      (λ h. of_choice P _ (λ h is. absurd ((other refusal.Memory refl refl).not_25 is))
      (λ h. of_choice P _ (λ h is. absurd (none_not is))
      (λ h. of_choice P _ (λ h is. absurd (none_not is))
      (λ h. of_choice P _ (λ h is. absurd (none_not is)) (λ h is. (word_only s.core m whole is).spent)))))

-- units, one after the other
plain_next : (bus : Bus) (x : State) (u : ℕ) → code_of (unit_step bus x.session x.memory u).answer.refusal ≢ 25
    → plain_state (next bus x u) ≡ next bus (plain_state x) u
plain_next bus x u n = ap (λ (o : line.UnitOutcome). record { session = o.answer.session; memory = o.memory }) (unit_same bus x.session x.memory u n)

units_same : (bus : Bus) (units : List ℕ) (x : State) → NoneSpent bus x units → ButNumbers bus x units
unfolding fed answers NoneSpent
units_same bus [] x n = record { same_answers = refl; same_rest = refl }
units_same bus (u ∷ us) x n =
    let rest = units_same bus us (next bus x u) n.1 in
    let there = plain_next bus x u n.0 in
    record {
      same_answers =
          ap₂ ◌∷◌
          (ap (λ (o : line.UnitOutcome). record { refusal = o.answer.refusal; reply = o.answer.reply; event = o.answer.event })
          (unit_same bus x.session x.memory u n.0))
          (rest.same_answers ∙ ap (λ (y : State). answers bus y us) there);
      same_rest = rest.same_rest ∙ ap (λ (y : State). fed bus y us) there;
    }

-- a session that keeps no numbers is itself without them
none_never : (bus : Bus) (x : State) (u : ℕ) → KeepsNone (totals x) → code_of (unit_step bus x.session x.memory u).answer.refusal ≢ 25
none_never bus x u none is = true≢false (sym (unit_only bus x.session x.memory u is) ∙ never_numbers.passes (totals x) none)

none_stays : (bus : Bus) (x : State) (u : ℕ) → KeepsNone (totals x) → KeepsNone (totals (next bus x u))
none_stays bus x u none =
    let k : Core = x.session.core in
    let here : plain_state x ≡ x =
    ap (λ (t : Totals). record {
      session = record {
        core = changed k k.ended k.on k.begun (tallied k.tally.checksum t) k.stage.phase;
        line = x.session.line;
      };
      memory = x.memory;
    })
    (none_left (totals x) none) in
    let there : plain_state (next bus x u) ≡ next bus x u = plain_next bus x u (none_never bus x u none) ∙ ap (λ (y : State). next bus y u) here in (
      sym (ap (λ (y : State). (totals y).next) there),
      sym (ap (λ (y : State). (totals y).back) there),
    )

opened_none : (bus : Bus) (dialect : Dialect) (count : ℕ) (windows : List Window) → KeepsNone (opened_by bus dialect count windows).session.core.tally.totals
unfolding opened_by
opened_none bus dialect count windows = of_choice (λ (o : Opened). KeepsNone o.session.core.tally.totals) _ (λ e. (refl, refl)) (λ e. (refl, refl))

reached_none : {bus : Bus} {s : Session} (reached : Reached bus s) → is_numbering reached ≡ false → KeepsNone s.core.tally.totals
unfolding pick
reached_none (opened true dialect count windows) e = absurd (true≢false e)
reached_none {bus} (opened false dialect count windows) e = opened_none bus dialect count windows
reached_none {bus} (stepped {s} m u before) e = none_stays bus (record { session = s; memory = m }) u (reached_none before e)

pub on_line : OnLine
on_line =
    record {
      none = λ bus s reached e. reached_none reached e;
      never = λ bus s m u reached e. none_never bus (record { session = s; memory = m }) u (reached_none reached e);
      word = word_same;
      unit = unit_same;
      units = λ bus x units n. units_same bus units x n;
      spent = word_spent;
      only = word_only;
    }

-- The cases of a turn, once for all laws: a turn takes the tests of its definition one after the other, and its wait decides what follows the right answer.
use Rattle.std.specs.Prelude.{Ok, Err}
use Prim.Native.Nat.{ℕ, ◌+◌, ◌<◌}
use mathlib.Core.Bool.{Bool, true, false, not, ◌&&◌, true≢false, and-false, or-true}
use mathlib.Core.List.{List}
use mathlib.Core.Path.{◌≡◌, refl, sym, ap, ◌∙◌}
use native.Mathlib.Omega.{arith}
use lib.Dec.{leb, eqb}
use borrow.Author.Tests.{ltb-true, ltb-false, leb-true, leb-false, eqb-true, ne_eqb, le-leb, lt-leb, not-true, not-false}
use Rattle.std.specs.declared.result.Result.{Result}
use Rattle.words.specs.rules.Bytes.{word_at}
use Rattle.words.specs.rules.Choice.{pick}
use Rattle.words.proofs.Choice.{chosen, passed, both, of_choice}
use Rattle.opcodes.specs.rules.Answers.{code_of}
use Rattle.opcodes.specs.declared.Command.{Command}
use Rattle.opcodes.specs.declared.Command.TheVariants as command
use Rattle.opcodes.specs.declared.Dialect.{Dialect}
use Rattle.opcodes.specs.declared.Dialect.TheVariants.{Am17xx, Dm648}
use Rattle.opcodes.specs.declared.Mode.TheVariants.{Flash}
use Rattle.opcodes.specs.declared.Refusal.TheVariants as why
use Rattle.opcodes.specs.rules.Refusals.{Verdict}
use Rattle.opcodes.specs.rules.Refusals as refusal
use Rattle.opcodes.proofs.Counts.{row_is, row-is}
use Rattle.opcodes.specs.declared.Known.{Known}
use Rattle.reading.specs.rules.Reading.{argument}
use Rattle.reading.proofs.Reading.{Reads, no_opcode, unknown, retired, cut_short, whole, reads}
use Rattle.reading.specs.declared.Unread.{Unread}
use Rattle.commands.specs.rules.Commands.{sought_from, Sought}
use Rattle.host_ear.specs.rules.Ear.{newest, ends_with_checksum}
use Rattle.host_answers.specs.rules.Hosts.{at, trying}
use Rattle.host_answers.specs.rules.Sendings.{echoed, repeats, is_part}
use Rattle.host_answers.specs.rules.Answers.{unchanged, refused, sending, again, answered_by, acknowledges, on_to}
use Rattle.host_commands.specs.rules.Commands.{words_to, closing}
use Rattle.host_commands.specs.rules.Commands.{sought_as, compared, acknowledged_as}
use Rattle.host.specs.rules.Turn.{echo_heard, met, met_to}
use Rattle.host.specs.rules.Turn.{in_wait, turned}
use Rattle.host_laws.specs.claims.Looks.{is_request, is_close, is_lent, is_turn, right_answer, echo_differs, fails, repeated}
use Rattle.host_laws.specs.claims.Outgoing as out
use Rattle.host_laws.specs.claims.Outgoing.{Stands, Words, Next}
use Rattle.host_laws.specs.claims.Retries.{mismatches, leads, sought_by}
use Rattle.host_answers.specs.declared.Host.{Host}
use Rattle.host_answers.specs.declared.Sending.{Sending}
use Rattle.host_answers.specs.declared.Sending.TheVariants.{Nothing, Stretch}
use Rattle.host_answers.specs.declared.Turned.{Turned}
use Rattle.host_answers.specs.declared.Wait.{Wait}
use Rattle.host_answers.specs.declared.Wait.TheVariants as wait

-- a refusal that has no law of its own here: 5, 6, 15
pub record Plain (q : Verdict) : Type 0 where
  pub not_0 : eqb (code_of q) 0 ≡ false
  pub not_3 : eqb (code_of q) 3 ≡ false
  pub not_11 : eqb (code_of q) 11 ≡ false
  pub not_12 : eqb (code_of q) 12 ≡ false
  pub not_14 : eqb (code_of q) 14 ≡ false
  pub not_20 : eqb (code_of q) 20 ≡ false

missing : Plain refusal.Missing
missing = record { not_0 = refl; not_3 = refl; not_11 = refl; not_12 = refl; not_14 = refl; not_20 = refl }

opcode : Plain refusal.Opcode
opcode = record { not_0 = refl; not_3 = refl; not_11 = refl; not_12 = refl; not_14 = refl; not_20 = refl }

gone : Plain refusal.Retired
gone = record { not_0 = refl; not_3 = refl; not_11 = refl; not_12 = refl; not_14 = refl; not_20 = refl }

-- a seek leads to an offset, or is 12
data Seeks : Sought → Type 0 where
  to : {offset : ℕ} → Seeks (Ok offset)
  nowhere : Seeks (Err why.Seek)

seeks : (request seek : ℕ) → Seeks (sought_from request seek)
unfolding sought_from
seeks request seek = of_choice Seeks _ (λ e. to) (λ e. nowhere)

-- what a wait sends again is what the table says
repeats_same : (before : Wait) (h : Host) (image : List ℕ) → repeats before h image ≡ repeated before h image
repeats_same wait.Greeting h image = refl
repeats_same wait.Start h image = refl
repeats_same wait.Ping h image = refl
repeats_same (wait.Echo k) h image = refl
repeats_same wait.Nothing h image = refl
repeats_same (wait.Opcode command end) h image = refl
repeats_same (wait.Over offset) h image = refl
repeats_same wait.Closing h image = refl

module _ (h : Host) (image : List ℕ) where
  -- the right answer was heard, and so the look does not fail
  pub record Right (before : Wait) : Type 0 where
    pub right : right_answer before h image ≡ true
    pub fine : fails before h image ≡ false

  -- a look: 20, the wait goes on, or the right answer is followed by the table or by a refusal
  pub data Looked : Wait → Turned → Type 0 where
    twenty : {before : Wait} → fails before h image ≡ true → mismatches before h image ≡ false → Looked before (refused refusal.Tries h)
    goes_on : {before : Wait} → right_answer before h image ≡ false → fails before h image ≡ false → mismatches before h image ≡ false
        → h.spent + 1 < h.tries
        → Looked before (sending (pick h.ear.fresh Nothing (repeated h.stage.wait h image)) (trying h))
    goes : {before : Wait} {g : Host} {sent : Sending} → Right before → Next h image before g sent → Looked before (sending sent g)
    refuses : {before : Wait} {q : Verdict} → Right before → mismatches before h image ≡ false → Plain q → Looked before (refused q h)
    no_retry : {before : Wait} → Right before → mismatches before h image ≡ true → leb h.limit h.retries ≡ true
        → Looked before (refused refusal.Checksum h)
    no_seek : {before : Wait} → Right before → mismatches before h image ≡ true → leb h.limit h.retries ≡ false
        → leads (sought_by h image) ≡ false → Looked before (refused refusal.Seek h)

  -- a turn: 14, 3, or a look
  pub data Way : Turned → Type 0 where
    over : h.ended ≡ true → is_turn h image ≡ false → Way (unchanged refusal.Ended h)
    another : h.ended ≡ false → is_lent h image ≡ false → is_turn h image ≡ false → Way (unchanged refusal.Image h)
    looks : {t : Turned} → h.ended ≡ false → is_lent h image ≡ true → is_turn h image ≡ true → Looked h.stage.wait t → Way t

  -- no right answer: then no mismatch either
  no_mismatch : (before : Wait) → right_answer before h image ≡ false → mismatches before h image ≡ false
  no_mismatch wait.Greeting wrong = refl
  no_mismatch wait.Start wrong = refl
  no_mismatch wait.Ping wrong = refl
  no_mismatch (wait.Echo k) wrong = refl
  no_mismatch wait.Nothing wrong = refl
  no_mismatch (wait.Opcode c end) wrong = rw (wrong, and-false)
  no_mismatch (wait.Over offset) wrong = refl
  no_mismatch wait.Closing wrong = refl

  again_looked : (before : Wait) → right_answer before h image ≡ false → echo_differs before h ≡ false → Looked before (again h image)
  unfolding again
  again_looked before wrong same =
      of_choice (Looked before) _ (λ last. twenty (rw (wrong, last)) (no_mismatch before wrong))
      (λ more.
      let fine : fails before h image ≡ false = rw (wrong, more, same) in
      rw repeats_same (goes_on wrong fine (no_mismatch before wrong) (leb-false _ _ more)))

  -- a wait that is answered by one test
  answered : (before : Wait) (test : Bool) {t : Turned} → right_answer before h image ≡ test → echo_differs before h ≡ false
      → (Right before → Looked before t) → Looked before (answered_by test h image t)
  unfolding answered_by
  answered before test is same then =
      of_choice (Looked before) _
      (λ e. let right : right_answer before h image ≡ true = is ∙ e in then (record { right = right; fine = rw (right, same) }))
      (λ e. again_looked before (is ∙ e) same)

  -- a mismatch with a retry left: the seek leads somewhere, or is 12
  sought_looked : (c : Command) (end : ℕ) → Right (wait.Opcode c end) → mismatches (wait.Opcode c end) h image ≡ true
      → leb h.limit h.retries ≡ false → {s : Sought} → Seeks s → sought_by h image ≡ s → Looked (wait.Opcode c end) (sought_as h image s)
  sought_looked c end right other left to e = goes right (out.starts_over other (leb-false _ _ left) e)
  sought_looked c end right other left nowhere e = no_seek right other left (ap leads e)

  -- the checksum that a Request was answered with
  compared_looked : (c : Command) (end : ℕ) → is_request c ≡ true → Right (wait.Opcode c end)
      → Looked (wait.Opcode c end) (compared h image end (newest h.ear 4))
  unfolding compared
  compared_looked c end asks right =
      let Mine : Turned → Type 0 = Looked (wait.Opcode c end) in
      of_choice Mine (eqb (argument image h.offset 0) (newest h.ear 4)) (λ e. goes right (out.moves (out.matched asks (eqb-true _ _ e))))
      (λ e.
      let other : mismatches (wait.Opcode c end) h image ≡ true = rw (right.right, asks, e) in
      of_choice Mine _ (λ none. no_retry right other none) (λ left. sought_looked c end right other left (seeks _ _) refl))

  -- the words of any other command
  words_looked : (c : Command) (end : ℕ) (next : Host) → is_request c ≡ false → Right (wait.Opcode c end)
      → (Words h image c end → Next h image (wait.Opcode c end) next (Stretch (h.offset + 4) end)) → Looked (wait.Opcode c end) (words_to h image end next)
  unfolding words_to is_part
  words_looked c end next asks_nothing right then =
      of_choice (Looked (wait.Opcode c end)) _
      (λ e.
      let parts = both (leb (h.offset + 4) end) _ e in
      goes right
      (then (record { asks_nothing = asks_nothing; from = leb-true _ _ parts.0; inside = leb-true _ _ parts.1; bytes = chosen _ _ _ e })))
      (λ e. refuses right (rw asks_nothing) missing)

  closing_next : (c : Command) (end : ℕ) → is_close c ≡ true → (d : Dialect) → h.dialect ≡ d → Words h image c end
      → Next h image (wait.Opcode c end) (closing d (at h end)) (Stretch (h.offset + 4) end)
  closing_next c end shuts Am17xx e words = out.closed words shuts e
  closing_next c end shuts Dm648 e words = out.closes words shuts e

  -- an opcode that is out, by what its command is
  asked : (c : Command) (end : ℕ) → is_request c ≡ true
      → Looked (wait.Opcode c end) (answered_by (ends_with_checksum h.ear (word_at image h.offset)) h image (compared h image end (newest h.ear 4)))
  asked c end asks = answered (wait.Opcode c end) _ (chosen _ _ _ asks) refl (compared_looked c end asks)

  went : (c : Command) (end : ℕ) → is_request c ≡ false → is_close c ≡ false
      → Looked (wait.Opcode c end) (answered_by (acknowledges h (word_at image h.offset)) h image (words_to h image end (on_to h end)))
  went c end asks_nothing stays =
      answered (wait.Opcode c end) _ (passed _ _ _ asks_nothing) refl
      (λ right. words_looked c end _ asks_nothing right (λ words. out.moves (out.went words stays)))

  shut : (c : Command) (end : ℕ) → is_request c ≡ false → is_close c ≡ true
      → Looked (wait.Opcode c end)
      (answered_by (acknowledges h (word_at image h.offset)) h image (words_to h image end (closing h.dialect (at h end))))
  shut c end asks_nothing shuts =
      answered (wait.Opcode c end) _ (passed _ _ _ asks_nothing) refl
      (λ right. words_looked c end _ asks_nothing right (closing_next c end shuts h.dialect refl))

  opcode_looked : (c : Command) (end : ℕ) → Looked (wait.Opcode c end) (acknowledged_as h image c end)
  opcode_looked command.Load end = went command.Load end refl refl
  opcode_looked command.Fill end = went command.Fill end refl refl
  opcode_looked command.BootTable end = went command.BootTable end refl refl
  opcode_looked command.Enable end = went command.Enable end refl refl
  opcode_looked command.Disable end = went command.Disable end refl refl
  opcode_looked command.Request end = asked command.Request end refl
  opcode_looked command.StartOver end = went command.StartOver end refl refl
  opcode_looked command.JumpAndClose end = shut command.JumpAndClose end refl refl
  opcode_looked command.Ping end = went command.Ping end refl refl
  opcode_looked command.SequentialRead end = went command.SequentialRead end refl refl

  -- where nothing is waited for the turn goes on
  nothing_right : Right wait.Nothing
  nothing_right = record { right = refl; fine = refl }

  -- a command that stands there; Ping and Start-Over have no flash row
  stands_looked : (c : Command) (words end : ℕ) → row_is Flash h.dialect c words ≡ true → Stands h.dialect h.offset image c end
      → Looked wait.Nothing (met_to h image c end)
  unfolding row_is
  stands_looked command.Load words end row stands = goes nothing_right (out.begins (out.met stands refl))
  stands_looked command.Fill words end row stands = goes nothing_right (out.begins (out.met stands refl))
  stands_looked command.BootTable words end row stands = goes nothing_right (out.begins (out.met stands refl))
  stands_looked command.Enable words end row stands = goes nothing_right (out.begins (out.met stands refl))
  stands_looked command.Disable words end row stands = goes nothing_right (out.begins (out.met stands refl))
  stands_looked command.Request words end row stands = goes nothing_right (out.begins (out.met stands refl))
  stands_looked command.StartOver words end row stands = absurd (true≢false (sym row))
  stands_looked command.JumpAndClose words end row stands = goes nothing_right (out.begins (out.met stands refl))
  stands_looked command.Ping words end row stands = absurd (true≢false (sym row))
  stands_looked command.SequentialRead words end row stands = goes nothing_right (out.moves (out.passed stands refl))

  met_looked : {r : Result Known Unread} → Reads image h.offset h.dialect r → Looked wait.Nothing (met h image r)
  met_looked (no_opcode short) = refuses nothing_right refl missing
  met_looked (unknown here e) = refuses nothing_right refl opcode
  met_looked (retired here e) = refuses nothing_right refl gone
  met_looked (cut_short here e short) = refuses nothing_right refl missing
  met_looked (whole {command = c} {words = n} e there) =
      of_choice (Looked wait.Nothing) _ (λ short. refuses nothing_right refl missing)
      (λ long. stands_looked c n _ (row-is Flash h.dialect _ c n e) (record { words = n; row = e; upto = refl; inside = ltb-false _ _ long }))

  -- an echo: too few bytes, another word, the word
  echo_looked : (k : ℕ) → Looked (wait.Echo k) (echo_heard h image k)
  unfolding echo_heard
  echo_looked k =
      let Mine : Turned → Type 0 = Looked (wait.Echo k) in
      of_choice Mine _
      (λ few. let short : leb 4 h.ear.count ≡ false = lt-leb 4 h.ear.count (ltb-true _ _ few) in again_looked (wait.Echo k) (rw short) (rw short))
      (λ four.
      let long : leb 4 h.ear.count ≡ true = le-leb 4 h.ear.count (ltb-false _ _ four) in
      of_choice Mine _
      (λ e.
      let other : eqb (newest h.ear 4) (echoed h k) ≡ false = not-true _ e in
      twenty {before = wait.Echo k} (rw (long, other, or-true)) refl)
      (λ e.
      let same : eqb (newest h.ear 4) (echoed h k) ≡ true = not-false _ e in
      let right : Right (wait.Echo k) = record { right = rw (long, same); fine = rw (long, same) } in
      let after : echoed h (k + 1) ≡ k + 1 = passed _ _ _ (ne_eqb (k + 1) 0 (λ z. omega arith)) in
      of_choice Mine _ (λ more. rw after (goes right (out.begins (out.echoed (ltb-true _ _ more)))))
      (λ last. goes right (out.begins (out.echoed_last (ltb-false _ _ last))))))

  wait_looked : (before : Wait) → Looked before (in_wait before h image)
  unfolding pick
  wait_looked wait.Greeting = answered wait.Greeting _ refl refl (λ right. goes right (out.begins out.greeted))
  wait_looked wait.Start = answered wait.Start _ refl refl (λ right. goes right (out.begins out.started))
  wait_looked wait.Ping = answered wait.Ping _ refl refl (λ right. goes right (out.begins out.pinged))
  wait_looked (wait.Echo k) = echo_looked k
  wait_looked wait.Nothing = met_looked (reads image h.offset h.dialect)
  wait_looked (wait.Opcode c end) = opcode_looked c end
  wait_looked (wait.Over offset) = answered (wait.Over offset) _ refl refl (λ right. goes right (out.moves out.sought))
  wait_looked wait.Closing = answered wait.Closing _ refl refl (λ right. goes right out.done)

  -- each turn goes one of the ways
  pub way : Way (turned h image)
  unfolding turned
  way =
      of_choice Way _ (λ ended. over ended (ap (λ (e : Bool). not e && is_lent h image) ended))
      (λ running.
      let turn : is_turn h image ≡ is_lent h image = ap (λ (e : Bool). not e && is_lent h image) running in
      of_choice Way _ (λ e. let other = not-true _ e in another running other (turn ∙ other))
      (λ e. let lent = not-false _ e in looks running lent (turn ∙ lent) (wait_looked h.stage.wait)))

-- A command with its words: the opcode is acknowledged, each word but the last is taken in silence, and at the last the loader does what the call does, by
-- `both-modes`. So the units of the rest lead to where the call leads.
use Prim.Native.Nat.{ℕ, suc, ◌+◌, ◌-◌, ◌*◌, ◌^◌, ◌≤◌, ◌<◌}
use mathlib.Core.Bool.{true, false, true≢false}
use mathlib.Core.List.{List, [], ◌∷◌}
use mathlib.Core.Logic.{◌≢◌}
use mathlib.Core.Path.{◌≡◌, refl, sym, ap, subst, ◌∙◌}
use native.Mathlib.Omega.{arith}
use lib.Dec.{eqb}
use lib.ListN.{length}
use borrow.Author.Tests.{eqb-true, eqb-false}
use Rattle.std.specs.declared.result.Result.TheVariants.{Ok}
use Rattle.words.specs.rules.Bytes.{bytes_at, word_at}
use Rattle.words.specs.rules.Choice.{pick}
use Rattle.words.proofs.Choice.{by_test}
use Rattle.windows.specs.rules.Window.{sum_of}
use Rattle.opcodes.specs.rules.Answers.{code_of, kind_of, told}
use Rattle.opcodes.specs.rules.Opcodes.{looked_up, with_words}
use Rattle.opcodes.specs.declared.Command.{Command}
use Rattle.opcodes.specs.declared.Command.TheVariants as command
use Rattle.opcodes.specs.declared.Mode.TheVariants.{Flash, Sent}
use Rattle.reading.specs.rules.Reading.{past_words, data_words, data_size, past_data}
use Rattle.flash_session.specs.rules.Sessions as flash
use Rattle.flash.specs.rules.Step.{step_of}
use Rattle.flash_session.specs.declared.Session.{Session}
use Rattle.flash_runs.specs.rules.Run.{goes_on}
use Rattle.machine_answers.specs.rules.Answers.{WordOutcome, said, quiet, ◌leaving◌}
use Rattle.machine_commands.specs.rules.Performed.{none_kept, performed}
use Rattle.machine.specs.rules.Machine.{keeping, begun, acknowledging, opening, word_step}
use Rattle.machine_answers.specs.rules.Replies.{one_word, word_then, acknowledged, farewell, sent_bytes}
use Rattle.machine.specs.claims.Words.{after_words, asking, done_with}
use Rattle.machine_answers.specs.declared.Core.{Core}
use Rattle.machine_answers.specs.declared.Kept.{Kept}
use Rattle.machine_answers.specs.declared.Phase.TheVariants.{Opcode}
use Rattle.machine_answers.specs.declared.Reply.{Reply}
use Rattle.machine.proofs.ByTheTable.{word_kept, opcode_asks, by_the_table}
use Rattle.sent.specs.rules.Bus.{units_of, units_fed, all_units}
use Rattle.sent.specs.rules.Feeding.{State, fed}
use Rattle.sent.specs.claims.Lift.{at_word, Ready}
use Rattle.sent.specs.declared.Bus.{Bus}
use Rattle.law_modes.specs.claims.Modes.{Same, words_at, Before, sent_with, RowsOf}
use Rattle.law_modes.proofs.ImageWords.{words_length}
use Rattle.law_modes.proofs.Modes.{both_modes}
use Rattle.law_line.specs.claims.Line.{Standing, Carries, After, rest_here, CommandSent}
use Rattle.law_line.proofs.Answers.{Says, silently, closing, Answered, last_performs}
use Rattle.law_line.proofs.Calls.{goes_means, stops_means, goes_past, stands_next}
use Rattle.law_line.proofs.Rows.{sent_row}
use Rattle.law_line.proofs.Stretch.{word_small, words_small, stretch_units}
use Rattle.law_line.proofs.Words.{Comes, nothing_comes, word_comes, Proper, proper_after, Lasting, words_come}

-- a word that is accepted with a reply, and no event
pub carries : {bus : Bus} {k next : Core} {m n : List ℕ} {word : ℕ} {reply : Reply} → Ready bus k m word → word_step k m word ≡ said reply next leaving n
    → next.ended ≡ false → Carries bus (at_word k m) (units_of bus word) (at_word next n) (sent_bytes reply) []
carries {bus} {k} {next} {m} {n} {word} ready e running =
    let c = subst (Comes bus (at_word k m) (units_of bus word)) e (word_comes bus k m word ready) in
    record { leads = c.next refl running; replies = c.replies; tells = c.tells }

-- an opcode whose command says nothing is acknowledged
pub acknowledged_quiet : (opcode : ℕ) (k : Core) (m : List ℕ) → opening opcode (quiet k leaving m) ≡ said (one_word (acknowledged opcode)) k leaving m
unfolding acknowledging pick one_word word_then
acknowledged_quiet opcode k m = refl

-- a command of an image that is sent with its words: its row, and what it is not
pub record Sendable (s : Session) (image : List ℕ) (c : Command) (words : ℕ) : Type 0 where
  pub known : looked_up (word_at image s.offset) Flash s.dialect ≡ Ok (with_words c words)
  pub no_request : c ≢ command.Request
  pub no_read : c ≢ command.SequentialRead

-- a command's opcode and argument words, sent: the opcode is acknowledged, and the words come to what the command does
pub record ArgumentsSent (bus : Bus) (s : Session) (m image : List ℕ) (k : Core) (c : Command) (words : List ℕ) : Type 0 where
  pub between : State
  pub opcode : Carries bus (at_word k m) (units_of bus (word_at image s.offset)) between (sent_bytes (one_word (acknowledged (word_at image s.offset)))) []
  pub comes : Comes bus between (all_units bus words) (sent_with s m image k words)
  pub proper : Proper (sent_with s m image k words)
  pub done : sent_with s m image k words ≡ done_with (word_at image s.offset) c (begun c k) m words

-- argument words are taken in silence up to the last
arguments_last : (c : Command) (k : Core) (m : List ℕ) → k.ended ≡ false → (rest : List ℕ) (kept : Kept) (word : ℕ)
    → Lasting (word_step (asking k c (suc (length rest)) kept) m word) rest
unfolding Lasting
arguments_last c k m running [] kept word = tt
arguments_last c k m running (next ∷ rest) kept word =
    subst (λ (o : WordOutcome). Lasting o (next ∷ rest)) (sym (word_kept c k m kept word (length rest)))
    (record { accepted = refl; running = running; silent = refl; no_event = refl }, arguments_last c k m running rest (keeping kept word) next)

module _ (bus : Bus) {s : Session} {m image : List ℕ} {k : Core} (standing : Standing s m image k) where
  abbrev opcode : ℕ
  opcode = word_at image s.offset

  abbrev call : flash.CallOutcome
  call = step_of s m image

  -- a loader that stands is running and lent its memory, and takes any word as a word
  pub running : k.ended ≡ false
  running = sym standing.alike.ended ∙ standing.running

  pub lent : length m ≡ sum_of k.windows
  lent = standing.lent ∙ ap sum_of standing.alike.windows

  pub ready : (word : ℕ) → word < 2 ^ 32 → Ready bus k m word
  ready word small = record { running = running; lent = lent; small = small; plain = λ e. absurd (true≢false (sym standing.begun ∙ e)) }

  pub before : s.offset + 4 ≤ length image → Before s m image k
  before present =
      record {
        alike = standing.alike;
        running = standing.running;
        lent = standing.lent;
        sound = standing.sound;
        bytes = standing.bytes;
        present = present;
        awaits = standing.awaits;
      }

  -- units that do what an outcome is, where the outcome is the call's
  after_same : {x : State} {us : List ℕ} {o : WordOutcome} → Comes bus x us o → Same call o → Proper o → Answered k.dialect o
      → After call image (fed bus x us)
  after_same {x} {us} {o} c same proper answered =
      record {
        goes = λ on.
            let going = goes_means call.answer on in
            let accepted : code_of o.answer.refusal ≡ 0 = ap code_of (sym same.refusal) ∙ going.0 in
            let running : o.answer.core.ended ≡ false = sym same.alike.ended ∙ going.1 in (
              o.answer.core,
              c.next accepted running ∙ ap (at_word o.answer.core) (sym same.memory),
              stands_next standing same.alike going.1 (ap length same.memory ∙ proper.lent) (answered.awaits accepted running) proper.begun,
            );
        stops = λ off.
            ap (λ (next : Core). next.ended) c.core
            ∙ by_test (eqb (code_of o.answer.refusal) 0)
            (λ e. sym same.alike.ended ∙ stops_means call.answer off (ap code_of same.refusal ∙ eqb-true _ _ e))
            (λ e. proper.ended (eqb-false _ _ e));
        memory = c.memory ∙ sym same.memory;
      }

  -- what is replied where the call goes on, and where it enters
  silent_same : {o : WordOutcome} → Same call o → Says k.dialect o → goes_on call.answer ≡ true → sent_bytes o.answer.reply ≡ []
  silent_same same (silently silent other) on = silent
  silent_same same (closing closes enters) on =
      let going = goes_means call.answer on in
      absurd (true≢false (sym (closes (ap code_of (sym same.refusal) ∙ going.0)).0 ∙ sym same.alike.ended ∙ going.1))

  enters_same : {o : WordOutcome} → Same call o → Says k.dialect o → kind_of call.answer.event ≡ 3
      → sent_bytes o.answer.reply ≡ sent_bytes (farewell s.dialect)
  enters_same same (silently silent other) enter = absurd (other (ap kind_of (sym same.event) ∙ enter))
  enters_same same (closing closes enters) enter =
      ap sent_bytes ((closes (enters (ap kind_of (sym same.event) ∙ enter))).1 ∙ ap farewell (sym standing.alike.dialect))

  -- the opcode, and then the rest, which does what the call does
  module _ {c : Command} {words : ℕ} (row : Sendable s image c words) where
    abbrev rest : List ℕ
    rest = units_fed bus (rest_here bus s m image k c words)

    pub sent_by : {between : State} {o : WordOutcome} → Carries bus (at_word k m) (units_of bus opcode) between (sent_bytes (one_word (acknowledged opcode))) []
        → Comes bus between rest o → Same call o → Proper o → Answered k.dialect o → CommandSent bus s m image k c words
    sent_by {between} {o} first c same proper answered =
        record {
          between = between;
          opcode = first;
          end = fed bus between rest;
          leads = refl;
          after = after_same c same proper answered;
          tells = c.tells ∙ ap told (sym same.event);
          silent = λ on. c.replies ∙ silent_same same answered.says on;
          refused = λ e. c.replies ∙ proper.silenced (λ z. e (ap code_of same.refusal ∙ z));
          enters = λ e. c.replies ∙ enters_same same answered.says e;
          offset = λ on. (goes_past standing row.known row.no_request on).0;
          retries = λ on. (goes_past standing row.known row.no_request on).1;
        }

    -- the units of the rest are those of its words
    pub rest_units : (n : ℕ) → n ≡ words + data_words (data_size c image s.offset) → past_data c words image s.offset ≤ length image
        → rest ≡ all_units bus (words_at image (s.offset + 4) n)
    rest_units n count there =
        let size : past_data c words image s.offset - (s.offset + 4) ≡ 4 * n = omega arith in
        ap (λ (l : ℕ). units_fed bus (bytes_at image (s.offset + 4) l)) size
        ∙ stretch_units bus image (s.offset + 4) n standing.bytes (omega arith)

    -- its rows in both modes
    pub rows : RowsOf k.dialect opcode c words words
    rows =
        let in-flash = ap (looked_up opcode Flash) (sym standing.alike.dialect) ∙ row.known in
        record { in-flash = in-flash; in_sent = sent_row k.dialect opcode c words row.no_request row.no_read in-flash }

  -- an outcome without its reply
  unsaid_same : {reply : Reply} {next : Core} → Same call (said reply next leaving m) → Same call (quiet next leaving m)
  unsaid_same same = record { refusal = same.refusal; event = same.event; memory = same.memory; alike = same.alike }

  proper_quiet : {next : Core} → next.windows ≡ k.windows → next.begun ≡ true → Proper (quiet next leaving m)
  proper_quiet windows begun =
      record { lent = lent ∙ ap sum_of (sym windows); begun = begun; ended = λ z. absurd (z refl); silenced = λ z. absurd (z refl) }

  -- a command that has no words is done at its opcode, and the rest is empty
  pub wordless_sent : {c : Command} → Sendable s image c 0 → (next : Core) → performed c (begun c k) m none_kept 0 ≡ quiet next leaving m
      → next.ended ≡ false → next.stage.phase ≡ Opcode → next.windows ≡ k.windows → next.begun ≡ true
      → c ≢ command.Load → data_size c image s.offset ≡ 0 → s.offset + 4 ≤ length image → CommandSent bus s m image k c 0
  unfolding after_words words_at
  wordless_sent {c} row next does running awaits windows begun loads size there =
      let step : word_step k m opcode ≡ said (one_word (acknowledged opcode)) next leaving m =
      by_the_table.done k m opcode c 0 [] standing.awaits (rows row).in_sent refl ∙ ap (opening opcode) does ∙ acknowledged_quiet opcode next m in
      let same = subst (Same call) step (both_modes.commands s m image k (before there) c 0 loads (rows row) (omega arith)) in
      let units = rest_units row 0 (omega (arith, size)) (omega (arith, size)) in
      sent_by row (carries (ready opcode (word_small image s.offset)) step running)
      (subst (λ (us : List ℕ). Comes bus (at_word next m) us (quiet next leaving m)) (sym units) (nothing_comes bus next m))
      (unsaid_same same) (proper_quiet windows begun) (record { awaits = λ e r. awaits; says = silently refl (λ z. omega arith) })

  -- one that has words awaits them, and they come to what the command does
  module _ {c : Command} (left : ℕ) (row : Sendable s image c (suc left)) where
    abbrev word : ℕ
    word = word_at image (s.offset + 4)

    abbrev more : List ℕ
    more = words_at image (s.offset + 4 + 4) left

    abbrev asked : Core
    asked = asking (begun c k) c (suc (length more)) none_kept

    in_sent : looked_up opcode Sent k.dialect ≡ Ok (with_words c (suc (length more)))
    in_sent = (rows row).in_sent ∙ ap (λ (n : ℕ). Ok (with_words c (suc n))) (sym (words_length image left (s.offset + 4 + 4)))

    step : word_step k m opcode ≡ said (one_word (acknowledged opcode)) asked leaving m
    step = opcode_asks k m opcode (length more) standing.awaits in_sent

    come_to : after_words (quiet asked leaving m) (word ∷ more) ≡ sent_with s m image k (word ∷ more)
    unfolding after_words
    come_to = sym (ap (λ (o : WordOutcome). after_words o (word ∷ more)) step)

    come : Comes bus (at_word asked m) (all_units bus (word ∷ more)) (sent_with s m image k (word ∷ more))
    unfolding Lasting words_at
    come =
        subst (Comes bus (at_word asked m) (all_units bus (word ∷ more))) come_to
        (words_come (word ∷ more) (nothing_comes bus asked m) (proper_quiet refl refl) (words_small image (suc left) (s.offset + 4))
        (record { accepted = refl; running = running; silent = refl; no_event = refl }, arguments_last c (begun c k) m running more none_kept word))

    pub arguments_sent : ArgumentsSent bus s m image k c (words_at image (s.offset + 4) (suc left))
    unfolding words_at
    arguments_sent =
        record {
          between = at_word asked m;
          opcode = carries (ready opcode (word_small image s.offset)) step running;
          comes = come;
          proper = subst Proper come_to (proper_after (word ∷ more) (proper_quiet refl refl));
          done = by_the_table.done k m opcode c (suc (length more)) (word ∷ more) standing.awaits in_sent refl;
        }

    -- a command with words and no data
    pub worded_sent : ((kept : Kept) (last : ℕ) → Answered k.dialect (performed c (asking (begun c k) c 1 kept) m kept last))
        → c ≢ command.Load → data_size c image s.offset ≡ 0 → past_words s.offset (suc left) ≤ length image → CommandSent bus s m image k c (suc left)
    unfolding words_at
    worded_sent answers loads size there =
        let sent = arguments_sent in
        let units = rest_units row (suc left) (omega (arith, size)) (omega (arith, size)) in
        sent_by row sent.opcode
        (subst (λ (us : List ℕ). Comes bus sent.between us (sent_with s m image k (word ∷ more))) (sym units) sent.comes)
        (both_modes.commands s m image k (before (omega arith)) c (suc left) loads (rows row) there)
        sent.proper
        (subst (Answered k.dialect) (sym sent.done) (last_performs (Answered k.dialect) c (begun c k) m answers more none_kept word))

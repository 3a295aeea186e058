-- What a flash call is, seen from its answer: what was read at the offset decides it, a call that goes on is accepted and running, and one that does so past a
-- command is past all its words. By the cases of a call and by the law of every call.
use Rattle.std.specs.Prelude.{Some, Ok, Err}
use Prim.Native.Nat.{ℕ, ◌+◌, ◌*◌, ◌<◌}
use mathlib.Core.Bool.{true, false, not, ◌&&◌, and-false}
use mathlib.Core.List.{List}
use mathlib.Core.Logic.{◌≢◌}
use mathlib.Core.Path.{◌≡◌, refl, sym, ap, subst, ◌∙◌}
use native.Mathlib.Omega.{arith}
use lib.Dec.{eqb}
use lib.ListN.{length}
use borrow.Author.Tests.{eqb-true, not-true, not-false}
use Rattle.std.specs.declared.result.Result.{Result}
use Rattle.std.specs.declared.result.Result.TheVariants.{Ok, Err}
use Rattle.words.specs.rules.Bytes.{word_at}
use Rattle.words.proofs.Choice.{both}
use Rattle.windows.specs.rules.Window.{sum_of}
use Rattle.opcodes.specs.rules.Answers.{code_of, accepted}
use Rattle.opcodes.specs.rules.Opcodes.{looked_up, with_words}
use Rattle.opcodes.specs.declared.Command.{Command}
use Rattle.opcodes.specs.declared.Command.TheVariants as command
use Rattle.opcodes.specs.declared.Dialect.{Dialect}
use Rattle.opcodes.specs.declared.Mode.TheVariants.{Flash}
use Rattle.opcodes.specs.declared.Refusal.{Refusal}
use Rattle.opcodes.specs.rules.Refusals.{Verdict}
use Rattle.opcodes.specs.rules.Refusals as refusal
use Rattle.opcodes.proofs.Counts.{row_is, row-is}
use Rattle.opcodes.specs.declared.Known.{Known}
use Rattle.opcodes.proofs.Rows.{same_command, same_words}
use Rattle.reading.specs.rules.Reading.{past_words, argument, data_words, data_size, past_data, read_at, unread}
use Rattle.reading.proofs.Reading.{lacking, Reads, no_opcode, unknown, retired, cut_short, whole, reads}
use Rattle.reading.specs.declared.Unread.{Unread}
use Rattle.commands.specs.rules.Commands.{load_judged, Judged}
use Rattle.flash_commands.specs.claims.Ways.{data_words_of, Way, forward, back, kept}
use Rattle.flash_session.specs.rules.Opening.{good_length}
use Rattle.flash_session.specs.rules.Sessions.{CallOutcome, ◌leaving◌, fetching, stopped}
use Rattle.flash_commands.specs.rules.Commands.{overflowing}
use Rattle.flash.specs.rules.Step.{load_judged_as, performed, followed, step_of}
use Rattle.flash_session.specs.declared.Called.{Called}
use Rattle.flash_session.specs.declared.Session.{Session}
use Rattle.flash_laws.proofs.Calls.{every_call}
use Rattle.flash.proofs.Cases.{load_short, call_read}
use Rattle.flash_runs.specs.rules.Run.{goes_on}
use Rattle.flash_runs.proofs.Calls.{accepted_goes}
use Rattle.machine_answers.specs.declared.Core.{Core}
use Rattle.machine_answers.specs.declared.Phase.TheVariants.{Opcode}
use Rattle.law_modes.specs.claims.Modes.{Alike}
use Rattle.law_line.specs.claims.Line.{Standing, Stopped, GoesOnAt, Keeps}
use Rattle.law_line.proofs.Checksum.{checksum_small}

-- what is read is what the table says
module _ (image : List ℕ) (offset : ℕ) (dialect : Dialect) where
  abbrev Rowed : Result Known Unread → Type 0
  Rowed (Ok f) = looked_up (word_at image offset) Flash dialect ≡ Ok f
  Rowed (Err said) = Unit {0}

  rowed : {r : Result Known Unread} → Reads image offset dialect r → Rowed r
  rowed (no_opcode short) = tt
  rowed (unknown here e) = tt
  rowed (retired here e) = tt
  rowed (cut_short here e short) = tt
  rowed (whole e long) = e

  pub known_row : {c : Command} {words : ℕ} → read_at image offset dialect ≡ Ok (with_words c words)
      → looked_up (word_at image offset) Flash dialect ≡ Ok (with_words c words)
  known_row e = subst Rowed e (rowed (reads image offset dialect))

-- a call that goes on, and one that does not
pub goes_means : (a : Called) → goes_on a ≡ true → (code_of a.refusal ≡ 0) × (a.session.ended ≡ false)
unfolding goes_on
goes_means a e =
    let parts = both (accepted a.refusal) (not a.session.ended) e in
    (eqb-true _ _ parts.0, not-true _ parts.1)

pub stops_means : (a : Called) → goes_on a ≡ false → code_of a.refusal ≡ 0 → a.session.ended ≡ true
stops_means a e none = not-false _ (sym (accepted_goes a none) ∙ e)

pub stopped_stops : (q : Verdict) (s : Session) (m : List ℕ) → Stopped m (stopped q s leaving m)
unfolding goes_on
stopped_stops q s m = record { stops = and-false (accepted q); no_event = refl; memory = refl }

-- what a call keeps
pub call_keeps : (s : Session) (m image : List ℕ) → Keeps s (step_of s m image).answer.session
call_keeps s m image =
    let call = every_call s m image in
    record { windows = call.same_windows; length = call.same_length; limit = call.same_limit; dialect = call.same_dialect }

-- a call that goes on at a command, not a Request, is past its words
past-words : {s : Session} {image : List ℕ} {a : Called} {c : Command} {words : ℕ} → Way s image a
    → looked_up (word_at image s.offset) Flash s.dialect ≡ Ok (with_words c words) → c ≢ command.Request → goes_on a ≡ true
    → (a.session.offset ≡ past_data c words image s.offset) × (a.session.retries ≡ s.retries)
past-words {s} {image} {a} {c} {words} (forward f) known other on =
    let same : ◌≡◌ {A = Result Known Refusal} (Ok (with_words f.command f.reads.arguments)) (Ok (with_words c words)) = sym f.reads.row ∙ known in
    let command-is : f.command ≡ c = same_command same in
    let words_are : f.reads.arguments ≡ words = same_words same in
    let size : data_words_of f.command s image ≡ data_words (data_size c image s.offset) =
    ap (λ (x : Command). data_words (data_size x image s.offset)) command-is in
    let count = f.reads.count in
    let past = f.offset in
    (omega arith, f.retries)
past-words {s} {image} {a} {c} {words} (back b) known other on =
    let same : ◌≡◌ {A = Result Known Refusal} (Ok (with_words command.Request b.reads.arguments)) (Ok (with_words c words)) = sym b.reads.row ∙ known in
    let asks : c ≡ command.Request = sym (same_command same) in
    absurd (other asks)
past-words (kept r) known other on = absurd (r.refused (goes_means _ on).0)

module _ {s : Session} {m image : List ℕ} {k : Core} (standing : Standing s m image k) where
  pub goes_past : {c : Command} {words : ℕ} → looked_up (word_at image s.offset) Flash s.dialect ≡ Ok (with_words c words) → c ≢ command.Request
      → goes_on (step_of s m image).answer ≡ true
      → ((step_of s m image).answer.session.offset ≡ past_data c words image s.offset) × ((step_of s m image).answer.session.retries ≡ s.retries)
  goes_past known other on = past-words (every_call s m image).way known other on

  -- a core that stands with the session after a call
  pub stands_next : {n : List ℕ} {next : Core} → Alike (step_of s m image).answer.session next → (step_of s m image).answer.session.ended ≡ false
      → length n ≡ sum_of next.windows → next.stage.phase ≡ Opcode → next.begun ≡ true → Standing (step_of s m image).answer.session n image next
  stands_next alike running lent awaits begun =
      record {
        alike = alike;
        running = running;
        lent = lent ∙ ap sum_of (sym alike.windows);
        sound = ap (λ (l : ℕ). good_length (length image) && eqb (length image) l) (call_keeps s m image).length ∙ standing.sound;
        bytes = standing.bytes;
        awaits = awaits;
        begun = begun;
        small = checksum_small s m image standing.small;
      }

  -- a call by what is read
  pub reads_call : {r : Result Known Unread} → read_at image s.offset s.dialect ≡ r → step_of s m image ≡ followed s m image r
  reads_call e = call_read s m image standing.running standing.lent standing.sound ∙ ap (followed s m image) e

  pub nothing_read : (q : Refusal) (fetched : ℕ) → read_at image s.offset s.dialect ≡ Err (unread q fetched) → Stopped m (step_of s m image)
  nothing_read q fetched e = subst (Stopped m) (sym (reads_call e)) (stopped_stops (Some q) (fetching fetched s) m)

  -- a load whose data are missing
  load_stops : (x : Session) (next address size : ℕ) (j : Judged) → length image < next + 4 * data_words size
      → Stopped m (load_judged_as x m image next address size j)
  load_stops x next address size (Ok place) short =
      subst (Stopped m) (sym (load_short x m image next address size place (lacking image next (data_words size) short))) (stopped_stops refusal.Missing x m)
  load_stops x next address size (Err q) short = stopped_stops (Some q) x m

  pub no_data : (words : ℕ) → read_at image s.offset s.dialect ≡ Ok (with_words command.Load words)
      → length image < past_data command.Load words image s.offset → Stopped m (step_of s m image)
  no_data words e short =
      let x = fetching (1 + words) s in
      let address = argument image s.offset 0 in
      let size = argument image s.offset 1 in
      subst (Stopped m) (sym (reads_call e))
      (load_stops x (past_words s.offset words) address size (overflowing x size (load_judged s.windows address size)) short)

  -- Sequential Read
  goes_over : (words : ℕ) → words ≡ 0
      → GoesOnAt m image (performed command.SequentialRead (past_words s.offset words) (fetching (1 + words) s) m image) (s.offset + 4) s.retries k
  goes_over words none =
      record {
        goes = accepted_goes _ refl ∙ ap not standing.running;
        no_event = refl;
        memory = refl;
        offset_is = omega arith;
        retries_are = refl;
        standing = record {
          alike = record {
            windows = standing.alike.windows;
            dialect = standing.alike.dialect;
            ended = standing.alike.ended;
            on = standing.alike.on;
            checksum = standing.alike.checksum;
            totals = standing.alike.totals;
          };
          running = standing.running;
          lent = standing.lent;
          sound = standing.sound;
          bytes = standing.bytes;
          awaits = standing.awaits;
          begun = standing.begun;
          small = standing.small;
        };
      }

  pub over_read : (words : ℕ) → read_at image s.offset s.dialect ≡ Ok (with_words command.SequentialRead words)
      → (words ≡ 0) × GoesOnAt m image (step_of s m image) (s.offset + 4) s.retries k
  unfolding row_is
  over_read words e =
      let none : words ≡ 0 = eqb-true _ _ (row-is Flash s.dialect _ command.SequentialRead words (known_row image s.offset s.dialect e)) in
      (none, subst (λ (o : CallOutcome). GoesOnAt m image o (s.offset + 4) s.retries k) (sym (reads_call e)) (goes_over words none))

-- What every word does, whatever awaits it: by cases over the commands, once for all of it, then over the phases.
use Rattle.std.specs.Prelude.{Some, Ok, Err}
use Prim.Native.Nat.{ℕ, ◌-◌, ◌%◌, ◌≤◌}
use mathlib.Core.Bool.{Bool, true, false, true≢false}
use mathlib.Core.List.{List}
use mathlib.Core.Logic.{◌≢◌}
use mathlib.Core.Path.{◌≡◌, refl, sym, subst, ◌∙◌}
use native.Mathlib.Omega.{arith}
use lib.ListN.{length}
use borrow.Author.Tests.{eqb-true, eqb-false}
use Rattle.std.specs.declared.result.Result.{Result}
use Rattle.words.proofs.Choice.{of_choice}
use Rattle.opcodes.specs.rules.Answers.{code_of, accepted}
use Rattle.opcodes.specs.rules.Opcodes.{looked_up}
use Rattle.opcodes.specs.declared.Command.{Command}
use Rattle.opcodes.specs.declared.Command.TheVariants as command
use Rattle.opcodes.specs.declared.Dialect.{Dialect}
use Rattle.opcodes.specs.declared.Dialect.TheVariants.{Am17xx, Dm648}
use Rattle.opcodes.specs.declared.Event.{Event}
use Rattle.opcodes.specs.declared.Mode.TheVariants.{Sent}
use Rattle.opcodes.specs.rules.Refusals.{Verdict}
use Rattle.opcodes.specs.rules.Refusals as refusal
use Rattle.opcodes.specs.declared.Refusal.{Refusal}
use Rattle.opcodes.specs.declared.Known.{Known}
use Rattle.opcodes.proofs.Looked.{Looked, of_row, of_none, of_retired, looked}
use Rattle.ledger.specs.declared.Totals.{Totals}
use Rattle.commands.specs.rules.Commands.{done_if, memory_if, load_judged, fill_judged, fill_done, fill_memory, setting_judged, setting_done, setting_memory}
use Rattle.commands.specs.rules.Commands.{Judged}
use Rattle.commands.specs.declared.Done.{Done}
use Rattle.commands.specs.declared.Wrote.{Wrote}
use Rattle.machine.specs.claims.Every.{EveryWord}
use Rattle.machine_answers.specs.rules.Answers.{WordOutcome, changed, stop, refused, writing, ◌leaving◌, after, entered}
use Rattle.machine_answers.specs.rules.Counts.{out_of_numbers, overflowing}
use Rattle.machine_loads.specs.rules.Loads.{load_begun}
use Rattle.machine_commands.specs.rules.Performed.{none_kept, performed}
use Rattle.machine.specs.rules.Machine.{toward, begun, acknowledging, opening, at_opcode, in_phase, word_step}
use Rattle.machine_answers.specs.rules.Replies.{silence, one_word, word_then, acknowledged, done_word, farewell}
use Rattle.machine_answers.specs.declared.Core.{Core}
use Rattle.machine_answers.specs.declared.Kept.{Kept}
use Rattle.machine_answers.specs.declared.Phase.{Phase}
use Rattle.machine_answers.specs.declared.Phase.TheVariants as phase
use Rattle.machine_answers.specs.declared.Reply.{Reply}
use Rattle.machine_answers.specs.declared.Taken.{Taken}
use Rattle.machine_answers.specs.declared.Tally.{Tally}
use Rattle.machine.proofs.Memory.{Overwritten, untouched, fill_over, setting_over, data_over}

-- a reply of none, one or two words
record WholeWords (r : Reply) : Type 0 where
  words : r.count % 4 ≡ 0
  most : r.count ≤ 8
  room : length r.bytes ≡ 8

none_said : WholeWords silence
none_said = record { words = refl; most = omega arith; room = refl }

one_said : (v : ℕ) → WholeWords (one_word v)
unfolding one_word
one_said v = record { words = refl; most = omega arith; room = refl }

then_said : (v : ℕ) (r : Reply) → WholeWords r → WholeWords (word_then v r)
unfolding word_then
then_said v r whole = record { words = omega (arith, whole.words); most = omega arith; room = refl }

-- what a refused word leaves
record Stopped (m : List ℕ) (o : WordOutcome) : Type 0 where
  silenced : o.answer.reply.count ≡ 0
  ended : o.answer.core.ended ≡ true
  same : o.memory ≡ m

-- what a command keeps, and what it says
record Keeps (k : Core) (m : List ℕ) (o : WordOutcome) : Type 0 where
  windows : o.answer.core.windows ≡ k.windows
  dialect : o.answer.core.dialect ≡ k.dialect
  begun : o.answer.core.begun ≡ k.begun
  memory : Overwritten m o.memory
  said : WholeWords o.answer.reply
  stopped : code_of o.answer.refusal ≢ 0 → Stopped m o

-- one that is accepted, and one that is refused
accepting : {k : Core} {m left : List ℕ} {reply : Reply} {event : Event} {ended on : Bool} {tally : Tally} {next : Phase} {wrote : Wrote} → WholeWords reply
    → Overwritten m left
    → Keeps k m (record { refusal = refusal.None; reply = reply; event = event; core = changed k ended on k.begun tally next; wrote = wrote } leaving left)
accepting said over = record { windows = refl; dialect = refl; begun = refl; memory = over; said = said; stopped = λ h. absurd (h refl) }

refusing : (k : Core) (m : List ℕ) (q : Verdict) {wrote : Wrote} → Keeps k m (writing wrote (refused k q) leaving m)
refusing k m q =
    record {
      windows = refl;
      dialect = refl;
      begun = refl;
      memory = untouched;
      said = none_said;
      stopped = λ h. record { silenced = refl; ended = refl; same = refl };
    }

load_keeps : (k : Core) (m : List ℕ) (address size : ℕ) (judged : Judged) → Keeps k m (load_begun k address size judged leaving m)
load_keeps k m address size (Ok place) = accepting none_said untouched
load_keeps k m address size (Err q) = refusing k m (Some q)

done_keeps : (k : Core) (m left : List ℕ) (totals : Totals) (done : Done) {wrote : Wrote} → Overwritten m left → (code_of done.refusal ≢ 0 → left ≡ m)
    → Keeps k m (writing wrote (after k totals done) leaving left)
unfolding after
done_keeps k m left totals done {wrote} over same =
    of_choice (λ (t : Taken). Keeps k m (writing wrote t leaving left)) _ (λ h. accepting none_said over)
    (λ h. subst (λ (l : List ℕ). Keeps k m (writing wrote (refused k done.refusal) leaving l)) (sym (same (eqb-false _ _ h))) (refusing k m done.refusal))

-- a command that is refused leaves the memory as it was
kept_if : (judged : Judged) (checksum : ℕ) (told : Event) (fed : ℕ) (writing : ℕ → List ℕ) (m : List ℕ)
    → code_of (done_if judged checksum told fed).refusal ≢ 0 → memory_if judged writing m ≡ m
kept_if (Ok place) checksum told fed writing m h = absurd (h refl)
kept_if (Err q) checksum told fed writing m h = refl

fill_keeps : (k : Core) (m : List ℕ) (kept : Kept) (word : ℕ) → Keeps k m (performed command.Fill k m kept word)
unfolding fill_done fill_memory
fill_keeps k m kept word =
    let judged : Judged = out_of_numbers k (overflowing k kept.second (fill_judged k.windows kept.first kept.second kept.third)) in
    done_keeps k m _ _ _ (fill_over judged m kept.second kept.third word) (kept_if judged _ _ _ _ m)

setting_keeps : (k : Core) (m : List ℕ) (kept : Kept) (word : ℕ) → Keeps k m (performed command.BootTable k m kept word)
unfolding setting_done setting_memory
setting_keeps k m kept word =
    let judged : Judged = out_of_numbers k (setting_judged k.windows kept.first kept.second kept.third) in
    done_keeps k m _ _ _ (setting_over judged m kept.first kept.third) (kept_if judged _ _ _ _ m)

-- a command that writes nothing
closed_keeps : (k : Core) (m : List ℕ) (totals : Totals) (done : Done) → Keeps k m (after k totals done leaving m)
unfolding after
closed_keeps k m totals done =
    of_choice (λ (t : Taken). Keeps k m (t leaving m)) _ (λ h. accepting none_said untouched) (λ h. refusing k m done.refusal)

farewell_said : (dialect : Dialect) → WholeWords (farewell dialect)
farewell_said Am17xx = none_said
farewell_said Dm648 = one_said done_word

entered_keeps : (k : Core) (m : List ℕ) (t : Taken) → Keeps k m (t leaving m) → Keeps k m (entered t leaving m)
unfolding entered
entered_keeps k m t keeps =
    of_choice (λ (x : Taken). Keeps k m (x leaving m)) _
    {a = record { refusal = t.refusal; reply = farewell t.core.dialect; event = t.event; core = stop t.core; wrote = t.wrote }}
    (λ h. record {
      windows = keeps.windows;
      dialect = keeps.dialect;
      begun = keeps.begun;
      memory = untouched;
      said = farewell_said t.core.dialect;
      stopped = λ e. absurd (e (eqb-true _ _ h));
    })
    (λ h. keeps)

performed_keeps : (c : Command) (k : Core) (m : List ℕ) (kept : Kept) (word : ℕ) → Keeps k m (performed c k m kept word)
performed_keeps command.Load k m kept word = load_keeps k m kept.third word
    (out_of_numbers k (overflowing k word (load_judged k.windows kept.third word)))
performed_keeps command.Fill k m kept word = fill_keeps k m kept word
performed_keeps command.BootTable k m kept word = setting_keeps k m kept word
performed_keeps command.Enable k m kept word = accepting none_said untouched
performed_keeps command.Disable k m kept word = accepting none_said untouched
performed_keeps command.Request k m kept word = accepting (one_said k.tally.checksum) untouched
performed_keeps command.StartOver k m kept word = accepting none_said untouched
performed_keeps command.JumpAndClose k m kept word = entered_keeps k m (after k _ _) (closed_keeps k m _ _)
performed_keeps command.Ping k m kept word = accepting (one_said word) untouched
performed_keeps command.SequentialRead k m kept word = refusing k m refusal.Opcode

toward_keeps : (c : Command) (left : ℕ) (k : Core) (m : List ℕ) (kept : Kept) (word : ℕ) → Keeps k m (toward c left k m kept word)
toward_keeps c left k m kept word =
    of_choice (Keeps k m) _ (λ h. performed_keeps c k m kept word) (λ h. accepting none_said untouched)

-- an acknowledgement comes before what else is said
acknowledged_keeps : (opcode : ℕ) (k : Core) (m left : List ℕ) (t : Taken) → code_of t.refusal ≡ 0 → Keeps k m (t leaving left)
    → Keeps k m (record { refusal = t.refusal; reply = word_then (acknowledged opcode) t.reply; event = t.event; core = t.core; wrote = t.wrote }
    leaving left)
acknowledged_keeps opcode k m left t accepted keeps =
    record {
      windows = keeps.windows;
      dialect = keeps.dialect;
      begun = keeps.begun;
      memory = keeps.memory;
      said = then_said (acknowledged opcode) t.reply keeps.said;
      stopped = λ h. absurd (h accepted);
    }

opening_keeps : (opcode : ℕ) (k : Core) (m : List ℕ) (o : WordOutcome) → Keeps k m o → Keeps k m (opening opcode o)
unfolding acknowledging
opening_keeps opcode k m o keeps =
    of_choice (λ (t : Taken). Keeps k m (t leaving o.memory)) _
    (λ h. acknowledged_keeps opcode k m o.memory o.answer (eqb-true _ _ h) keeps) (λ h. keeps)

-- a word, from what its command keeps of a core with the same windows and dialect that has begun where this one has
from_keeps : (k first : Core) (m : List ℕ) (o : WordOutcome) → first.windows ≡ k.windows → first.dialect ≡ k.dialect
    → (k.begun ≡ true → first.begun ≡ true)
    → (k.stage.phase ≡ phase.Opcode → o.answer.core.begun ≡ false → o.answer.core ≡ stop k) → Keeps first m o → EveryWord k m o
from_keeps k first m o windows dialect since unbegun keeps =
    record {
      windows = keeps.windows ∙ windows;
      dialect = keeps.dialect ∙ dialect;
      begun = λ e. keeps.begun ∙ since e;
      unbegun = unbegun;
      same_length = keeps.memory.same_length;
      bytes = keeps.memory.bytes;
      words = keeps.said.words;
      most = keeps.said.most;
      room = keeps.said.room;
      silenced = λ h. (keeps.stopped h).silenced;
      ended = λ h. (keeps.stopped h).ended;
      untouched = λ h. (keeps.stopped h).same;
    }

-- where another word is awaited
another_word : (k : Core) (m : List ℕ) (o : WordOutcome) {p : Phase} → k.stage.phase ≡ p → (p ≡ phase.Opcode → ◌≡◌ {A = ℕ} 0 1)
    → Keeps k m o → EveryWord k m o
another_word k m o here differs keeps =
    from_keeps k k m o refl refl (λ e. e) (λ idle. let z = differs (sym here ∙ idle) in absurd (omega arith)) keeps

opcode_word : (k : Core) (m : List ℕ) (word : ℕ) {found : Result Known Refusal} → Looked found → EveryWord k m (at_opcode k m word found)
opcode_word k m word of_none = from_keeps k k m _ refl refl (λ e. e) (λ idle e. refl) (refusing k m refusal.Opcode)
opcode_word k m word of_retired = from_keeps k k m _ refl refl (λ e. e) (λ idle e. refl) (refusing k m refusal.Retired)
opcode_word k m word (of_row f) =
    let keeps = opening_keeps word (begun f.command k) m _ (toward_keeps f.command f.words (begun f.command k) m none_kept 0) in
    from_keeps k (begun f.command k) m _ refl refl (λ e. refl) (λ idle e. absurd (true≢false (sym keeps.begun ∙ e))) keeps

phase_word : (p : Phase) (k : Core) (m : List ℕ) (word : ℕ) → k.stage.phase ≡ p → EveryWord k m (in_phase p k m word)
phase_word phase.Opcode k m word here = opcode_word k m word (looked word Sent k.dialect)
phase_word (phase.Argument c left kept) k m word here = another_word k m _ here (λ e. cc) (toward_keeps c (left - 1) k m kept word)
phase_word (phase.Data end left) k m word here =
    another_word k m _ here (λ e. cc) (accepting none_said (data_over m (end - left) word left))
phase_word (phase.Echo n) k m word here = another_word k m _ here (λ e. cc) (accepting (one_said word) untouched)

pub every_word : (k : Core) (m : List ℕ) (word : ℕ) → EveryWord k m (word_step k m word)
unfolding word_step
every_word k m word = phase_word k.stage.phase k m word refl

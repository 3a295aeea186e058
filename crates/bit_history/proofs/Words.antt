-- A whole word: what it tells, and what it gives to memory, is what its history has, its numbers fit, and the machine stays sound. By the phase that awaits it
-- and, at the last argument, by the command: only a fill, a setting and load data write.
use Rattle.std.specs.Prelude.{Ok, Err}
use Prim.Native.Nat.{ℕ, ◌+◌, ◌-◌, ◌*◌, ◌≤◌, min}
use mathlib.Core.Bool.{Bool, true, false}
use mathlib.Core.List.{List, []}
use mathlib.Core.Path.{◌≡◌, refl, sym, ap, subst}
use native.Mathlib.Omega.{arith}
use borrow.Author.Tests.{eqb-true, leb-false}
use lib.Dec.{leb, eqb}
use lib.ListN.{length, length-take}
use Rattle.std.specs.declared.result.Result.{Result}
use Rattle.words.specs.rules.Choice.{pick}
use Rattle.words.proofs.Choice.{chosen, passed, of_choice}
use Rattle.windows.specs.rules.Window.{sum_of}
use Rattle.windows.specs.declared.Window.{Window}
use Rattle.opcodes.specs.rules.Answers.{code_of}
use Rattle.opcodes.specs.rules.Opcodes.{looked_up}
use Rattle.opcodes.specs.declared.Command.{Command}
use Rattle.opcodes.specs.declared.Command.TheVariants as command
use Rattle.opcodes.specs.declared.Dialect.{Dialect}
use Rattle.opcodes.specs.declared.Dialect.TheVariants.{Am17xx, Dm648}
use Rattle.opcodes.specs.declared.Mode.TheVariants.{Sent}
use Rattle.opcodes.specs.declared.Refusal.TheVariants as why
use Rattle.opcodes.specs.declared.Refusal.{Refusal}
use Rattle.opcodes.proofs.Counts.{row_is, row-is}
use Rattle.opcodes.specs.declared.Known.{Known}
use Rattle.opcodes.proofs.Looked.{Looked, of_row, of_none, of_retired, looked}
use Rattle.ledger.specs.rules.Totals.{counted, first_spent, is_spent, following, numbered, settled, turned}
use Rattle.ledger.specs.declared.Totals.{Totals}
use Rattle.commands.specs.rules.Commands.{barred, load_judged, unit_of, fill_judged, fill_done, fill_memory, shape_of, setting_judged, setting_done}
use Rattle.commands.specs.rules.Commands.{setting_memory, Judged}
use Rattle.commands.specs.rules.Wrote.{none_wrote, bytes_wrote, setting_wrote}
use Rattle.commands.specs.declared.Done.{Done}
use Rattle.law_effects.specs.claims.Effects.{fill_effect, setting_effect}
use Rattle.law_effects.proofs.Effects.{load_does, fill_granted, setting_granted}
use Rattle.law_effects.proofs.Wrote.{fill_reports, shape_reports}
use Rattle.bit_history.specs.claims.History.{Numbered, numbers_fit}
use Rattle.machine_answers.specs.rules.Answers.{WordOutcome, ◌leaving◌, await, quiet, writing, after, entered}
use Rattle.machine_answers.specs.rules.Counts.{counted_on}
use Rattle.machine_loads.specs.rules.Loads.{awaited, load_begun, data_bytes}
use Rattle.machine_commands.specs.rules.Performed.{none_kept, echoing, performed}
use Rattle.machine.specs.rules.Machine.{keeping, toward, begun, acknowledging, opening, at_opcode, in_phase, word_step}
use Rattle.machine_answers.specs.declared.Core.{Core}
use Rattle.machine_answers.specs.declared.Kept.{Kept}
use Rattle.machine_answers.specs.declared.Phase.{Phase}
use Rattle.machine_answers.specs.declared.Phase.TheVariants as phase
use Rattle.machine_answers.specs.declared.Taken.{Taken}
use Rattle.machine_loads.proofs.Laws.{granted_inside}
use Rattle.bit_history.specs.claims.Accepted.{judged_one}
use Rattle.bit_history.specs.claims.UnitHistory.{last_word, accepted_word, word_history}
use Rattle.bit_history.proofs.Agreeing.{Told, Given, Inside, setting_number, fit_one, same_choice}

-- no number is past the first that no command gets
abbrev pub Fit : Totals → Type 0
Fit t = (t.next ≤ first_spent) × (t.back ≤ first_spent)

-- the data that are awaited lie inside the memory
abbrev pub Lies : List Window → Phase → Type 0
Lies windows phase.Opcode = Unit {0}
Lies windows (phase.Argument command left kept) = Unit {0}
Lies windows (phase.Data end left) = (left ≤ end) × (end ≤ sum_of windows)
Lies windows (phase.Echo n) = Unit {0}

abbrev pub Sound : Core → Type 0
Sound k = Fit k.tally.totals × Lies k.windows k.stage.phase

-- what is shown of a word with an outcome and a history
pub record Shown (k : Core) (m : List ℕ) (o : WordOutcome) (cs : List Numbered) : Type 0 where
  pub told : Told cs o.answer.wrote
  pub fits : Sound k → numbers_fit cs ≡ true
  pub given : length m ≡ sum_of k.windows → Given cs m o.memory
  pub inside : Sound k → length m ≡ sum_of k.windows → Inside cs m
  pub sound : Sound k → Sound o.answer.core

-- a word that writes nothing
record Idle (k : Core) (m : List ℕ) (o : WordOutcome) : Type 0 where
  wrote : o.answer.wrote ≡ none_wrote
  memory : o.memory ≡ m
  sound : Sound k → Sound o.answer.core

idle_shown : (k : Core) (m : List ℕ) (o : WordOutcome) → Idle k m o → Shown k m o []
unfolding numbers_fit
idle_shown k m o idle =
    record { told = idle.wrote; fits = λ s. refl; given = λ lent. idle.memory; inside = λ s lent. tt; sound = idle.sound }

idle_choice : (k : Core) (m : List ℕ) (o : WordOutcome) (t : Bool) → Idle k m o → Shown k m o (pick t [] [])
idle_choice k m o t idle = subst (Shown k m o) (sym (same_choice t)) (idle_shown k m o idle)

-- the numbers stay below the first that no command gets
fit_following : (n : ℕ) → n ≤ first_spent → following n ≤ first_spent
unfolding following
fit_following n h =
    of_choice (λ (x : ℕ). x ≤ first_spent) (eqb n 0) (λ e. omega arith)
    (λ e. of_choice (λ (x : ℕ). x ≤ first_spent) (leb first_spent n) (λ l. h) (λ l. omega (arith, leb-false first_spent n l)))

fit_numbered : (t : Totals) → Fit t → Fit (numbered t)
fit_numbered t f = (fit_following t.next f.0, f.1)

fit_counted : (dialect : Dialect) (t : Totals) (size : ℕ) → Fit t → Fit (counted dialect t size)
fit_counted Am17xx t size f = f
fit_counted Dm648 t size f = f

fit_section : (k : Core) (size : ℕ) → Fit k.tally.totals → Fit (counted_on k size)
fit_section k size f = fit_numbered (counted k.dialect k.tally.totals size) (fit_counted k.dialect k.tally.totals size f)

fit_settled : (t : Totals) → Fit t → Fit (settled t)
fit_settled t f = of_choice Fit t.asked (λ e. (f.0, f.0)) (λ e. f)

fit_turned : (c : Command) (t : Totals) → Fit t → Fit (turned c t)
fit_turned command.Load t f = fit_settled t f
fit_turned command.Fill t f = fit_settled t f
fit_turned command.BootTable t f = fit_settled t f
fit_turned command.Enable t f = (f.0, f.0)
fit_turned command.Disable t f = fit_settled t f
fit_turned command.Request t f = fit_settled t f
fit_turned command.StartOver t f = (f.1, f.1)
fit_turned command.JumpAndClose t f = fit_settled t f
fit_turned command.Ping t f = fit_settled t f
fit_turned command.SequentialRead t f = fit_settled t f

-- an answer that was judged and done keeps the machine sound, and tells nothing by itself
module _ (k : Core) where
  sound_after : (totals : Totals) (done : Done) → Fit totals → Sound k → Sound (after k totals done).core
  unfolding after
  sound_after totals done f s = of_choice (λ (t : Taken). Sound t.core) _ (λ e. (f, tt)) (λ e. s)

  none_after : (totals : Totals) (done : Done) → (after k totals done).wrote ≡ none_wrote
  unfolding after
  none_after totals done = of_choice (λ (t : Taken). t.wrote ≡ none_wrote) _ (λ e. refl) (λ e. refl)

sound_entered : (t : Taken) → Sound t.core → Sound (entered t).core
unfolding entered
sound_entered t s = of_choice (λ (x : Taken). Sound x.core) _ (λ e. s) (λ e. s)

none_entered : (t : Taken) → t.wrote ≡ none_wrote → (entered t).wrote ≡ none_wrote
unfolding entered
none_entered t none = of_choice (λ (x : Taken). x.wrote ≡ none_wrote) _ (λ e. none) (λ e. none)

-- what is awaited of a load
lies_awaited : (windows : List Window) (end left : ℕ) → left ≤ end → end ≤ sum_of windows → Lies windows (awaited end left)
unfolding awaited
lies_awaited windows end left h l = of_choice (Lies windows) _ (λ e. tt) (λ e. (h, l))

module _ (k : Core) (m : List ℕ) where
  -- a load at its size word writes nothing
  load_idle : (address size : ℕ) (j : Judged) (past spent : Bool) → ((place : ℕ) → j ≡ Ok place → place + size ≤ sum_of k.windows)
      → Idle k m (load_begun k address size (barred spent why.Number (barred past why.Overflow j)) leaving m)
  unfolding pick
  load_idle address size (Err q) past spent inside = record { wrote = refl; memory = refl; sound = λ s. s }
  load_idle address size (Ok place) true spent inside = record { wrote = refl; memory = refl; sound = λ s. s }
  load_idle address size (Ok place) false true inside = record { wrote = refl; memory = refl; sound = λ s. s }
  load_idle address size (Ok place) false false inside =
      record {
        wrote = refl;
        memory = refl;
        sound = λ s. (
          fit_section k size s.0,
          lies_awaited k.windows (place + size) size (omega arith) (inside place refl),
        );
      }

  -- all commands that write nothing at their last word
  abbrev Quiet : Command → Type 0
  Quiet command.Load = Unit {0}
  Quiet command.Fill = ⊥
  Quiet command.BootTable = ⊥
  Quiet command.Enable = Unit {0}
  Quiet command.Disable = Unit {0}
  Quiet command.Request = Unit {0}
  Quiet command.StartOver = Unit {0}
  Quiet command.JumpAndClose = Unit {0}
  Quiet command.Ping = Unit {0}
  Quiet command.SequentialRead = Unit {0}

  lies_echoing : (n : ℕ) → Lies k.windows (echoing n)
  unfolding echoing
  lies_echoing n = of_choice (Lies k.windows) _ (λ e. tt) (λ e. tt)

  command_idle : (c : Command) → Quiet c → (kept : Kept) (word : ℕ) → Idle k m (performed c k m kept word)
  command_idle command.Load q kept word =
      load_idle kept.third word (load_judged k.windows kept.third word) _ _ (granted_inside k.windows kept.third word)
  command_idle command.Fill q kept word = absurd q
  command_idle command.BootTable q kept word = absurd q
  command_idle command.Enable q kept word = record { wrote = refl; memory = refl; sound = λ s. (s.0, tt) }
  command_idle command.Disable q kept word = record { wrote = refl; memory = refl; sound = λ s. (s.0, tt) }
  command_idle command.Request q kept word = record { wrote = refl; memory = refl; sound = λ s. (s.0, tt) }
  command_idle command.StartOver q kept word = record { wrote = refl; memory = refl; sound = λ s. (s.0, tt) }
  command_idle command.JumpAndClose q kept word =
      record {
        wrote = none_entered _ (none_after k k.tally.totals _);
        memory = refl;
        sound = λ s. sound_entered _ (sound_after k k.tally.totals _ s.0 s);
      }
  command_idle command.Ping q kept word = record { wrote = refl; memory = refl; sound = λ s. (s.0, lies_echoing word) }
  command_idle command.SequentialRead q kept word = record { wrote = refl; memory = refl; sound = λ s. s }

  -- a fill, by its judgement and the two refusals after it
  module _ (address size kind pattern : ℕ) where
    abbrev filling : Judged → WordOutcome
    filling j =
        writing (bytes_wrote j size k.tally.totals.next)
        (after k (counted_on k size) (fill_done j k.on k.tally.checksum address size kind pattern))
        leaving fill_memory j m size kind pattern

    abbrev fills : Judged → List Numbered
    fills j = judged_one k.tally.totals.next j (λ place. fill_effect place size (unit_of kind) pattern)

    fill_sound : (j : Judged) → Sound k → Sound (filling j).answer.core
    fill_sound j s = sound_after k (counted_on k size) _ (fit_section k size s.0) s

    fill_refused : (q : Refusal) → Idle k m (filling (Err q))
    unfolding fill_memory
    fill_refused q = record { wrote = refl; memory = refl; sound = fill_sound (Err q) }

    fill_shown : (j : Judged) (past spent : Bool) → is_spent k.tally.totals ≡ spent → fill_judged k.windows address size kind ≡ j
        → Shown k m (filling (barred spent why.Number (barred past why.Overflow j)))
        (pick (eqb (code_of (filling (barred spent why.Number (barred past why.Overflow j))).answer.refusal) 0) (fills j) [])
    unfolding pick after fill_done
    fill_shown (Err q) past spent e f = idle_choice k m (filling (Err q)) (eqb (code_of (filling (Err q)).answer.refusal) 0) (fill_refused q)
    fill_shown (Ok place) true spent e f = idle_shown k m (filling (Err why.Overflow)) (fill_refused why.Overflow)
    fill_shown (Ok place) false true e f = idle_shown k m (filling (Err why.Number)) (fill_refused why.Number)
    fill_shown (Ok place) false false e f =
        let n : ℕ = k.tally.totals.next in
        record {
          told = (refl, fill_reports k.windows address size kind pattern place n f);
          fits = λ s. fit_one _ _ (leb-false _ _ e);
          given = λ lent. (fill_granted k.windows m lent address size kind pattern f).does;
          inside = λ s lent. (fill_granted k.windows m lent address size kind pattern f).lies;
          sound = fill_sound (Ok place);
        }

  -- a setting, likewise
  module _ (word address value delay : ℕ) where
    abbrev setting : Judged → WordOutcome
    setting j =
        writing (setting_wrote j word k.tally.totals.next) (after k (numbered k.tally.totals) (setting_done j k.tally.checksum delay))
        leaving setting_memory j m word value

    abbrev sets : Judged → List Numbered
    sets j = judged_one k.tally.totals.next j (λ place. setting_effect place (shape_of word) value)

    setting_sound : (j : Judged) → Sound k → Sound (setting j).answer.core
    setting_sound j s = sound_after k (numbered k.tally.totals) _ (fit_numbered k.tally.totals s.0) s

    setting_refused : (q : Refusal) → Idle k m (setting (Err q))
    unfolding setting_memory
    setting_refused q = record { wrote = refl; memory = refl; sound = setting_sound (Err q) }

    setting_shown : (j : Judged) (spent : Bool) → is_spent k.tally.totals ≡ spent → setting_judged k.windows word address value ≡ j
        → Shown k m (setting (barred spent why.Number j))
        (pick (eqb (code_of (setting (barred spent why.Number j)).answer.refusal) 0) (sets j) [])
    unfolding pick after setting_done
    setting_shown (Err q) spent e f = idle_choice k m (setting (Err q)) (eqb (code_of (setting (Err q)).answer.refusal) 0) (setting_refused q)
    setting_shown (Ok place) true e f = idle_shown k m (setting (Err why.Number)) (setting_refused why.Number)
    setting_shown (Ok place) false e f =
        let n : ℕ = k.tally.totals.next in
        record {
          told = (setting_number k.windows word address value place n f, shape_reports place value n (shape_of word));
          fits = λ s. fit_one _ _ (leb-false _ _ e);
          given = λ lent. (setting_granted k.windows m lent word address value f).does;
          inside = λ s lent. (setting_granted k.windows m lent word address value f).lies;
          sound = setting_sound (Ok place);
        }

  -- the data of a load
  data_shown : (end left word : ℕ) → k.stage.phase ≡ phase.Data end left
      → Shown k m (in_phase (phase.Data end left) k m word) (accepted_word (phase.Data end left) k word)
  data_shown end left word e =
      let bytes : List ℕ = data_bytes word left in
      let size : length bytes ≡ min left 4 = length-take left _ in
      record {
        told = (refl, (omega arith, ap (λ (b : ℕ). 8 * b) (sym (length-take left _))));
        fits = λ s. fit_one _ _ (omega (arith, s.0.0));
        given = λ lent. load_does m (end - left) bytes;
        inside = λ s lent.
            let lies = subst (Lies k.windows) e s.1 in
            omega (arith, size, lent, lies.0, lies.1);
        sound = λ s.
            let lies = subst (Lies k.windows) e s.1 in
            (s.0, lies_awaited k.windows end (left - 4) (omega (arith, lies.0)) lies.1);
      }

  -- the last argument of a command
  last_shown : (c : Command) (kept : Kept) (word : ℕ)
      → Shown k m (performed c k m kept word) (pick (eqb (code_of (performed c k m kept word).answer.refusal) 0) (last_word c k kept word) [])
  last_shown command.Load kept word = idle_choice k m _ _ (command_idle command.Load tt kept word)
  last_shown command.Fill kept word = fill_shown kept.first kept.second kept.third word _ _ _ refl refl
  last_shown command.BootTable kept word = setting_shown kept.first kept.second kept.third word _ _ refl refl
  last_shown command.Enable kept word = idle_choice k m _ _ (command_idle command.Enable tt kept word)
  last_shown command.Disable kept word = idle_choice k m _ _ (command_idle command.Disable tt kept word)
  last_shown command.Request kept word = idle_choice k m _ _ (command_idle command.Request tt kept word)
  last_shown command.StartOver kept word = idle_choice k m _ _ (command_idle command.StartOver tt kept word)
  last_shown command.JumpAndClose kept word = idle_choice k m _ _ (command_idle command.JumpAndClose tt kept word)
  last_shown command.Ping kept word = idle_choice k m _ _ (command_idle command.Ping tt kept word)
  last_shown command.SequentialRead kept word = idle_choice k m _ _ (command_idle command.SequentialRead tt kept word)

  -- an argument, by whether it is the last
  abbrev waits : Command → ℕ → Kept → ℕ → WordOutcome
  waits c left kept word = quiet (await k k.tally (phase.Argument c left (keeping kept word))) leaving m

  by_last : (last : Bool) (c : Command) (left : ℕ) (kept : Kept) (word : ℕ)
      → Shown k m (pick last (performed c k m kept word) (waits c left kept word))
      (pick (eqb (code_of (pick last (performed c k m kept word) (waits c left kept word)).answer.refusal) 0) (pick last (last_word c k kept word) []) [])
  unfolding pick
  by_last true c left kept word = last_shown c kept word
  by_last false c left kept word = idle_shown k m (waits c left kept word) (record { wrote = refl; memory = refl; sound = λ s. (s.0, tt) })

  argument_shown : (c : Command) (left : ℕ) (kept : Kept) (word : ℕ)
      → Shown k m (toward c left k m kept word)
      (pick (eqb (code_of (toward c left k m kept word).answer.refusal) 0) (pick (eqb left 0) (last_word c k kept word) []) [])
  argument_shown c left kept word = by_last (eqb left 0) c left kept word

-- an opcode writes nothing: the commands that do have words to come
module _ (k : Core) (m : List ℕ) (opcode : ℕ) where
  abbrev begins : Command → ℕ → WordOutcome
  begins c words = toward c words (begun c k) m none_kept 0

  -- its acknowledgement changes neither what is told nor the core
  opened_idle : (c : Command) (o : WordOutcome) → Idle (begun c k) m o → Idle k m (opening opcode o)
  unfolding acknowledging
  opened_idle c o idle =
      record {
        wrote = of_choice (λ (t : Taken). t.wrote ≡ none_wrote) _ (λ e. idle.wrote) (λ e. idle.wrote);
        memory = idle.memory;
        sound = λ s.
            let turns = idle.sound (fit_turned c k.tally.totals s.0, s.1) in
            of_choice (λ (t : Taken). Sound t.core) _ (λ e. turns) (λ e. turns);
      }

  -- with words to come, or with none for a command that writes nothing
  waits_idle : (c : Command) (words : ℕ) → eqb words 0 ≡ false → Idle (begun c k) m (begins c words)
  waits_idle c words e =
      subst (Idle (begun c k) m) (sym (passed _ _ _ e)) (record { wrote = refl; memory = refl; sound = λ s. (s.0, tt) })

  done_idle : (c : Command) (words : ℕ) → Quiet (begun c k) m c → Idle (begun c k) m (begins c words)
  done_idle c words q =
      of_choice (Idle (begun c k) m) (eqb words 0) (λ e. command_idle (begun c k) m c q none_kept 0)
      (λ e. record { wrote = refl; memory = refl; sound = λ s. (s.0, tt) })

  has_four : (words : ℕ) → eqb words 4 ≡ true → eqb words 0 ≡ false
  has_four words e = ap (λ (n : ℕ). eqb n 0) (eqb-true words 4 e)

  row_idle : (c : Command) (words : ℕ) → row_is Sent k.dialect c words ≡ true → Idle (begun c k) m (begins c words)
  unfolding row_is
  row_idle command.Load words e = done_idle command.Load words tt
  row_idle command.Fill words e = waits_idle command.Fill words (has_four words e)
  row_idle command.BootTable words e = waits_idle command.BootTable words (has_four words e)
  row_idle command.Enable words e = done_idle command.Enable words tt
  row_idle command.Disable words e = done_idle command.Disable words tt
  row_idle command.Request words e = done_idle command.Request words tt
  row_idle command.StartOver words e = done_idle command.StartOver words tt
  row_idle command.JumpAndClose words e = done_idle command.JumpAndClose words tt
  row_idle command.Ping words e = done_idle command.Ping words tt
  row_idle command.SequentialRead words e = done_idle command.SequentialRead words tt

  opcode_idle : {found : Result Known Refusal} → Looked found → looked_up opcode Sent k.dialect ≡ found → Idle k m (at_opcode k m opcode found)
  opcode_idle of_none e = record { wrote = refl; memory = refl; sound = λ s. s }
  opcode_idle of_retired e = record { wrote = refl; memory = refl; sound = λ s. s }
  opcode_idle (of_row f) e = opened_idle f.command (begins f.command f.words) (row_idle f.command f.words (row-is Sent k.dialect opcode f.command f.words e))

-- a word, by its phase
phase_shown : (p : Phase) (k : Core) (m : List ℕ) (word : ℕ) → k.stage.phase ≡ p
    → Shown k m (in_phase p k m word) (pick (eqb (code_of (in_phase p k m word).answer.refusal) 0) (accepted_word p k word) [])
phase_shown phase.Opcode k m word e = idle_choice k m _ _ (opcode_idle k m word (looked word Sent k.dialect) refl)
phase_shown (phase.Argument c left kept) k m word e = argument_shown k m c (left - 1) kept word
phase_shown (phase.Data end left) k m word e =
    subst (Shown k m (in_phase (phase.Data end left) k m word)) (sym (chosen (eqb 0 0) _ _ refl)) (data_shown k m end left word e)
phase_shown (phase.Echo n) k m word e =
    idle_choice k m _ _ (record { wrote = refl; memory = refl; sound = λ s. (s.0, lies_echoing k m (n - 1)) })

pub word_shown : (k : Core) (m : List ℕ) (word : ℕ) → Shown k m (word_step k m word) (word_history k m word)
unfolding word_step word_history
word_shown k m word = phase_shown k.stage.phase k m word refl

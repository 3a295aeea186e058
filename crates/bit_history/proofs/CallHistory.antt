-- Calls of a flash session: what one tells, and what it does to memory, is what its history has. By the tests before the command and by the command: only a
-- load, a fill and a setting write.
use Rattle.std.specs.Prelude.{Some, Ok, Err}
use Prim.Native.Nat.{ℕ, zero, suc, ◌+◌, ◌*◌, ◌≤◌, ◌<◌}
use mathlib.Core.Bool.{Bool, true, false, not, ◌&&◌}
use mathlib.Core.List.{List, [], ◌∷◌}
use mathlib.Core.Path.{◌≡◌, refl, sym, ap, subst, ◌∙◌}
use native.Mathlib.Omega.{arith}
use borrow.Author.Tests.{eqb-true, leb-true, leb-false}
use lib.Dec.{eqb}
use lib.ListN.{length, drop, replicate, length-take, length-drop}
use Rattle.std.specs.declared.result.Result.{Result}
use Rattle.std.specs.declared.result.Result.TheVariants.{Ok, Err}
use Rattle.words.specs.rules.Bytes.{bytes_at, word_at}
use Rattle.words.specs.rules.Choice.{pick}
use Rattle.words.proofs.Choice.{of_choice}
use Rattle.windows.specs.rules.Window.{sum_of}
use Rattle.opcodes.specs.rules.Answers.{code_of, number_of}
use Rattle.opcodes.specs.rules.Opcodes.{looked_up, with_words}
use Rattle.opcodes.specs.declared.Command.{Command}
use Rattle.opcodes.specs.declared.Command.TheVariants as command
use Rattle.opcodes.specs.declared.Mode.TheVariants.{Flash}
use Rattle.opcodes.specs.declared.Refusal.TheVariants as why
use Rattle.opcodes.specs.declared.Refusal.{Refusal}
use Rattle.opcodes.specs.rules.Refusals as refusal
use Rattle.opcodes.specs.declared.Known.{Known}
use Rattle.opcodes.proofs.Looked.{Looked, of_row, of_none, of_retired, looked}
use Rattle.ledger.specs.rules.Totals.{is_spent}
use Rattle.ledger.specs.declared.Happening.{Happening}
use Rattle.reading.specs.rules.Reading.{present, words_from, past_words, argument, data_words, read_as, read_at, unread}
use Rattle.reading.specs.declared.Unread.{Unread}
use Rattle.commands.specs.rules.Commands.{barred, load_judged, unit_of, fill_judged, fill_done, fill_memory, shape_of, setting_judged, setting_done}
use Rattle.commands.specs.rules.Commands.{setting_memory}
use Rattle.commands.specs.rules.Commands.{sought_from, Judged, Sought}
use Rattle.stores.specs.rules.Stores.{loaded}
use Rattle.commands.specs.rules.Wrote.{none_wrote, bytes_wrote}
use Rattle.commands.specs.declared.Done.{Done}
use Rattle.law_effects.specs.claims.Effects.{Effect, load_effect, fill_effect, setting_effect}
use Rattle.law_effects.specs.claims.Wrote.{Tells}
use Rattle.law_effects.proofs.Wrote.{commands_tell}
use Rattle.bit_stamps.specs.rules.Stamps.{entry_at}
use Rattle.bit_history.specs.claims.History.{Numbered, LeftBy, numbers_fit, stamped_all}
use Rattle.bit_history.proofs.History.{history_laws}
use Rattle.flash_session.specs.rules.Opening.{good_length}
use Rattle.flash_session.specs.rules.Sessions.{CallOutcome, ◌leaving◌, fetching, unchanged, stopped, after}
use Rattle.flash.specs.rules.Step.{load_done, load_at, load_judged_as, performed, followed, step_of}
use Rattle.flash_commands.specs.rules.Commands.{fill_judged_as, setting_judged_as, sought_as, requested}
use Rattle.flash_laws.specs.claims.Totals.{Lent, answer_to}
use Rattle.flash_session.specs.declared.Called.{Called}
use Rattle.flash_session.specs.declared.Session.{Session}
use Rattle.flash_runs.specs.rules.Entries.{number_wrote, call_entries, stamps_on, run_stamps}
use Rattle.flash_runs.specs.rules.Run.{goes_on, carried_on, enough, run_of}
use Rattle.bit_history.specs.claims.Accepted.{one, judged_one}
use Rattle.bit_history.specs.claims.CallHistory.{accepted_command, accepted_row, added, call_history, history, entries_after, lent_in_turn, memory_after}
use Rattle.bit_history.specs.claims.CallHistory.{lent_on}
use Rattle.bit_history.specs.claims.CallHistory.{CallsTell}
use Rattle.bit_history.proofs.Agreeing.{Agrees, Told, Given, Inside, agrees_told, left_given, listed, setting_number, fit_one, fit_both, same_choice}

-- what is shown of a call with an outcome and a history
record Shown (m : List ℕ) (o : CallOutcome) (cs : List Numbered) : Type 0 where
  told : Told cs o.answer.wrote
  fits : numbers_fit cs ≡ true
  given : Given cs m o.memory
  inside : Inside cs m

-- a call that writes nothing
record Idle (m : List ℕ) (o : CallOutcome) : Type 0 where
  wrote : o.answer.wrote ≡ none_wrote
  memory : o.memory ≡ m

idle_shown : (m : List ℕ) (o : CallOutcome) → Idle m o → Shown m o []
unfolding numbers_fit
idle_shown m o idle = record { told = idle.wrote; fits = refl; given = idle.memory; inside = tt }

-- one command that tells and does its effect
one_shown : (m : List ℕ) (o : CallOutcome) (n : ℕ) (e : Effect) → n < 65536 → o.answer.wrote.number ≡ n → Tells e o.answer.wrote m o.memory
    → Shown m o (one n e)
one_shown m o n e fit number tells =
    record { told = (number, tells.reports); fits = fit_one n e fit; given = tells.does.does; inside = tells.does.lies }

idle_choice : (m : List ℕ) (o : CallOutcome) (t : Bool) → Idle m o → Shown m o (pick t [] [])
idle_choice m o t idle = subst (Shown m o) (sym (same_choice t)) (idle_shown m o idle)

module _ (s : Session) (m image : List ℕ) where
  -- the bytes of a load whose data are all there
  whole_data : (at size : ℕ) → present image at (data_words size) ≡ true → length (bytes_at image at size) ≡ size
  unfolding present bytes_at
  whole_data at size e =
      let there : at + 4 * data_words size ≤ length image = leb-true _ _ e in
      length-take size (drop at image) ∙ omega (arith, length-drop at image, there)

  -- a load that is granted, by whether its data are there and a number is left
  module _ (next address size place : ℕ) (granted : load_judged s.windows address size ≡ Ok place) (lent : length m ≡ sum_of s.windows) where
    abbrev bytes : List ℕ
    bytes = bytes_at image next size

    abbrev loads : List Numbered
    loads = one s.totals.next (load_effect place bytes)

    abbrev loading : Bool → Bool → CallOutcome
    loading there spent =
        pick (not there) (stopped refusal.Missing s leaving m)
        (pick spent (stopped refusal.Number s leaving m) (load_done s m image next address size place))

    load_tells : length bytes ≡ size → Tells (load_effect place bytes) (bytes_wrote (Ok place) size s.totals.next) m (loaded m place bytes)
    load_tells whole =
        subst (λ (n : ℕ). Tells (load_effect place bytes) (bytes_wrote (Ok place) n s.totals.next) m (loaded m place bytes)) whole
        (commands_tell.load s.windows m lent address place s.totals.next bytes
        (ap (load_judged s.windows address) whole ∙ granted))

    by_loading : (there spent : Bool) → (there ≡ true → length bytes ≡ size) → is_spent s.totals ≡ spent
        → Shown m (loading there spent) (added (loading there spent) loads)
    unfolding pick
    by_loading false spent whole e = idle_shown m (stopped refusal.Missing s leaving m) (record { wrote = refl; memory = refl })
    by_loading true true whole e = idle_shown m (stopped refusal.Number s leaving m) (record { wrote = refl; memory = refl })
    by_loading true false whole e =
        one_shown m (load_done s m image next address size place) s.totals.next (load_effect place bytes) (leb-false _ _ e) refl (load_tells (whole refl))

    load_at_shown : Shown m (load_at s m image next address size place) (added (load_at s m image next address size place) loads)
    unfolding load_at
    load_at_shown = by_loading (present image next (data_words size)) (is_spent s.totals) (whole_data next size) refl

  -- a load, by its judgement
  load_shown : (next address size : ℕ) (j : Judged) (past : Bool) → load_judged s.windows address size ≡ j → length m ≡ sum_of s.windows
      → Shown m (load_judged_as s m image next address size (barred past why.Overflow j))
      (added (load_judged_as s m image next address size (barred past why.Overflow j))
      (judged_one s.totals.next j (λ place. load_effect place (bytes_at image next size))))
  unfolding pick
  load_shown next address size (Err q) past e lent = idle_choice m (stopped (Some q) s leaving m) (eqb (number_of q) 0) (record { wrote = refl; memory = refl })
  load_shown next address size (Ok place) true e lent = idle_shown m (stopped refusal.Overflow s leaving m) (record { wrote = refl; memory = refl })
  load_shown next address size (Ok place) false e lent = load_at_shown next address size place e lent

  -- an answer that tells nothing where it is accepted tells nothing
  none_after : (happened : Happening) (done : Done) (n : ℕ) → (after s happened none_wrote done n).wrote ≡ none_wrote
  unfolding after
  none_after happened done n = of_choice (λ (a : Called). a.wrote ≡ none_wrote) _ (λ e. refl) (λ e. refl)

  -- a fill, by its judgement and the two refusals after it
  module _ (next address size kind pattern : ℕ) where
    abbrev fills : Judged → List Numbered
    fills j = judged_one s.totals.next j (λ place. fill_effect place size (unit_of kind) pattern)

    abbrev filling : Judged → CallOutcome
    filling j = fill_judged_as s m next address size kind pattern j

    fill_refused : (q : Refusal) → Idle m (filling (Err q))
    unfolding fill_memory
    fill_refused q = record { wrote = none_after _ _ next; memory = refl }

    fill_shown : (j : Judged) (past spent : Bool) → is_spent s.totals ≡ spent → fill_judged s.windows address size kind ≡ j
        → length m ≡ sum_of s.windows
        → Shown m (filling (barred spent why.Number (barred past why.Overflow j)))
        (added (filling (barred spent why.Number (barred past why.Overflow j))) (fills j))
    unfolding pick after fill_done
    fill_shown (Err q) past spent e f lent = idle_choice m (filling (Err q)) (eqb (code_of (filling (Err q)).answer.refusal) 0) (fill_refused q)
    fill_shown (Ok place) true spent e f lent = idle_shown m (filling (Err why.Overflow)) (fill_refused why.Overflow)
    fill_shown (Ok place) false true e f lent = idle_shown m (filling (Err why.Number)) (fill_refused why.Number)
    fill_shown (Ok place) false false e f lent =
        one_shown m (filling (Ok place)) s.totals.next (fill_effect place size (unit_of kind) pattern) (leb-false _ _ e) refl
        (commands_tell.fill s.windows m lent address size kind pattern place s.totals.next f)

  -- a setting, likewise
  module _ (next word address value delay : ℕ) where
    abbrev sets : Judged → List Numbered
    sets j = judged_one s.totals.next j (λ place. setting_effect place (shape_of word) value)

    abbrev setting : Judged → CallOutcome
    setting j = setting_judged_as s m next word value delay j

    setting_refused : (q : Refusal) → Idle m (setting (Err q))
    unfolding setting_memory
    setting_refused q = record { wrote = none_after _ _ next; memory = refl }

    setting_shown : (j : Judged) (spent : Bool) → is_spent s.totals ≡ spent → setting_judged s.windows word address value ≡ j
        → length m ≡ sum_of s.windows
        → Shown m (setting (barred spent why.Number j)) (added (setting (barred spent why.Number j)) (sets j))
    unfolding pick after setting_done
    setting_shown (Err q) spent e f lent = idle_choice m (setting (Err q)) (eqb (code_of (setting (Err q)).answer.refusal) 0) (setting_refused q)
    setting_shown (Ok place) true e f lent = idle_shown m (setting (Err why.Number)) (setting_refused why.Number)
    setting_shown (Ok place) false e f lent =
        one_shown m (setting (Ok place)) s.totals.next (setting_effect place (shape_of word) value) (leb-false _ _ e)
        (setting_number s.windows word address value place s.totals.next f)
        (commands_tell.setting s.windows m lent word address value place s.totals.next f)

  -- a Request tells nothing
  none_sought : (to : Sought) → (sought_as s to).wrote ≡ none_wrote
  none_sought (Ok offset) = refl
  none_sought (Err q) = refl

  none_requested : (next expected seek : ℕ) → (requested s next expected seek).wrote ≡ none_wrote
  unfolding requested
  none_requested next expected seek =
      of_choice (λ (a : Called). a.wrote ≡ none_wrote) _ (λ e. refl)
      (λ e. of_choice (λ (a : Called). a.wrote ≡ none_wrote) _ (λ l. refl) (λ l. none_sought (sought_from s.offset seek)))

  command_shown : (c : Command) (words : ℕ) → length m ≡ sum_of s.windows
      → Shown m (performed c (past_words s.offset words) s m image)
      (added (performed c (past_words s.offset words) s m image) (accepted_command c words s image))
  command_shown command.Load words lent = load_shown _ (argument image s.offset 0) (argument image s.offset 1) _ _ refl lent
  command_shown command.Fill words lent = fill_shown _ (argument image s.offset 0) (argument image s.offset 1) (argument image s.offset 2)
      (argument image s.offset 3) _ _ _ refl refl lent
  command_shown command.BootTable words lent = setting_shown _ (argument image s.offset 0) (argument image s.offset 1) (argument image s.offset 2)
      (argument image s.offset 3) _ _ refl refl lent
  command_shown command.Enable words lent = idle_choice m _ _ (record { wrote = refl; memory = refl })
  command_shown command.Disable words lent = idle_choice m _ _ (record { wrote = refl; memory = refl })
  command_shown command.Request words lent = idle_choice m _ _ (record { wrote = none_requested _ _ _; memory = refl })
  command_shown command.StartOver words lent = idle_choice m _ _ (record { wrote = refl; memory = refl })
  command_shown command.JumpAndClose words lent = idle_choice m _ _ (record { wrote = none_after _ _ _; memory = refl })
  command_shown command.Ping words lent = idle_choice m _ _ (record { wrote = refl; memory = refl })
  command_shown command.SequentialRead words lent = idle_choice m _ _ (record { wrote = refl; memory = refl })

module _ (s : Session) (m image : List ℕ) where
  -- a command with its words there; that they were fetched is nothing to its history
  fetched_shown : (c : Command) (words : ℕ) → length m ≡ sum_of s.windows
      → Shown m (followed s m image (Ok (with_words c words))) (added (followed s m image (Ok (with_words c words))) (accepted_command c words s image))
  fetched_shown c words lent =
      subst (λ (cs : List Numbered). Shown m (followed s m image (Ok (with_words c words))) (added (followed s m image (Ok (with_words c words))) cs))
      (same c) (command_shown (fetching (1 + words) s) m image c words lent)
    where
      same : (c : Command) → accepted_command c words (fetching (1 + words) s) image ≡ accepted_command c words s image
      same command.Load = refl
      same command.Fill = refl
      same command.BootTable = refl
      same command.Enable = refl
      same command.Disable = refl
      same command.Request = refl
      same command.StartOver = refl
      same command.JumpAndClose = refl
      same command.Ping = refl
      same command.SequentialRead = refl

  -- what is read where words are missing, and the command
  missing_shown : (n : ℕ) (cs : List Numbered)
      → Shown m (followed s m image (Err (unread why.Missing n))) (added (followed s m image (Err (unread why.Missing n))) cs)
  unfolding pick
  missing_shown n cs = idle_shown m (followed s m image (Err (unread why.Missing n))) (record { wrote = refl; memory = refl })

  by_words : (there : Bool) (n : ℕ) (r : Result Known Unread) (cs : List Numbered) → Shown m (followed s m image r) (added (followed s m image r) cs)
      → Shown m (followed s m image (pick (not there) (Err (unread why.Missing n)) r))
      (added (followed s m image (pick (not there) (Err (unread why.Missing n)) r)) cs)
  unfolding pick
  by_words true n r cs shown = shown
  by_words false n r cs shown = missing_shown n cs

  row_shown : {found : Result Known Refusal} → Looked found → length m ≡ sum_of s.windows
      → Shown m (followed s m image (read_as image s.offset found))
      (added (followed s m image (read_as image s.offset found)) (accepted_row found s image))
  row_shown of_none lent = idle_choice m _ _ (record { wrote = refl; memory = refl })
  row_shown of_retired lent = idle_choice m _ _ (record { wrote = refl; memory = refl })
  row_shown (of_row f) lent =
      by_words (present image s.offset (1 + f.words)) (words_from image s.offset) (Ok f) (accepted_command f.command f.words s image)
      (fetched_shown f.command f.words lent)

  -- the call by its three tests
  abbrev found : Result Known Refusal
  found = looked_up (word_at image s.offset) Flash s.dialect

  abbrev tested : Bool → Bool → Bool → CallOutcome
  tested ended right good =
      pick ended (unchanged refusal.Ended s leaving m)
      (pick (not right) (unchanged refusal.Memory s leaving m)
      (pick (not good) (unchanged refusal.Image s leaving m)
      (followed s m image (read_at image s.offset s.dialect))))

  read_shown : length m ≡ sum_of s.windows
      → Shown m (followed s m image (read_at image s.offset s.dialect))
      (added (followed s m image (read_at image s.offset s.dialect)) (accepted_row found s image))
  unfolding read_at
  read_shown lent =
      by_words (present image s.offset 1) 0 (read_as image s.offset found) (accepted_row found s image)
      (row_shown (looked (word_at image s.offset) Flash s.dialect) lent)

  by_tests : (ended right good : Bool) → (right ≡ true → length m ≡ sum_of s.windows)
      → Shown m (tested ended right good) (added (tested ended right good) (accepted_row found s image))
  unfolding pick
  by_tests true right good lent = idle_shown m (unchanged refusal.Ended s leaving m) (record { wrote = refl; memory = refl })
  by_tests false false good lent = idle_shown m (unchanged refusal.Memory s leaving m) (record { wrote = refl; memory = refl })
  by_tests false true false lent = idle_shown m (unchanged refusal.Image s leaving m) (record { wrote = refl; memory = refl })
  by_tests false true true lent = read_shown (lent refl)

  call_shown : Shown m (step_of s m image) (call_history s m image)
  unfolding step_of call_history
  call_shown =
      by_tests s.ended (eqb (length m) (sum_of s.windows)) (good_length (length image) && eqb (length image) s.length) (λ e. eqb-true _ _ e)

-- so a call stamps what its history stamps, and leaves what its history says
call_agrees : (s : Session) (m image : List ℕ) → Agrees (step_of s m image).answer.wrote (call_history s m image)
call_agrees s m image = agrees_told (call_history s m image) (step_of s m image).answer.wrote (call_shown s m image).told

call_left : (s : Session) (m image : List ℕ) → LeftBy (call_history s m image) m (step_of s m image).memory
call_left s m image = left_given (call_history s m image) m (step_of s m image).memory (call_shown s m image).given

stamps_law : (places entries : List ℕ) (s : Session) (calls : List Lent) → entries_after places entries s calls ≡ stamped_all entries places (history s calls)
unfolding entries_after history stamped_all
stamps_law places entries s [] = refl
stamps_law places entries s (lent ∷ rest) =
    stamps_law places (call_entries places entries s lent.memory lent.image) (answer_to s lent).session rest
    ∙ ap (λ (es : List ℕ). stamped_all es places (history (answer_to s lent).session rest)) (call_agrees s lent.memory lent.image entries places)
    ∙ sym (history_laws.stamped_on entries places (call_history s lent.memory lent.image) (history (answer_to s lent).session rest))

fit_law : (s : Session) (calls : List Lent) → numbers_fit (history s calls) ≡ true
unfolding history numbers_fit
fit_law s [] = refl
fit_law s (lent ∷ rest) =
    fit_both (call_history s lent.memory lent.image) (history (answer_to s lent).session rest)
    (call_shown s lent.memory lent.image).fits (fit_law (answer_to s lent).session rest)

values_law : (s : Session) (m : List ℕ) (images : List (List ℕ)) → LeftBy (history s (lent_in_turn s m images)) m (memory_after s m images)
unfolding history lent_in_turn memory_after
values_law s m [] = left_given [] m m refl
values_law s m (image ∷ images) =
    let o : CallOutcome = step_of s m image in
    history_laws.left_on (call_history s m image) (history o.answer.session (lent_in_turn o.answer.session o.memory images)) m o.memory
    (memory_after o.answer.session o.memory images) (call_left s m image) (values_law o.answer.session o.memory images)

-- the calls of a run, one after the other
module _ (places image : List ℕ) where
  by-going : (more : Bool) (left : List ℕ) (next : Session) (after : List ℕ) (calls : List Lent) → after ≡ entries_after places left next calls
      → pick more after left ≡ entries_after places left next (pick more calls [])
  unfolding pick entries_after
  by-going true left next after calls e = e
  by-going false left next after calls e = refl

  run_on : (n : ℕ) (entries : List ℕ) (s : Session) (m : List ℕ)
      → stamps_on number_wrote n places entries (step_of s m image) image ≡ entries_after places entries s (lent_on n s m image)
  unfolding stamps_on entries_after lent_on
  run_on zero entries s m = refl
  run_on (suc n) entries s m =
      by-going (goes_on (step_of s m image).answer) (call_entries places entries s m image) (step_of s m image).answer.session _ _
      (run_on n (call_entries places entries s m image) (step_of s m image).answer.session (step_of s m image).memory)

-- and the memory that they leave
module _ (image : List ℕ) where
  left_going : (more : Bool) (o next : CallOutcome) (calls : List Lent) → LeftBy (history o.answer.session calls) o.memory next.memory
      → LeftBy (history o.answer.session (pick more calls [])) o.memory (pick more next o).memory
  unfolding pick history
  left_going true o next calls left = left
  left_going false o next calls left = left_given [] o.memory o.memory refl

  run_left : (n : ℕ) (s : Session) (m : List ℕ) → LeftBy (history s (lent_on n s m image)) m (carried_on n (step_of s m image) image).memory
  unfolding history lent_on carried_on
  run_left zero s m =
      history_laws.left_on (call_history s m image) [] m (step_of s m image).memory (step_of s m image).memory (call_left s m image)
      (left_given [] (step_of s m image).memory (step_of s m image).memory refl)
  run_left (suc n) s m =
      let o : CallOutcome = step_of s m image in
      history_laws.left_on (call_history s m image) _ m o.memory _ (call_left s m image)
      (left_going (goes_on o.answer) o (carried_on n (step_of o.answer.session o.memory image) image)
      (lent_on n o.answer.session o.memory image) (run_left n o.answer.session o.memory))

pub calls_tell : CallsTell
unfolding run_stamps run_of
calls_tell =
    record {
      stamps = stamps_law;
      fit = fit_law;
      told = λ s calls places j k h l.
          ap (λ (es : List ℕ). entry_at es j k) (stamps_law places (replicate (64 * length places) 0) s calls)
          ∙ history_laws.told places (history s calls) (fit_law s calls) j k h l;
      run = λ places entries s m image. run_on places image (enough s) entries s m;
      call = λ s m image.
          let shown = call_shown s m image in
          listed (call_history s m image) (step_of s m image).answer.wrote m (step_of s m image).memory shown.told shown.given shown.inside;
      values = values_law;
      run_values = λ s m image. run_left image (enough s) s m;
    }

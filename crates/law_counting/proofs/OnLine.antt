-- Each word goes by the phase that awaits it: an opcode turns the totals, the last argument word of a command does what the command does, and nothing else
-- touches them. A Request stands unsettled only where an opcode is awaited, or words of a Ping. And a fill or a setting that is accepted was granted, so that
-- the history has it once, by the next number.
use Rattle.opcodes.specs.declared.Refusal.TheVariants as why
use Rattle.std.specs.Prelude.{Some, Ok, Err}
use Prim.Native.Nat.{ℕ, ◌+◌, ◌-◌}
use mathlib.Core.Bool.{Bool, true, false, not, ◌&&◌, true≢false}
use mathlib.Core.List.{List, [], ◌∷◌, ◌++◌}
use mathlib.Core.Path.{◌≡◌, refl, sym, ap, ap₂, subst, ◌∙◌}
use native.Mathlib.Omega.{arith}
use lib.Dec.{ltb, eqb}
use lib.ListN.{length}
use borrow.Author.Tests.{ne_eqb, eqb-true}
use Rattle.std.specs.declared.result.Result.{Result}
use Rattle.words.specs.rules.Choice.{pick}
use Rattle.words.proofs.Choice.{chosen, passed, by_test, of_choice}
use Rattle.windows.specs.rules.Window.{sum_of}
use Rattle.windows.specs.declared.Window.{Window}
use Rattle.opcodes.specs.rules.Answers.{code_of, accepted, number_of}
use Rattle.opcodes.specs.rules.Opcodes.{looked_up}
use Rattle.opcodes.specs.declared.Command.{Command}
use Rattle.opcodes.specs.declared.Command.TheVariants as command
use Rattle.opcodes.specs.declared.Dialect.{Dialect}
use Rattle.opcodes.specs.declared.Dialect.TheVariants.{Am17xx, Dm648}
use Rattle.opcodes.specs.declared.Event.{Event}
use Rattle.opcodes.specs.declared.Mode.TheVariants.{Sent}
use Rattle.opcodes.specs.declared.Refusal.{Refusal}
use Rattle.opcodes.specs.rules.Refusals.{Verdict}
use Rattle.opcodes.specs.rules.Refusals as refusal
use Rattle.opcodes.proofs.Counts.{row_is, row-is}
use Rattle.opcodes.specs.declared.Known.{Known}
use Rattle.opcodes.proofs.Looked.{Looked, of_row, of_none, of_retired, looked}
use Rattle.ledger.specs.rules.Totals.{at_opening, from_one, would_pass, is_spent, turned}
use Rattle.ledger.specs.claims.Account.{Act, Account, numbers_told}
use Rattle.ledger.specs.claims.Account as the-account
use Rattle.ledger.specs.claims.Booked.{standing_of, next_of, totals_of, Leads, by_mark, opcode_act}
use Rattle.ledger.specs.declared.Totals.{Totals}
use Rattle.ledger.proofs.Booked.{none_booked, opcode_booked, piece_booked}
use Rattle.commands.specs.rules.Commands.{barred, done_if, unit_of, fill_judged, fill_done, shape_of, setting_judged, setting_done, Judged}
use Rattle.commands.proofs.Judging.{fill_passes, setting_passes}
use Rattle.law_effects.specs.claims.Effects.{Effect, fill_effect, setting_effect}
use Rattle.machine_answers.specs.rules.Answers.{WordOutcome, ◌leaving◌, await, quiet, after}
use Rattle.machine_answers.specs.rules.Counts.{counted_on}
use Rattle.machine_answers.specs.rules.Replies.{silence}
use Rattle.machine_answers.specs.declared.Core.{Core}
use Rattle.machine_answers.specs.declared.Kept.{Kept}
use Rattle.machine_answers.specs.declared.Phase.{Phase}
use Rattle.machine_answers.specs.declared.Phase.TheVariants as phase
use Rattle.machine_answers.specs.declared.Taken.{Taken}
use Rattle.machine_loads.proofs.Granted.{Numbered, numbers as code-numbers}
use Rattle.machine_commands.specs.rules.Performed.{none_kept, echoing, setting_totals, performed}
use Rattle.machine_commands.specs.claims.Booked.{done_acts}
use Rattle.machine_commands.proofs.Booked.{commands_booked}
use Rattle.machine.specs.rules.Machine.{keeping, toward, begun, acknowledging, at_opcode, in_phase, word_step}
use Rattle.machine.proofs.Every.{every_word}
use Rattle.sent.specs.rules.Bus.{units_in_word, pushed}
use Rattle.sent.specs.rules.Line.{UnitOutcome, plainly, gathered, carried, is_start, start_answer, unit_step}
use Rattle.sent.specs.rules.Opening.{opened_by, numbering_from}
use Rattle.sent.specs.declared.Bus.{Bus}
use Rattle.sent.specs.declared.Opened.{Opened}
use Rattle.sent.specs.declared.Session.{Session}
use Rattle.sent_laws.specs.claims.Reached.{opened_to, Reached, opened, stepped}
use Rattle.bit_history.specs.claims.Accepted.{judged_one}
use Rattle.bit_history.specs.claims.UnitHistory.{last_word, accepted_word, word_history, ends_word, unit_history, history_of}
use Rattle.law_counting.specs.claims.Numbers.{numbers_in}
use Rattle.law_counting.specs.claims.OnLine.{opcode_acts, phase_acts, word_acts, unit_acts, acts_of, numbers, OnLine}
use Rattle.law_counting.proofs.Numbers.{numbers_both, all_counted, told_both, leads_on}

-- where argument words or data are awaited, no Request stands unsettled
abbrev Settled : Phase → Bool → Type 0
Settled phase.Opcode asks = Unit {0}
Settled (phase.Argument command left kept) asks = asks ≡ false
Settled (phase.Data end left) asks = asks ≡ false
Settled (phase.Echo n) asks = Unit {0}

settled_always : (p : Phase) → Settled p false
settled_always phase.Opcode = tt
settled_always (phase.Argument command left kept) = refl
settled_always (phase.Data end left) = refl
settled_always (phase.Echo n) = tt

settled_echoing : (n : ℕ) (asks : Bool) → Settled (echoing n) asks
unfolding echoing
settled_echoing n asks = of_choice (λ (p : Phase). Settled p asks) (eqb n 0) (λ e. tt) (λ e. tt)

-- a step with some acts leads a core to another
record Steps (dialect : Dialect) (numbering : Bool) (a : Account) (asks : Bool) (taken : List Act) (k : Core) : Type 0 where
  standing : Bool
  leads : Leads dialect numbering a asks taken k.tally.totals standing
  settled : Settled k.stage.phase standing

-- what an opcode that the table has for sent mode does to the core
record Turns (c : Command) (t : Totals) (x : Taken) : Type 0 where
  accepted : x.refusal ≡ refusal.None
  totals : x.core.tally.totals ≡ turned c t
  settled : Settled x.core.stage.phase (by_mark c false true false false)

module _ (k : Core) (m : List ℕ) where
  abbrev TurnsBy : Command → WordOutcome → Type 0
  TurnsBy c o = Turns c k.tally.totals o.answer

  -- with words to come, and with none
  more_words : (c : Command) (words n : ℕ) → eqb words n ≡ true → eqb n 0 ≡ false → by_mark c false true false false ≡ false
      → TurnsBy c (toward c words (begun c k) m none_kept 0)
  more_words c words n row some plain =
      of_choice (TurnsBy c) (eqb words 0) {a = performed c (begun c k) m none_kept 0}
      (λ e. absurd (true≢false (sym e ∙ ap (λ (w : ℕ). eqb w 0) (eqb-true words n row) ∙ some)))
      (λ e. record { accepted = refl; totals = refl; settled = plain })

  no_words : (c : Command) (words : ℕ) → eqb words 0 ≡ true → TurnsBy c (performed c (begun c k) m none_kept 0)
      → TurnsBy c (toward c words (begun c k) m none_kept 0)
  no_words c words row done = of_choice (TurnsBy c) (eqb words 0) (λ e. done) (λ e. absurd (true≢false (sym row ∙ e)))

  opcode_turns : (c : Command) (words : ℕ) → row_is Sent k.dialect c words ≡ true → TurnsBy c (toward c words (begun c k) m none_kept 0)
  unfolding row_is
  opcode_turns command.Load words row = more_words command.Load words 2 row refl refl
  opcode_turns command.Fill words row = more_words command.Fill words 4 row refl refl
  opcode_turns command.BootTable words row = more_words command.BootTable words 4 row refl refl
  opcode_turns command.Enable words row = no_words command.Enable words row (record { accepted = refl; totals = refl; settled = tt })
  opcode_turns command.Disable words row = no_words command.Disable words row (record { accepted = refl; totals = refl; settled = tt })
  opcode_turns command.Request words row = no_words command.Request words row (record { accepted = refl; totals = refl; settled = tt })
  opcode_turns command.StartOver words row = no_words command.StartOver words row (record { accepted = refl; totals = refl; settled = tt })
  opcode_turns command.JumpAndClose words row = close-taken k.dialect row
    where
      close-taken : (d : Dialect) → row_is Sent d command.JumpAndClose words ≡ true
          → TurnsBy command.JumpAndClose (toward command.JumpAndClose words (begun command.JumpAndClose k) m none_kept 0)
      close-taken Am17xx row = more_words command.JumpAndClose words 1 row refl refl
      close-taken Dm648 row = more_words command.JumpAndClose words 3 row refl refl
  opcode_turns command.Ping words row = more_words command.Ping words 1 row refl refl
  opcode_turns command.SequentialRead words row = absurd (true≢false (sym row))

-- its acknowledgement changes nothing of that
acknowledged_too : (opcode : ℕ) (c : Command) (t : Totals) (x : Taken) → Turns c t x → Turns c t (acknowledging opcode x)
unfolding acknowledging
acknowledged_too opcode c t x up =
    of_choice (Turns c t) (accepted x.refusal) {b = x} (λ e. record { accepted = up.accepted; totals = up.totals; settled = up.settled }) (λ e. up)

module _ (numbering : Bool) (a : Account) (k : Core) (m : List ℕ) (word : ℕ) where
  -- a word, its phase being known
  abbrev Goes : Bool → Phase → Type 0
  Goes asks p =
      Steps k.dialect numbering a asks (pick (accepted (in_phase p k m word).answer.refusal) (phase_acts p k.dialect word) [])
      (in_phase p k m word).answer.core

  opcode_goes : (asks : Bool) → k.tally.totals ≡ totals_of k.dialect numbering a asks → Settled k.stage.phase asks
      → {found : Result Known Refusal} → Looked found → looked_up word Sent k.dialect ≡ found
      → Steps k.dialect numbering a asks (pick (accepted (at_opcode k m word found).answer.refusal) (opcode_acts found) [])
      (at_opcode k m word found).answer.core
  unfolding pick
  opcode_goes asks here settled of_none known = record { standing = asks; leads = none_booked here; settled = settled }
  opcode_goes asks here settled of_retired known = record { standing = asks; leads = none_booked here; settled = settled }
  opcode_goes asks here settled (of_row f) known =
      let x : Taken = acknowledging word (toward f.command f.words (begun f.command k) m none_kept 0).answer in
      let up = acknowledged_too word f.command k.tally.totals _ (opcode_turns k m f.command f.words (row-is Sent k.dialect word f.command f.words known)) in
      record {
        standing = by_mark f.command false true false false;
        leads =
            subst (λ (l : List Act). Leads k.dialect numbering a asks l x.core.tally.totals (by_mark f.command false true false false))
            (sym (chosen (accepted x.refusal) (opcode_act f.command ∷ []) [] (ap (λ (q : Verdict). accepted q) up.accepted)))
            (subst (λ (t : Totals). Leads k.dialect numbering a asks (opcode_act f.command ∷ []) t (by_mark f.command false true false false)) (sym up.totals)
            (opcode_booked f.command here));
        settled = up.settled;
      }

  argument_goes : (last : Bool) (c : Command) (left : ℕ) (kept : Kept) → k.tally.totals ≡ totals_of k.dialect numbering a false
      → (o : WordOutcome) → o.answer.refusal ≡ refusal.None → o.answer.core.tally.totals ≡ k.tally.totals
      → Leads k.dialect numbering a false
      (pick (accepted (pick last (performed c k m kept word) o).answer.refusal) (pick last (done_acts c kept word) []) [])
      (pick last (performed c k m kept word) o).answer.core.tally.totals false
  unfolding pick
  argument_goes true c left kept here o none same = commands_booked c k m kept word numbering a here
  argument_goes false c left kept here o none same =
      subst (λ (l : List Act). Leads k.dialect numbering a false l o.answer.core.tally.totals false)
      (sym (chosen (accepted o.answer.refusal) [] [] (ap (λ (q : Verdict). accepted q) none))) (none_booked (same ∙ here))

  phase_goes : (asks : Bool) (p : Phase) → k.stage.phase ≡ p → Settled p asks → k.tally.totals ≡ totals_of k.dialect numbering a asks → Goes asks p
  unfolding pick
  phase_goes asks phase.Opcode at settled here =
      opcode_goes asks here (subst (λ (p : Phase). Settled p asks) (sym at) settled) (looked word Sent k.dialect) refl
  phase_goes true (phase.Argument c left kept) at settled here = absurd (true≢false settled)
  phase_goes false (phase.Argument c left kept) at settled here =
      record {
        standing = false;
        leads =
            argument_goes (eqb (left - 1) 0) c left kept here (quiet (await k k.tally (phase.Argument c (left - 1) (keeping kept word))) leaving m) refl
            refl;
        settled = settled_always (toward c (left - 1) k m kept word).answer.core.stage.phase;
      }
  phase_goes true (phase.Data end left) at settled here = absurd (true≢false settled)
  phase_goes false (phase.Data end left) at settled here =
      record {
        standing = false;
        leads = piece_booked here;
        settled = settled_always (in_phase (phase.Data end left) k m word).answer.core.stage.phase;
      }
  phase_goes asks (phase.Echo n) at settled here = record { standing = asks; leads = none_booked here; settled = settled_echoing (n - 1) asks }

  word_goes : (asks : Bool) → Settled k.stage.phase asks → k.tally.totals ≡ totals_of k.dialect numbering a asks
      → Steps k.dialect numbering a asks (word_acts k m word) (word_step k m word).answer.core
  unfolding word_step word_acts
  word_goes asks settled here = phase_goes asks k.stage.phase refl settled here

-- a unit: the word that it ends, or nothing
module _ (numbering : Bool) (a : Account) (asks : Bool) (bus : Bus) (s : Session) (m : List ℕ) (u : ℕ) where
  abbrev word : ℕ
  word = pushed bus s.line.word u

  abbrev tested : Bool → Bool → Bool → Bool → Bool → UnitOutcome
  tested ended right start started short =
      pick ended (plainly refusal.Ended silence s m)
      (pick (not right) (plainly refusal.Memory silence s m)
      (pick start (plainly refusal.None (start_answer bus) (gathered s true s.line.have s.line.word) m)
      (pick (not started) (plainly refusal.None silence s m)
      (pick short (plainly refusal.None silence (gathered s true (s.line.have + 1) word) m)
      (carried s (word_step s.core m word))))))

  abbrev Onward : List Act → Core → Type 0
  Onward taken k = Steps s.core.dialect numbering a asks taken k

  by_tests : Onward [] s.core → Onward (word_acts s.core m word) (word_step s.core m word).answer.core
      → (ended right start started short : Bool)
      → Onward (pick (not ended && right && not start && started && not short) (word_acts s.core m word) [])
      (tested ended right start started short).answer.session.core
  unfolding pick carried
  by_tests stays goes true right start started short = stays
  by_tests stays goes false false start started short = stays
  by_tests stays goes false true true started short = stays
  by_tests stays goes false true false false short = stays
  by_tests stays goes false true false true true = stays
  by_tests stays goes false true false true false = goes

  unit_goes : Settled s.core.stage.phase asks → s.core.tally.totals ≡ totals_of s.core.dialect numbering a asks
      → Onward (unit_acts bus s m u) (unit_step bus s m u).answer.session.core
  unfolding unit_step ends_word
  unit_goes settled here =
      by_tests (record { standing = asks; leads = none_booked here; settled = settled }) (word_goes numbering a s.core m word asks settled here)
      s.core.ended (eqb (length m) (sum_of s.core.windows)) (is_start bus s u) s.line.started (ltb s.line.have (units_in_word bus - 1))

  -- the dialect stays
  unit_dialect : (unit_step bus s m u).answer.session.core.dialect ≡ s.core.dialect
  unfolding unit_step carried
  unit_dialect =
      let Same : UnitOutcome → Type 0 = λ o. o.answer.session.core.dialect ≡ s.core.dialect in
      of_choice Same _ (λ e. refl) (λ e. of_choice Same _ (λ e. refl) (λ e. of_choice Same _ (λ e. refl) (λ e. of_choice Same _ (λ e. refl)
      (λ e. of_choice Same _ (λ e. refl) (λ e. (every_word s.core m word).dialect)))))

-- a fill or a setting that is accepted was granted
module _ (k : Core) (number : ℕ) where
  done_listed : (t : Totals) (first judged : Judged) (checksum fed : ℕ) (told : Event) (effect : ℕ → Effect) → Numbered first
      → ((q : Refusal) → first ≡ Err q → judged ≡ Err q)
      → accepted (after k t (done_if judged checksum told fed)).refusal ≡ true
      → numbers_in (judged_one number first effect) ≡ number ∷ []
  unfolding numbers_in after
  done_listed t (Ok place) judged checksum fed told effect is refuses e = refl
  done_listed t (Err q) judged checksum fed told effect is refuses e =
      let same = refuses q refl in
      let refused : (after k t (done_if judged checksum told fed)).refusal ≡ Some q =
      ap (λ (j : Judged). (after k t (done_if j checksum told fed)).refusal) same
      ∙ ap (λ (x : Taken). x.refusal) (passed (eqb (number_of q) 0) _ _ (ne_eqb _ _ is)) in
      absurd (is (sym (ap code_of refused) ∙ eqb-true _ _ e))

-- what is refused before a later test stays refused
barred_first : (test : Bool) (later : Refusal) (j : Judged) (q : Refusal) → j ≡ Err q → barred test later j ≡ Err q
barred_first test later j q e = ap (barred test later) e

module _ (a : Account) (k : Core) (m : List ℕ) (word : ℕ) (here : k.tally.totals.next ≡ a.now.numbers + 1) where
  last_told : (c : Command) (kept : Kept) → accepted (performed c k m kept word).answer.refusal ≡ true
      → numbers_in (last_word c k kept word) ≡ numbers_told a (done_acts c kept word)
  unfolding numbers_in numbers_told fill_done setting_done
  last_told command.Load kept e = refl
  last_told command.Fill kept e =
      let first : Judged = fill_judged k.windows kept.first kept.second kept.third in
      done_listed k k.tally.totals.next (counted_on k kept.second) first _ _ _ _ (λ place. fill_effect place kept.second (unit_of kept.third) word)
      (fill_passes _ code-numbers k.windows kept.first kept.second kept.third)
      (λ q r. barred_first (is_spent k.tally.totals) why.Number _ q
      (barred_first (would_pass k.dialect k.tally.totals kept.second) why.Overflow first q r)) e
      ∙ ap (λ (number : ℕ). number ∷ []) here
  last_told command.BootTable kept e =
      let first : Judged = setting_judged k.windows kept.first kept.second kept.third in
      done_listed k k.tally.totals.next (setting_totals k) first _ _ _ _ (λ place. setting_effect place (shape_of kept.first) kept.third)
      (setting_passes _ code-numbers k.windows kept.first kept.second kept.third)
      (λ q r. barred_first (is_spent k.tally.totals) why.Number first q r) e
      ∙ ap (λ (number : ℕ). number ∷ []) here
  last_told command.Enable kept e = refl
  last_told command.Disable kept e = refl
  last_told command.Request kept e = refl
  last_told command.StartOver kept e = refl
  last_told command.JumpAndClose kept e = refl
  last_told command.Ping kept e = refl
  last_told command.SequentialRead kept e = refl

  opcode_told : {found : Result Known Refusal} → Looked found → [] ≡ numbers_told a (opcode_acts found)
  unfolding numbers_told pick
  opcode_told of_none = refl
  opcode_told of_retired = refl
  opcode_told (of_row f) = none f.command
    where
      none : (c : Command) → [] ≡ numbers_told a (opcode_act c ∷ [])
      none command.Load = refl
      none command.Fill = refl
      none command.BootTable = refl
      none command.Enable = refl
      none command.Disable = refl
      none command.Request = refl
      none command.StartOver = refl
      none command.JumpAndClose = refl
      none command.Ping = refl
      none command.SequentialRead = refl

  argument_told : (last : Bool) (c : Command) (kept : Kept) (o : WordOutcome) → accepted (pick last (performed c k m kept word) o).answer.refusal ≡ true
      → numbers_in (pick last (last_word c k kept word) []) ≡ numbers_told a (pick last (done_acts c kept word) [])
  unfolding pick numbers_in numbers_told
  argument_told true c kept o e = last_told c kept e
  argument_told false c kept o e = refl

  phase_told : (p : Phase) → accepted (in_phase p k m word).answer.refusal ≡ true
      → numbers_in (accepted_word p k word) ≡ numbers_told a (phase_acts p k.dialect word)
  unfolding numbers_in numbers_told pick
  phase_told phase.Opcode e = opcode_told (looked word Sent k.dialect)
  phase_told (phase.Argument c left kept) e = argument_told (eqb (left - 1) 0) c kept _ e
  phase_told (phase.Data end left) e = ap (λ (number : ℕ). number ∷ []) (omega (arith, here))
  phase_told (phase.Echo n) e = refl

  word_told : numbers_in (word_history k m word) ≡ numbers_told a (word_acts k m word)
  unfolding word_history word_acts word_step numbers_in numbers_told
  word_told =
      by_test (accepted (in_phase k.stage.phase k m word).answer.refusal)
      (λ e. ap numbers_in (chosen _ _ [] e) ∙ phase_told k.stage.phase e ∙ sym (ap (numbers_told a) (chosen _ _ [] e)))
      (λ e. ap numbers_in (passed _ _ [] e) ∙ sym (ap (numbers_told a) (passed _ _ [] e)))

unit_told : (a : Account) (bus : Bus) (s : Session) (m : List ℕ) (u : ℕ) → s.core.tally.totals.next ≡ a.now.numbers + 1
    → numbers_in (unit_history bus (record { session = s; memory = m }) u) ≡ numbers_told a (unit_acts bus s m u)
unfolding numbers_in numbers_told
unit_told a bus s m u here =
    by_test (ends_word bus s m u)
    (λ e. ap numbers_in (chosen _ _ [] e)
    ∙ word_told a s.core m (pushed bus s.line.word u) here
    ∙ sym (ap (numbers_told a) (chosen _ _ [] e)))
    (λ e. ap numbers_in (passed _ _ [] e) ∙ sym (ap (numbers_told a) (passed _ _ [] e)))

-- a session whose totals are those of an account
record Stands (numbering : Bool) (a : Account) (asks : Bool) (s : Session) : Type 0 where
  totals : s.core.tally.totals ≡ totals_of s.core.dialect numbering a asks
  settled : Settled s.core.stage.phase asks

-- every opening begins an account
nothing_yet : (d : Dialect) → at_opening ≡ totals_of d false the-account.opened false
nothing_yet Am17xx = refl
nothing_yet Dm648 = refl

abbrev Begins : Bool → Opened → Type 0
Begins numbering o = Stands (numbering && accepted o.refusal) the-account.opened false o.session

plain_begins : (bus : Bus) (dialect : Dialect) (count : ℕ) (windows : List Window) → Begins false (opened_by bus dialect count windows)
unfolding opened_by
plain_begins bus dialect count windows =
    of_choice (Begins false) _ (λ e. record { totals = refl; settled = tt }) (λ e. record { totals = nothing_yet dialect; settled = tt })

numbering_begins : (o : Opened) → Begins false o → Begins true (numbering_from o)
unfolding numbering_from
numbering_begins o plain =
    let from : Bool → Totals = λ numbering. totals_of o.session.core.dialect numbering the-account.opened false in
    of_choice (Begins true) (accepted o.refusal) {b = o}
    (λ e. record { totals = ap from_one plain.totals ∙ ap from (sym e); settled = plain.settled })
    (λ e. record { totals = plain.totals ∙ ap from (sym e); settled = plain.settled })

-- every opening begins an account, and every unit leads on from there
record Led (numbering : Bool) (s : Session) (taken : List Act) : Type 0 where
  asks : Bool
  leads : Leads s.core.dialect numbering the-account.opened false taken s.core.tally.totals asks
  settled : Settled s.core.stage.phase asks

every_opening : (numbers : Bool) (bus : Bus) (dialect : Dialect) (count : ℕ) (windows : List Window)
    → Begins numbers (opened_to numbers bus dialect count windows)
unfolding pick
every_opening false bus dialect count windows = plain_begins bus dialect count windows
every_opening true bus dialect count windows = numbering_begins (opened_by bus dialect count windows) (plain_begins bus dialect count windows)

unit_led : (numbering : Bool) (bus : Bus) (s : Session) (m : List ℕ) (u : ℕ) (taken : List Act) (led : Led numbering s taken)
    → Steps s.core.dialect numbering led.leads.there led.asks (unit_acts bus s m u) (unit_step bus s m u).answer.session.core
unit_led numbering bus s m u taken led =
    unit_goes numbering led.leads.there led.asks bus s m u led.settled led.leads.totals

reached_led : {bus : Bus} {s : Session} (reached : Reached bus s) → Led (numbers reached) s (acts_of reached)
unfolding acts_of
reached_led {bus} (opened numbers dialect count windows) =
    let start = every_opening numbers bus dialect count windows in
    record { asks = false; leads = none_booked start.totals; settled = start.settled }
reached_led {bus} (stepped {s} m u before) =
    let led = reached_led before in
    let steps = unit_led (numbers before) bus s m u (acts_of before) led in
    record {
      asks = steps.standing;
      leads =
          subst (λ (d : Dialect). Leads d (numbers before) the-account.opened false (acts_of before ++ unit_acts bus s m u)
          (unit_step bus s m u).answer.session.core.tally.totals steps.standing)
          (sym (unit_dialect (numbers before) led.leads.there led.asks bus s m u)) (leads_on led.leads steps.leads);
      settled = steps.settled;
    }

reached_told : {bus : Bus} {s : Session} (reached : Reached bus s) → numbers reached ≡ true
    → numbers_in (history_of reached) ≡ numbers_told the-account.opened (acts_of reached)
unfolding acts_of history_of numbers_in numbers_told
reached_told (opened numbers dialect count windows) numbered = refl
reached_told {bus} (stepped {s} m u before) numbered =
    let led = reached_led before in
    let steps = unit_led (numbers before) bus s m u (acts_of before) led in
    let here : s.core.tally.totals.next ≡ led.leads.there.now.numbers + 1 =
    ap (λ (t : Totals). t.next) led.leads.totals ∙ ap (λ (n : Bool). next_of n led.leads.there.now.numbers) numbered in
    numbers_both (history_of before) (unit_history bus (record { session = s; memory = m }) u)
    ∙ ap₂ ◌++◌ (reached_told before numbered) (unit_told led.leads.there bus s m u here)
    ∙ sym (told_both led.leads steps.leads)

pub on_line : OnLine
on_line bus s reached =
    let led = reached_led reached in
    let all = sym (all_counted led.leads) in
    record {
      totals = ap (λ (t : Totals). t.now) led.leads.totals ∙ ap (λ (b : Account). standing_of s.core.dialect b.now) all;
      next = ap (λ (t : Totals). t.next) led.leads.totals ∙ ap (λ (b : Account). next_of (numbers reached) b.now.numbers) all;
      told = reached_told reached;
    }

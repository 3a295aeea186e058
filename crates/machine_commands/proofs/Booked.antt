-- A load, a fill and a setting are judged: granted they count, refused they leave the totals, and the refusal has a number. No other command touches them.
use Rattle.std.specs.Prelude.{Ok, Err}
use Prim.Native.Nat.{ℕ}
use mathlib.Core.Bool.{Bool, true, false, true≢false}
use mathlib.Core.List.{List, [], ◌∷◌}
use mathlib.Core.Logic.{◌≢◌}
use mathlib.Core.Path.{◌≡◌, refl, sym, subst, ◌∙◌}
use lib.Dec.{eqb}
use borrow.Author.Tests.{ne_eqb}
use Rattle.words.specs.rules.Choice.{pick}
use Rattle.words.proofs.Choice.{passed, of_choice}
use Rattle.std.specs.Prelude.{Some}
use Rattle.opcodes.specs.rules.Answers.{number_of, code_of}
use Rattle.opcodes.specs.declared.Command.TheVariants as command
use Rattle.opcodes.specs.declared.Event.{Event}
use Rattle.opcodes.specs.declared.Refusal.TheVariants as why
use Rattle.opcodes.specs.rules.Refusals.{Verdict}
use Rattle.ledger.specs.rules.Totals.{is_spent}
use Rattle.ledger.specs.claims.Account.{Act, section, load, setting, Account}
use Rattle.ledger.specs.claims.Booked.{totals_of, Leads}
use Rattle.ledger.specs.declared.Happening.TheVariants as happening
use Rattle.ledger.specs.declared.Totals.{Totals}
use Rattle.ledger.proofs.Booked.{none_booked, happened_booked, load_booked}
use Rattle.commands.specs.rules.Commands.{done_if, load_judged, fill_judged, fill_done, setting_judged, setting_done, Judged}
use Rattle.commands.specs.declared.Done.{Done}
use Rattle.commands.proofs.Judging.{granted_before, load_passes, fill_passes, setting_passes}
use Rattle.machine_answers.specs.rules.Answers.{after, entered}
use Rattle.machine_answers.specs.rules.Counts.{counted_on, out_of_numbers, overflowing}
use Rattle.machine_loads.specs.rules.Loads.{load_begun}
use Rattle.machine_loads.proofs.Granted.{Numbered, numbers, last_numbered, section_numbered, section_counts}
use Rattle.machine_commands.specs.rules.Performed.{setting_totals}
use Rattle.machine_commands.specs.claims.Booked.{CommandsBooked}
use Rattle.machine_answers.specs.declared.Core.{Core}
use Rattle.machine_answers.specs.declared.Taken.{Taken}

module _ (k : Core) (numbering : Bool) (a : Account) (here : k.tally.totals ≡ totals_of k.dialect numbering a false) where
  -- an answer goes on with the account, some acts being those of a command that is accepted
  abbrev Booked : List Act → Taken → Type 0
  Booked acts t = Leads k.dialect numbering a false (pick (eqb (code_of t.refusal) 0) acts []) t.core.tally.totals false

  -- one that leaves the totals, of a command that is no act by now; and one that is refused
  no_act : (test : Bool) → Leads k.dialect numbering a false (pick test [] []) k.tally.totals false
  unfolding pick
  no_act true = none_booked here
  no_act false = none_booked here

  refused_booked : (acts : List Act) (q : Verdict) → code_of q ≢ 0
      → Leads k.dialect numbering a false (pick (eqb (code_of q) 0) acts []) k.tally.totals false
  refused_booked acts q is =
      subst (λ (l : List Act). Leads k.dialect numbering a false l k.tally.totals false) (sym (passed _ acts [] (ne_eqb _ _ is))) (none_booked here)

  -- a load at its size word
  load_at : (address size : ℕ) (judged : Judged) → Numbered judged
      → ((place : ℕ) → judged ≡ Ok place → Leads k.dialect numbering a false (load size ∷ []) (counted_on k size) false)
      → Booked (load size ∷ []) (load_begun k address size judged)
  unfolding pick
  load_at address size (Ok place) is counts = counts place refl
  load_at address size (Err q) is counts = refused_booked (load size ∷ []) (Some q) is

  -- a command that was judged and done
  done_at : (acts : List Act) (t : Totals) (judged : Judged) (checksum fed : ℕ) (told : Event) → Numbered judged
      → ((place : ℕ) → judged ≡ Ok place → Leads k.dialect numbering a false acts t false)
      → Booked acts (after k t (done_if judged checksum told fed))
  unfolding after pick
  done_at acts t (Ok place) checksum fed told is counts = counts place refl
  done_at acts t (Err q) checksum fed told is counts =
      of_choice (Booked acts) (eqb (number_of q) 0) (λ e. absurd (true≢false (sym e ∙ ne_eqb _ _ is))) (λ e. refused_booked acts (Some q) is)

  -- Jump & Close, which is an act at its opcode: whether it enters or not
  after_totals : (done : Done) → (after k k.tally.totals done).core.tally.totals ≡ k.tally.totals
  unfolding after
  after_totals done = of_choice (λ (t : Taken). t.core.tally.totals ≡ k.tally.totals) _ (λ e. refl) (λ e. refl)

  entered_totals : (t : Taken) → (entered t).core.tally.totals ≡ t.core.tally.totals
  unfolding entered
  entered_totals t = of_choice (λ (x : Taken). x.core.tally.totals ≡ t.core.tally.totals) _ {b = t} (λ e. refl) (λ e. refl)

  closed_at : (done : Done) → Booked [] (entered (after k k.tally.totals done))
  closed_at done =
      let t : Taken = entered (after k k.tally.totals done) in
      subst (λ (u : Totals). Leads k.dialect numbering a false (pick (eqb (code_of t.refusal) 0) [] []) u false)
      (sym (entered_totals (after k k.tally.totals done) ∙ after_totals done)) (no_act (eqb (code_of t.refusal) 0))

pub commands_booked : CommandsBooked
unfolding pick fill_done setting_done
commands_booked command.Load k m kept word numbering a here =
    let judged : Judged = load_judged k.windows kept.third word in
    load_at k numbering a here kept.third word (out_of_numbers k (overflowing k word judged))
    (section_numbered k word judged (load_passes _ numbers k.windows kept.third word))
    (λ place granted.
    let counts = section_counts k word judged place granted in
    load_booked word here (counts.fits, counts.unspent))
commands_booked command.Fill k m kept word numbering a here =
    let judged : Judged = fill_judged k.windows kept.first kept.second kept.third in
    done_at k numbering a here (section kept.second ∷ []) (counted_on k kept.second) (out_of_numbers k (overflowing k kept.second judged)) _ _ _
    (section_numbered k kept.second judged (fill_passes _ numbers k.windows kept.first kept.second kept.third))
    (λ place granted.
    let counts = section_counts k kept.second judged place granted in
    happened_booked (happening.Section kept.second) here (counts.fits, counts.unspent))
commands_booked command.BootTable k m kept word numbering a here =
    let judged : Judged = setting_judged k.windows kept.first kept.second kept.third in
    done_at k numbering a here (setting ∷ []) (setting_totals k) (out_of_numbers k judged) _ _ _
    (last_numbered k judged (setting_passes _ numbers k.windows kept.first kept.second kept.third))
    (λ place granted. happened_booked happening.Setting here (granted_before (is_spent k.tally.totals) why.Number judged place granted).0)
commands_booked command.Enable k m kept word numbering a here = no_act k numbering a here true
commands_booked command.Disable k m kept word numbering a here = no_act k numbering a here true
commands_booked command.Request k m kept word numbering a here = no_act k numbering a here true
commands_booked command.StartOver k m kept word numbering a here = no_act k numbering a here true
commands_booked command.JumpAndClose k m kept word numbering a here = closed_at k numbering a here _
commands_booked command.Ping k m kept word numbering a here = no_act k numbering a here true
commands_booked command.SequentialRead k m kept word numbering a here = no_act k numbering a here false

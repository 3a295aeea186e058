-- What an opening says of every session that it leads to: it holds at the opening, and every unit keeps it.
use Prim.Native.Nat.{ℕ}
use mathlib.Core.Bool.{Bool, true, false, false≢true}
use mathlib.Core.List.{List, [], ◌∷◌}
use mathlib.Core.Path.{◌≡◌, refl, sym, ap, ◌∙◌}
use borrow.Author.Tests.{eq-eqb}
use Rattle.words.specs.rules.Choice.{pick}
use Rattle.words.proofs.Choice.{of_choice}
use Rattle.windows.specs.declared.Window.{Window}
use Rattle.opcodes.specs.rules.Answers.{accepted, code_of}
use Rattle.opcodes.specs.declared.Dialect.{Dialect}
use Rattle.opcodes.specs.declared.Dialect.TheVariants.{Am17xx}
use Rattle.opcodes.specs.rules.Refusals.{None}
use Rattle.ledger.specs.claims.Agreement.{Zero}
use Rattle.machine_answers.specs.declared.Phase.TheVariants as phase
use Rattle.machine.specs.claims.Wrote.{KeepsNumbers}
use Rattle.machine.proofs.Wrote.{tells_by_number}
use Rattle.sent.specs.rules.Feeding.{fed}
use Rattle.sent.specs.rules.Line.{UnitOutcome, carried, unit_step}
use Rattle.sent.specs.rules.Opening.{opened_by, from_one_on, numbering_from}
use Rattle.sent.specs.declared.Bus.{Bus}
use Rattle.sent.specs.declared.Opened.{Opened}
use Rattle.sent.specs.declared.Session.{Session}
use Rattle.sent.proofs.Counting.{units_count}
use Rattle.sent_laws.specs.claims.Opening.{SinceOpening}
use Rattle.sent_laws.specs.claims.Reached.{opened_to, Reached, opened, stepped, opening_of, numbering}
use Rattle.sent_laws.proofs.Reached.{stays_sound}

module _ (bus : Bus) where
  -- the totals of an opening are 0
  abbrev Nothing : Opened → Type 0
  Nothing o = Zero o.session.core.tally.totals

  opened_zero : (dialect : Dialect) (count : ℕ) (windows : List Window) → Nothing (opened_by bus dialect count windows)
  unfolding opened_by
  opened_zero dialect count windows = of_choice Nothing _ (λ h. (refl, refl)) (λ h. (refl, refl))

  numbering_zero : (o : Opened) → Nothing o → Nothing (numbering_from o)
  unfolding numbering_from
  numbering_zero o zero = of_choice Nothing _ (λ h. zero) (λ h. zero)

  opening_zero : (numbers : Bool) (dialect : Dialect) (count : ℕ) (windows : List Window) → Nothing (opened_to numbers bus dialect count windows)
  unfolding pick
  opening_zero true dialect count windows = numbering_zero (opened_by bus dialect count windows) (opened_zero dialect count windows)
  opening_zero false dialect count windows = opened_zero dialect count windows

  reached_zero : {s : Session} → Reached bus s → s.core.dialect ≡ Am17xx → Zero s.core.tally.totals
  unfolding fed
  reached_zero (opened numbers dialect count windows) am = opening_zero numbers dialect count windows
  reached_zero (stepped {s} m u before) am =
      let earlier : s.core.dialect ≡ Am17xx =
      (stays_sound bus s before).same_dialect ∙ sym (stays_sound bus _ (stepped m u before)).same_dialect ∙ am in
      units_count.stays_zero bus (record { session = s; memory = m }) (u ∷ []) earlier (reached_zero before earlier)

  -- an opening that is not refused and numbers
  opened_opcode : (dialect : Dialect) (count : ℕ) (windows : List Window) → (opened_by bus dialect count windows).session.core.stage.phase ≡ phase.Opcode
  unfolding opened_by
  opened_opcode dialect count windows = of_choice (λ (o : Opened). o.session.core.stage.phase ≡ phase.Opcode) _ (λ h. refl) (λ h. refl)

  abbrev KeepsIf : Opened → Type 0
  KeepsIf o = o.refusal ≡ None → KeepsNumbers o.session.core

  numbering_keeps : (o : Opened) → o.session.core.stage.phase ≡ phase.Opcode → KeepsIf (numbering_from o)
  unfolding numbering_from
  numbering_keeps o awaits =
      of_choice KeepsIf (accepted o.refusal) {a = record { refusal = o.refusal; reply = o.reply; session = from_one_on o.session }} {b = o}
      (λ h e. tells_by_number.opens o.session.core awaits)
      (λ refused e. absurd (false≢true (sym refused ∙ eq-eqb _ _ (ap code_of e))))

  -- a unit that is no whole word leaves the core
  unit_keeps : (s : Session) (m : List ℕ) (u : ℕ) → KeepsNumbers s.core → KeepsNumbers (unit_step bus s m u).answer.session.core
  unfolding unit_step carried
  unit_keeps s m u keeps =
      let Keeps : UnitOutcome → Type 0 = λ o. KeepsNumbers o.answer.session.core in
      of_choice Keeps _ (λ h. keeps)
      (λ h. of_choice Keeps _ (λ h. keeps)
      (λ h. of_choice Keeps _ (λ h. keeps)
      (λ h. of_choice Keeps _ (λ h. keeps)
      (λ h. of_choice Keeps _ (λ h. keeps) (λ h. (tells_by_number.words s.core m _).goes_on keeps)))))

  reached_keeps : {s : Session} (reached : Reached bus s) → numbering reached ≡ true → (opening_of reached).refusal ≡ None → KeepsNumbers s.core
  unfolding pick
  reached_keeps (opened true dialect count windows) e sound = numbering_keeps (opened_by bus dialect count windows) (opened_opcode dialect count windows) sound
  reached_keeps (opened false dialect count windows) e sound = absurd (false≢true e)
  reached_keeps (stepped {s} m u before) e sound = unit_keeps s m u (reached_keeps before e sound)

  pub since-opening : SinceOpening bus
  since-opening = record { zero = λ s reached am. reached_zero reached am; numbers = λ s reached e sound. reached_keeps reached e sound }

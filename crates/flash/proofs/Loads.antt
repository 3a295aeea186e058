-- The way of a load, by the cases of its judgement: refused it has fetched what was met, granted it is looked for its data and for a number.
use Prim.Native.Nat.{ℕ, ◌+◌}
use mathlib.Core.Bool.{false}
use mathlib.Core.List.{List}
use mathlib.Core.Path.{◌≡◌, refl}
use native.Mathlib.Omega.{arith}
use borrow.Author.Tests.{not-false}
use Rattle.words.proofs.Choice.{of_choice}
use Rattle.opcodes.specs.declared.Command.TheVariants.{Load}
use Rattle.opcodes.specs.rules.Refusals as refusal
use Rattle.ledger.specs.rules.Totals.{would_pass}
use Rattle.reading.specs.rules.Reading.{past_words, argument}
use Rattle.reading.proofs.Reading.{are_there}
use Rattle.commands.specs.rules.Commands.{judged_code, Judged}
use Rattle.flash_commands.specs.claims.Commands.{Ready, gone}
use Rattle.flash_commands.specs.claims.Ways.{data_words_of, Call}
use Rattle.flash_session.specs.rules.Sessions.{CallOutcome}
use Rattle.flash_session.specs.declared.Session.{Session}
use Rattle.flash_commands.proofs.Verdicts.{ends, Judges, grants, denies, load_judges, test_failed}
use Rattle.flash_commands.proofs.Ways.{counted_both, goes_on, denied, section_judges, read, all_met}
use Rattle.flash.specs.claims.Loads.{EveryLoad}
use Rattle.flash.specs.rules.Step.{load_at, load_judged_as}

module _ (s : Session) (m image : List ℕ) where
  load_call : {n : ℕ} {j : Judged} (ready : Ready s image Load n) → Judges j
      → (judged_code j ≡ 0 → would_pass s.dialect s.totals (argument image s.offset 1) ≡ false)
      → Call s image
      (load_judged_as (gone s n) m image (past_words s.offset n) (argument image s.offset 0) (argument image s.offset 1) j).answer
  unfolding load_at
  load_call {n} ready grants fits =
      let Answered : CallOutcome → Type 0 = λ o. Call s image o.answer in
      let Met-all = all_met s image ready in
      of_choice Answered _ (λ e. denied s image ready.running (1 + n) Met-all refusal.Missing (ends refusal.Missing refl))
      (λ e. of_choice Answered _ (λ spent. denied s image ready.running (1 + n) Met-all refusal.Number (ends refusal.Number refl))
      (λ unspent. goes_on s image ready.running (λ z. omega arith)
      (read s image ready (1 + n + data_words_of Load s image) refl (omega (arith, are_there image _ _ (not-false _ e)))) (omega arith)
      (counted_both s.fetched (1 + n) _) (fits refl, unspent)))
  load_call {n} ready (denies e) fits = denied s image ready.running (1 + n) (all_met s image ready) _ e

pub every_load : EveryLoad
every_load s m image n ready =
    let judges = load_judges s.windows _ _ in
    load_call s m image ready (section_judges s image _ judges) (test_failed _ (ends refusal.Overflow refl) judges)

-- The order of a close's numbers: an answer has the number of its judgement, and a judgement that was refused is kept by what comes after it.
use Rattle.opcodes.specs.declared.Refusal.{Refusal}
use Prim.Native.Nat.{ℕ, ◌<◌}
use mathlib.Core.Bool.{Bool, true}
use mathlib.Core.Path.{◌≡◌, refl, sym, ap, ◌∙◌}
use native.Mathlib.Omega.{arith}
use borrow.Author.Tests.{eqb-true}
use Rattle.words.proofs.Choice.{chosen, of_choice}
use Rattle.opcodes.specs.rules.Answers.{accepted, code_of, number_of}
use Rattle.ledger.specs.declared.Happening.{Happening}
use Rattle.commands.specs.rules.Commands.{judged_code, barred, Judged}
use Rattle.commands.specs.declared.Done.{Done}
use Rattle.commands.specs.declared.Wrote.{Wrote}
use Rattle.flash_session.specs.rules.Sessions.{go_to, stopped, accepted_as, after}
use Rattle.flash_session.specs.declared.Called.{Called}
use Rattle.flash_session.specs.declared.Session.{Session}
use Rattle.flash_commands.specs.claims.Order.{OrderOfAClose}
use Rattle.flash_commands.proofs.Verdicts.{Judges, grants, denies, entry_judges, close_number}

-- the number of an answer
after_number : (s : Session) (happened : Happening) (wrote : Wrote) (done : Done) (next : ℕ)
    → code_of (after s happened wrote done next).refusal ≡ code_of done.refusal
unfolding after
after_number s happened wrote done next =
    of_choice (λ (a : Called). code_of a.refusal ≡ code_of done.refusal) (accepted done.refusal)
    {a = accepted_as s happened wrote done.event (go_to s done.checksum next)} {b = stopped done.refusal s}
    (λ accepts. sym (eqb-true _ _ accepts)) (λ refuses. refl)

-- what was refused keeps its number, what was granted gets the later one where its test holds
refused_stays : (test : Bool) (q : Refusal) {j : Judged} {n : ℕ} → Judges j → 0 < n → judged_code j ≡ n → judged_code (barred test q j) ≡ n
refused_stays test q grants some e = absurd (omega arith)
refused_stays test q (denies wrong) some e = e

granted_barred : (q : Refusal) {test : Bool} {j : Judged} → Judges j → judged_code j ≡ 0 → test ≡ true → judged_code (barred test q j) ≡ number_of q
granted_barred q grants e holds = ap judged_code (chosen _ _ _ holds)
granted_barred q (denies wrong) e holds = absurd (wrong.refused e)

pub order_of_a_close : OrderOfAClose
order_of_a_close s next address sections bytes =
    let judges = entry_judges s.windows address in
    record {
      entry = λ e. after_number s _ _ _ next ∙ close_number _ _ _ ∙ refused_stays _ _ judges (omega arith) e;
      totals = λ e differ. after_number s _ _ _ next ∙ close_number _ _ _ ∙ granted_barred _ judges e differ;
    }

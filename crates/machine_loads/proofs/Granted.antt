-- A load or a command done at its last argument word that is not refused was granted: what is judged refused has a refusal's number.
use Rattle.std.specs.Prelude.{Ok, Err}
use Prim.Native.Nat.{ℕ}
use mathlib.Core.Bool.{Bool, false}
use mathlib.Core.Logic.{◌≢◌}
use mathlib.Core.Path.{◌≡◌, refl, sym, ap, ◌∙◌}
use lib.Dec.{eqb}
use borrow.Author.Tests.{eqb-false}
use Rattle.words.proofs.Choice.{passed}
use Rattle.std.specs.Prelude.{Some}
use Rattle.opcodes.specs.rules.Answers.{number_of, accepted}
use Rattle.opcodes.specs.declared.Refusal.{Refusal}
use Rattle.opcodes.proofs.Verdicts.{refused_not}
use Rattle.opcodes.specs.declared.Event.{Event}
use Rattle.opcodes.specs.declared.Refusal.TheVariants as why
use Rattle.opcodes.specs.rules.Refusals as refusal
use Rattle.ledger.specs.rules.Totals.{would_pass, is_spent}
use Rattle.ledger.specs.declared.Totals.{Totals}
use Rattle.commands.specs.rules.Commands.{done_if, barred, Judged}
use Rattle.commands.proofs.Judging.{EachRefusal, Passes, barred_passes, granted_before}
use Rattle.machine_answers.specs.rules.Answers.{after}
use Rattle.machine_answers.specs.rules.Counts.{out_of_numbers, overflowing}
use Rattle.machine_loads.specs.rules.Loads.{load_begun}
use Rattle.machine_answers.specs.declared.Core.{Core}
use Rattle.machine_answers.specs.declared.Taken.{Taken}

-- a command has a place
pub record GrantedAt (judged : Judged) : Type 0 where
  pub place : ℕ
  pub granted : judged ≡ Ok place

-- what is judged refused has a refusal's number
abbrev pub Numbered : Judged → Type 0
Numbered j = Passes (λ (q : Refusal). number_of q ≢ 0) j

pub numbers : EachRefusal (λ (q : Refusal). number_of q ≢ 0)
numbers =
    record {
      type-word = eqb-false 8 0 refl;
      too_wide = eqb-false 16 0 refl;
      unaligned = eqb-false 9 0 refl;
      range = eqb-false 7 0 refl;
      entry = eqb-false 10 0 refl;
    }

-- 25 is one, and 18
pub last_numbered : (k : Core) (judged : Judged) → Numbered judged → Numbered (out_of_numbers k judged)
last_numbered k judged h = barred_passes (λ (q : Refusal). number_of q ≢ 0) _ why.Number judged (eqb-false 25 0 refl) h

pub section_numbered : (k : Core) (size : ℕ) (judged : Judged) → Numbered judged → Numbered (out_of_numbers k (overflowing k size judged))
section_numbered k size judged h =
    let passes : Bool = would_pass k.dialect k.tally.totals size in
    last_numbered k (barred passes why.Overflow judged)
    (barred_passes (λ (q : Refusal). number_of q ≢ 0) passes why.Overflow judged (eqb-false 18 0 refl) h)

-- what is granted after them was granted before, took no total past the largest and found a number
pub record Counts (k : Core) (size : ℕ) (judged : Judged) (place : ℕ) : Type 0 where
  pub granted : judged ≡ Ok place
  pub fits : would_pass k.dialect k.tally.totals size ≡ false
  pub unspent : is_spent k.tally.totals ≡ false

pub section_counts : (k : Core) (size : ℕ) (judged : Judged) (place : ℕ) → out_of_numbers k (overflowing k size judged) ≡ Ok place
    → Counts k size judged place
section_counts k size judged place e =
    let last = granted_before (is_spent k.tally.totals) why.Number _ place e in
    let first = granted_before (would_pass k.dialect k.tally.totals size) why.Overflow judged place last.1 in
    record { granted = first.1; fits = first.0; unspent = last.0 }

some_is_none : (q : Refusal) → Some q ≡ refusal.None → ⊥
some_is_none q e = cc

pub load_not_refused : (k : Core) (address size : ℕ) (judged : Judged) → Numbered judged → (load_begun k address size judged).refusal ≡ refusal.None
    → GrantedAt judged
load_not_refused k address size (Ok place) h e = record { place = place; granted = refl }
load_not_refused k address size (Err q) h e = absurd (some_is_none q e)

pub done_not_refused : (k : Core) (totals : Totals) (judged : Judged) (checksum : ℕ) (event : Event) (fed : ℕ) → Numbered judged
    → (after k totals (done_if judged checksum event fed)).refusal ≡ refusal.None → GrantedAt judged
unfolding after
done_not_refused k totals (Ok place) checksum event fed h e = record { place = place; granted = refl }
done_not_refused k totals (Err q) checksum event fed h e =
    absurd (some_is_none q (sym (ap (λ (t : Taken). t.refusal) (passed (accepted (Some q)) _ _ (refused_not q))) ∙ e))

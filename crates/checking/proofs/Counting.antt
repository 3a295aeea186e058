-- The words told are within the ceiling: for an image by the law of a run, and what is no image is refused at the opening with nothing fetched.
use Prim.Native.Nat.{ℕ, ◌/◌, ◌≤◌}
use mathlib.Core.Bool.{false, true≢false}
use mathlib.Core.List.{List}
use mathlib.Core.Path.{◌≡◌, refl, sym, ap, subst, ◌∙◌}
use native.Mathlib.Omega.{arith}
use lib.Dec.{eqb}
use lib.ListN.{length}
use borrow.Author.Tests.{not-false}
use Rattle.words.proofs.Choice.{chosen, passed, by_test, of_choice}
use Rattle.opcodes.specs.rules.Answers.{code_of}
use Rattle.opcodes.specs.rules.Refusals.{Verdict}
use Rattle.opcodes.specs.rules.Refusals.{Map, Image}
use Rattle.opcodes.specs.declared.Dialect.TheVariants.{Am17xx}
use Rattle.flash_session.specs.rules.Opening.{good_length, refused_by, opened_by}
use Rattle.flash_session.specs.rules.Sessions.{CallOutcome}
use Rattle.flash_session.specs.declared.Opened.{Opened}
use Rattle.flash_runs.specs.claims.Ceiling.{ceiling}
use Rattle.flash_runs.specs.rules.Run.{ran_from}
use Rattle.flash_runs.proofs.Ceiling.{opened_within, ran_within}
use Rattle.checking.specs.claims.Counting.{WithinCeiling}
use Rattle.checking.specs.rules.Counting.{most_of, counted_of}
use Rattle.checking.specs.rules.Report.{windows, last_answer}

-- the last answer has fetched no more than the ceiling
answer_within : (image : List ℕ) (limit : ℕ)
    → (last_answer image (opened_by Am17xx 1 windows image limit)).session.fetched ≤ ceiling limit (length image / 4)
unfolding last_answer ran_from
answer_within image limit =
    of_choice (λ (o : CallOutcome). o.answer.session.fetched ≤ ceiling limit (length image / 4)) _
    (λ e. ran_within Am17xx 1 windows image limit _) (λ e. opened_within Am17xx 1 windows image limit)

-- what is refused at the opening before its first word is looked at has fetched none
refused_none : (image : List ℕ) (q : Verdict) → eqb (code_of q) 0 ≡ false → (last_answer image (refused_by q 0)).session.fetched ≡ 0
unfolding last_answer ran_from
refused_none image q e = ap (λ (o : CallOutcome). o.answer.session.fetched) (passed _ _ _ e)

no_image_none : (image : List ℕ) (limit : ℕ) → good_length (length image) ≡ false
    → (last_answer image (opened_by Am17xx 1 windows image limit)).session.fetched ≡ 0
unfolding opened_by
no_image_none image limit bad =
    let None : Opened → Type 0 = λ o. (last_answer image o).session.fetched ≡ 0 in
    of_choice None _ (λ e. refused_none image Map refl)
    (λ e. of_choice None _ (λ e. refused_none image Image refl) (λ sound. absurd (true≢false (sym (not-false _ sound) ∙ bad))))

pub within_ceiling : WithinCeiling
unfolding counted_of most_of
within_ceiling image limit =
    by_test (good_length (length image))
    (λ good.
    subst (λ (most : ℕ). (last_answer image (opened_by Am17xx 1 windows image limit)).session.fetched ≤ most) (sym (chosen _ _ _ good))
    (answer_within image limit))
    (λ bad. omega (arith, no_image_none image limit bad))

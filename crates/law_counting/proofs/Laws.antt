-- What is counted and what stood at the mark, act by act: without a retry each act adds, and without a mark the mark stays.
use mathlib.Core.Bool.{true, false, true≢false}
use mathlib.Core.List.{List, [], ◌∷◌, ◌++◌}
use mathlib.Core.Path.{◌≡◌, refl, sym, ap, ◌∙◌}
use Rattle.words.specs.rules.Choice.{pick}
use Rattle.words.proofs.Choice.{chosen, passed, of_choice}
use Rattle.ledger.specs.claims.Account.{Act, section, load, piece, setting, enable, asked, matched, retry, other, puts_back, marks, Account}
use Rattle.ledger.specs.claims.Account.{opened, booked, account}
use Rattle.law_counting.specs.claims.Laws.{NoRetry, summed, NoMark, AccountLaws}

sums : (a : Account) (acts : List Act) → NoRetry acts → (account a acts).now ≡ summed a.now acts
unfolding account NoRetry summed
sums a [] none = refl
sums a (act ∷ later) none =
    sums (booked a act later) later none.1
    ∙ ap (λ (b : Account). summed b.now later) (passed (puts_back act) _ _ none.0)

-- what does not mark leaves the mark, and so does a retry
mark_stays : (a : Account) (act : Act) (later : List Act) → marks act later ≡ false → (booked a act later).mark ≡ a.mark
mark_stays a act later none = of_choice (λ (b : Account). b.mark ≡ a.mark) (puts_back act) (λ e. refl) (λ e. passed (marks act later) _ _ none)

-- what marks is no retry
marks_only : (act : Act) (later : List Act) → marks act later ≡ true → puts_back act ≡ false
marks_only (section size) later e = refl
marks_only (load size) later e = refl
marks_only piece later e = refl
marks_only setting later e = refl
marks_only enable later e = refl
marks_only asked later e = refl
marks_only matched later e = refl
marks_only retry later e = absurd (true≢false (sym e))
marks_only other later e = refl

marks_now : (a : Account) (act : Act) (later : List Act) → marks act later ≡ true → (booked a act later).mark ≡ a.now
marks_now a act later e = ap (λ (b : Account). b.mark) (passed (puts_back act) _ _ (marks_only act later e)) ∙ chosen (marks act later) _ _ e

-- a retry goes back to the mark
to_mark : (a : Account) (between : List Act) → NoMark between → (account a (between ++ (retry ∷ []))).now ≡ a.mark
unfolding account NoMark pick
to_mark a [] none = refl
to_mark a (act ∷ later) none =
    to_mark (booked a act (later ++ (retry ∷ []))) later none.1 ∙ mark_stays a act (later ++ (retry ∷ [])) none.0

pub account_laws : AccountLaws
unfolding account
account_laws =
    record {
      sums = sums;
      back = λ a mark between e none.
          to_mark (booked a mark (between ++ (retry ∷ []))) between none ∙ marks_now a mark (between ++ (retry ∷ [])) e;
      from_opening = λ between none. to_mark opened between none;
    }

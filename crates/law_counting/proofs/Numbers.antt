-- The numbers of two histories, one after the other; and acts that lead on from acts.
use mathlib.Core.Bool.{Bool, true, false}
use mathlib.Core.List.{List, [], ◌∷◌, ◌++◌, append_assoc, append-nil}
use mathlib.Core.Path.{◌≡◌, refl, sym, ap, ◌∙◌}
use Prim.Native.Nat.{ℕ}
use Rattle.words.specs.rules.Choice.{pick}
use Rattle.opcodes.specs.declared.Dialect.{Dialect}
use Rattle.ledger.specs.claims.Account.{Act, Account, account, numbers_told}
use Rattle.ledger.specs.claims.Booked.{since, Leads}
use Rattle.ledger.specs.declared.Totals.{Totals}
use Rattle.bit_history.specs.claims.History.{Numbered}
use Rattle.law_counting.specs.claims.Numbers.{numbers_in}

pub numbers_both : (earlier later : List Numbered) → numbers_in (earlier ++ later) ≡ numbers_in earlier ++ numbers_in later
unfolding numbers_in
numbers_both [] later = refl
numbers_both (c ∷ cs) later = ap (λ (ns : List ℕ). c.number ∷ ns) (numbers_both cs later)

-- a Request that stands unsettled at the end has not marked, and tells nothing
since_none : (a : Account) (asks : Bool) → account a (since asks []) ≡ a
unfolding account pick
since_none a true = refl
since_none a false = refl

none_told : (a : Account) (asks : Bool) → numbers_told a (since asks []) ≡ []
unfolding numbers_told
none_told a true = refl
none_told a false = refl

module _ {dialect : Dialect} {numbering : Bool} {a : Account} {asks after : Bool} {acts : List Act} {t : Totals}
    (leads : Leads dialect numbering a asks acts t after) where
  -- all of them counted
  pub all_counted : account a (since asks acts) ≡ leads.there
  all_counted =
      ap (λ (l : List Act). account a (since asks l)) (sym (append-nil acts)) ∙ leads.goes_on [] ∙ since_none leads.there after

  -- a Request that stood unsettled before them tells nothing
  pub told_since : numbers_told a (since asks acts) ≡ numbers_told a acts
  told_since =
      ap (λ (l : List Act). numbers_told a (since asks l)) (sym (append-nil acts))
      ∙ leads.tells_on []
      ∙ ap (λ (ns : List ℕ). numbers_told a acts ++ ns) (none_told leads.there after)
      ∙ append-nil (numbers_told a acts)

module _ {dialect : Dialect} {numbering : Bool} {a : Account} {asks after : Bool} {earlier later : List Act} {t u : Totals}
    (first : Leads dialect numbering a false earlier t asks) (second : Leads dialect numbering first.there asks later u after) where
  pub told_both : numbers_told a (earlier ++ later) ≡ numbers_told a earlier ++ numbers_told first.there later
  told_both = first.tells_on later ∙ ap (λ (ns : List ℕ). numbers_told a earlier ++ ns) (told_since second)

  pub leads_on : Leads dialect numbering a false (earlier ++ later) u after
  leads_on =
      record {
        there = second.there;
        totals = second.totals;
        goes_on = λ more.
            ap (account a) (append_assoc earlier later more) ∙ first.goes_on (later ++ more) ∙ second.goes_on more;
        tells_on = λ more.
            ap (numbers_told a) (append_assoc earlier later more)
            ∙ first.tells_on (later ++ more)
            ∙ ap (λ (ns : List ℕ). numbers_told a earlier ++ ns) (second.tells_on more)
            ∙ sym (append_assoc (numbers_told a earlier) (numbers_told first.there later) _)
            ∙ ap (λ (ns : List ℕ). ns ++ numbers_told second.there (since after more)) (sym told_both);
      }

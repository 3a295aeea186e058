-- What the account says of all that is taken, in the words of 02: sums, and back to the last mark.
use Rattle.std.specs.Prelude.{false, true, List, [], ◌∷◌, ◌++◌, ◌≡◌}
use Rattle.ledger.specs.claims.Account.{Act, retry, Count, adding, puts_back, marks, Account, opened, account}

-- none of some acts puts back
unfoldable pub NoRetry : List Act → Type 0
NoRetry [] = Unit {0}
NoRetry (act ∷ later) = (puts_back act ≡ false) × NoRetry later

-- a count with all that some acts add
unfoldable pub summed : Count → List Act → Count
summed c [] = c
summed c (act ∷ later) = summed (adding act c) later

-- none of some acts marks, a retry coming after them
unfoldable pub NoMark : List Act → Type 0
NoMark [] = Unit {0}
NoMark (act ∷ later) = (marks act (later ++ (retry ∷ [])) ≡ false) × NoMark later

pub record AccountLaws : Type 0 where
  -- with no retry all that was counted stands
  pub sums : (a : Account) (acts : List Act) → NoRetry acts → (account a acts).now ≡ summed a.now acts
  -- a retry goes back to what stood at the last mark
  pub back : (a : Account) (mark : Act) (between : List Act) → marks mark (between ++ (retry ∷ [])) ≡ true → NoMark between
      → (account a (mark ∷ (between ++ (retry ∷ [])))).now ≡ a.now
  -- where there was none, to the opening
  pub from_opening : (between : List Act) → NoMark between → (account opened (between ++ (retry ∷ []))).now ≡ opened.now

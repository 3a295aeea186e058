-- The lowest bit of those that a loop has left: the next one, one behind it, or none; and what holds of it. By the definition's cases, and by induction over
-- the bits.
use Rattle.std.specs.Option.{MatchOption, unwrap_or}
use Rattle.std.proofs.Common.{Option, None, Some}
use Prim.Native.Nat.{max, ℕ, zero, suc, ◌+◌, ◌-◌, ◌≤◌, ◌<◌}
use mathlib.Core.Bool.{Bool, true, false, true≢false}
use mathlib.Core.Path.{◌≡◌, sym, ap, ◌∙◌}
use native.Mathlib.Omega.{arith}
use borrow.Author.Tests.{eqb-true, eqb-false, leb-true, leb-false, ltb-true, ltb-false, lt-ltb, le-ltb}
use lib.Dec.{eqb, leb, ltb}
use Rattle.words.proofs.Choice.{chosen, passed, by_test, of_choice}
use Rattle.bit_report.specs.rules.Lowest.{lowest, lowest_in}

module _ (test : ℕ → Bool) (k to : ℕ) where
  pub lowest_none : to ≤ k → k ≡ lowest_in test k to
  unfolding lowest
  lowest_none h =
      let e : to - k ≡ 0 = omega arith in
      sym (ap (lowest test k) e)

  module _ (h : k < to) where
    one_more : to - k ≡ suc (to - (k + 1))
    one_more = omega arith

    pub lowest_here : test k ≡ true → k ≡ lowest_in test k to
    unfolding lowest
    lowest_here e = sym (ap (lowest test k) one_more ∙ chosen (test k) k (lowest_in test (k + 1) to) e)

    pub lowest_on : test k ≡ false → lowest_in test (k + 1) to ≡ lowest_in test k to
    unfolding lowest
    lowest_on e = sym (ap (lowest test k) one_more ∙ passed (test k) k (lowest_in test (k + 1) to) e)

-- where the lowest bit lies: not below the first, and not above the one behind the last
pub lowest_from : (test : ℕ → Bool) (k n : ℕ) → k ≤ lowest test k n
unfolding lowest
lowest_from test k zero = omega arith
lowest_from test k (suc n) = of_choice (λ (r : ℕ). k ≤ r) (test k) (λ e. omega arith) (λ e. omega (arith, lowest_from test (k + 1) n))

pub lowest_to : (test : ℕ → Bool) (k n : ℕ) → lowest test k n ≤ k + n
unfolding lowest
lowest_to test k zero = omega arith
lowest_to test k (suc n) =
    of_choice (λ (r : ℕ). r ≤ k + suc n) (test k) (λ e. omega arith) (λ e. omega (arith, lowest_to test (k + 1) n))

-- the test holds for it, unless it is the one behind the last
pub lowest_holds : (test : ℕ → Bool) (k n : ℕ) → lowest test k n < k + n → test (lowest test k n) ≡ true
unfolding lowest
lowest_holds test k zero = λ h. absurd (omega arith)
lowest_holds test k (suc n) =
    of_choice (λ (r : ℕ). (r < k + suc n → test r ≡ true)) (test k) (λ e h. e) (λ e h. lowest_holds test (k + 1) n (omega arith))

-- and for none below it
pub lowest_before : (test : ℕ → Bool) (k n j : ℕ) → k ≤ j → j < lowest test k n → test j ≡ false
unfolding lowest
lowest_before test k zero j h = λ below. absurd (omega arith)
lowest_before test k (suc n) j h =
    of_choice (λ (r : ℕ). (j < r → test j ≡ false)) (test k) (λ e below. absurd (omega arith))
    (λ e below.
    by_test (eqb j k) (λ t. ap test (eqb-true j k t) ∙ e)
    (λ f. let other : j ≡ k → ⊥ = eqb-false j k f in lowest_before test (k + 1) n j (omega arith) below))

-- of bits up to before another: it is found where the test holds for one
module _ (test : ℕ → Bool) (from to : ℕ) where
  pub found_holds : lowest_in test from to < to → test (lowest_in test from to) ≡ true
  found_holds h = lowest_holds test from (to - from) (omega (arith, lowest_from test from (to - from)))

  pub holds_found : (j : ℕ) → from ≤ j → j < to → test j ≡ true → lowest_in test from to ≤ j
  holds_found j h k e =
      by_test (leb (lowest_in test from to) j) (λ t. leb-true _ _ t)
      (λ f.
      let below : j < lowest_in test from to = leb-false _ _ f in
      absurd (true≢false (sym e ∙ lowest_before test from (to - from) j h below)))

-- whether one was found, by the bit that a loop has come to
module _ (test : ℕ → Bool) (from to i : ℕ) (left : lowest_in test i to ≡ lowest_in test from to) where
  pub seen_here : i < to → test i ≡ true → true ≡ ltb (lowest_in test from to) to
  seen_here h e =
      let there : i ≡ lowest_in test from to = lowest_here test i to h e ∙ left in
      sym (lt-ltb (lowest_in test from to) to (omega arith))

  pub seen_none : to ≤ i → false ≡ ltb (lowest_in test from to) to
  seen_none h =
      let there : i ≡ lowest_in test from to = lowest_none test i to h ∙ left in
      sym (le-ltb (lowest_in test from to) to (omega arith))

-- the first of them for which the test holds, or the bit behind them all
pub lowest_of_first : (test : ℕ → Bool) (from to : ℕ) (r : Option ℕ)
    → MatchOption r ((k : ℕ) → from ≤ k → k < to → test k ≡ false)
    (λ i. (from ≤ i) × (i < to) × (test i ≡ true) × ((k : ℕ) → from ≤ k → k < i → test k ≡ false))
    → unwrap_or r (max from to) ≡ lowest_in test from to
lowest_of_first test from to None none =
    let low = lowest_from test from (to - from) in
    let high = lowest_to test from (to - from) in
    by_test (ltb (lowest_in test from to) to)
    (λ t.
    let below : lowest_in test from to < to = ltb-true _ _ t in
    absurd (true≢false (sym (found_holds test from to below) ∙ none (lowest_in test from to) low below)))
    (λ f. let past : to ≤ lowest_in test from to = ltb-false _ _ f in omega arith)
lowest_of_first test from to (Some i) first =
    let low = lowest_from test from (to - from) in
    let high = holds_found test from to i first.0 first.1 first.2 in
    by_test (ltb (lowest_in test from to) i)
    (λ t.
    let below : lowest_in test from to < i = ltb-true _ _ t in
    absurd (true≢false (sym (found_holds test from to (omega arith)) ∙ first.3 (lowest_in test from to) low below)))
    (λ f. let past : i ≤ lowest_in test from to = ltb-false _ _ f in omega arith)

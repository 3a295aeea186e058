-- What windows that carry on come to, and what a chain of them grants. Each goes window by window.
use mathlib.Core.Path.{◌≡◌, refl}
use mathlib.Core.Bool.{Bool, true, false, ◌||◌, and-false}
use mathlib.Core.List.{List, [], ◌∷◌}
use Prim.Native.Nat.{ℕ, ◌+◌, ◌≤◌}
use native.Mathlib.Omega.{arith}
use borrow.Author.Tests.{le-leb, leb-true, eqb-true}
use Rattle.words.proofs.Choice.{both}
use Rattle.windows.specs.declared.Window.{Window}
use Rattle.windows.specs.declared.Right.{Right}
use Rattle.windows.specs.rules.Window.{has_right, end_of, holds_address, carries_on, chain_grants, sum_of}
use Rattle.windows.proofs.Parts.{Held, held}

-- where one of two would do and one does, by which
pub either {ℓ} : {P : Type ℓ} (a b : Bool) → (a || b) ≡ true → (a ≡ true → P) → (b ≡ true → P) → P
either true b e first second = first refl
either false b e first second = second e

-- where the end is reached, nothing more is asked
pub carries_here : (ws : List Window) (right : Right) (from end : ℕ) → end ≤ from → carries_on ws right from end ≡ true
carries_here [] right from end h = le-leb _ _ h
carries_here (w ∷ ws) right from end h = rw (le-leb _ _ h) refl

-- else the next window begins there and has the right, and the rest carry on
pub record Next (w : Window) (ws : List Window) (right : Right) (from end : ℕ) : Type 0 where
  pub begins : w.first ≡ from
  pub right_held : has_right w right ≡ true
  pub rest : carries_on ws right (end_of w) end ≡ true

pub by_next {ℓ} : {P : Type ℓ} (w : Window) (ws : List Window) (right : Right) (from end : ℕ) → carries_on (w ∷ ws) right from end ≡ true
    → (end ≤ from → P) → (Next w ws right from end → P) → P
by_next w ws right from end e reached on =
    either _ _ e (λ t. reached (leb-true _ _ t))
    (λ t.
    let parts = both _ _ t in
    let front = both _ _ parts.0 in
    on (record { begins = eqb-true _ _ front.0; right_held = front.1; rest = parts.1 }))

-- windows carry on no further than their lengths go
pub carried : (ws : List Window) (right : Right) (from end : ℕ) → carries_on ws right from end ≡ true → end ≤ from + sum_of ws
unfolding sum_of
carried [] right from end e = omega (arith, leb-true end from e)
carried (w ∷ ws) right from end e =
    by_next w ws right from end e (λ reached. omega arith)
    (λ on. omega (arith, carried ws right (end_of w) end on.rest))

module _ (w : Window) (ws : List Window) (right : Right) (a n : ℕ) where
  -- a chain: the first window holds the address, and the others carry on
  pub record Chained : Type 0 where
    pub address_held : Held w right a
    pub others : carries_on ws right (end_of w) (a + n) ≡ true

  pub chained : chain_grants w ws right a n ≡ true → Chained
  chained e = let parts = both _ _ e in record { address_held = held w right a parts.0; others = parts.1 }

  pub chain_here : holds_address w right a ≡ true → carries_on ws right (end_of w) (a + n) ≡ true → chain_grants w ws right a n ≡ true
  chain_here held on = rw (held, on) refl

  -- no chain where the first window does not hold the address
  pub chain_not_held : holds_address w right a ≡ false → chain_grants w ws right a n ≡ false
  chain_not_held e = rw e refl

  -- nor where the others do not carry on
  pub chain_broken : carries_on ws right (end_of w) (a + n) ≡ false → chain_grants w ws right a n ≡ false
  chain_broken e = rw (e, and-false) refl

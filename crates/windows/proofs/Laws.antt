-- A granted range lies inside the lent memory, an address outside every window is granted nothing, and the windows that a session
-- keeps have the map's own sum. Each goes window by window.
use Rattle.std.specs.Prelude.{Some}
use mathlib.Core.Path.{◌≡◌, sym, ◌∙◌}
use mathlib.Core.List.{List, [], ◌∷◌}
use Prim.Native.Nat.{ℕ, ◌+◌, ◌-◌, ◌≤◌, ◌<◌}
use native.Mathlib.Omega.{arith}
use Rattle.words.proofs.Choice.{chosen, passed, by_test}
use Rattle.windows.specs.declared.Window.{Window}
use Rattle.windows.specs.declared.Right.{Right}
use Rattle.windows.specs.rules.Window.{end_of, chain_grants, place_from, place_of, sum_of}
use Rattle.windows.proofs.Chains.{carried, chained}

-- a range placed from a base on lies within the sum from there
record Inside (p n base : ℕ) (ws : List Window) : Type 0 where
  pub last : p + n ≤ base + sum_of ws
  pub start : p < base + sum_of ws

placed_from : (ws : List Window) (right : Right) (a n base p : ℕ)
    → place_from base ws right a n ≡ Some p → Inside p n base ws
unfolding place_from sum_of
placed_from [] right a n base p e = let z : ◌≡◌ {A = ℕ} 0 1 = cc in omega arith
placed_from (w ∷ ws) right a n base p e =
    by_test (chain_grants w ws right a n)
    (λ chain.
    let c = chained w ws right a n chain in
    let h = c.address_held in
    let reach = carried ws right (end_of w) (a + n) c.others in
    let place : Some (base + (a - w.first)) ≡ Some p = sym (chosen _ _ _ chain) ∙ e in
    let at : base + (a - w.first) ≡ p = cc in
    record { last = omega arith; start = omega arith })
    (λ failed.
    let rest = placed_from ws right a n (base + w.length) p (sym (passed _ _ _ failed) ∙ e) in
    record { last = omega arith; start = omega arith })

-- a granted range lies inside the memory
pub placed_inside : (ws : List Window) (right : Right) (a n p : ℕ) → place_of ws right a n ≡ Some p → p + n ≤ sum_of ws
unfolding place_of
placed_inside ws right a n p e = omega (arith, placed_from ws right a n 0 p e)

-- What each definition over windows says of those that a loop has left: the next one and the rest, or none.
-- Each follows from the definition's cases.
use mathlib.Core.Path.{◌≡◌, refl, ap, sym, ◌∙◌}
use Rattle.std.proofs.lemmas.List.Sums.{sum_by-cons}
use Rattle.std.specs.Prelude.{Some, None}
use mathlib.Core.Bool.{true, false}
use mathlib.Core.List.{List, [], ◌∷◌, map, append-nil}
use Rattle.std.specs.Prelude.{sum}
use Prim.Native.Nat.{ℕ, suc, ◌+◌, ◌-◌, ◌≤◌, ◌<◌, max}
use native.Mathlib.Numerals.{add-one}
use native.Mathlib.Omega.{arith}
use lib.ListN.{length, get_or, drop, set, drop_of_length-le}
use lib.Seq.{drop-cons, take_all, take-suc-set, append_snoc}
use Rattle.words.proofs.Choice.{chosen, passed}
use Rattle.windows.specs.declared.Window.{Window}
use Rattle.windows.specs.declared.Right.{Right}
use Rattle.windows.specs.rules.Window.{end_of, holds_address, carries_on, chain_grants, place_from, sum_of, has_right}
use Rattle.windows.proofs.Chains.{carries_here, chain_here, chain_not_held, chain_broken}
use Rattle.windows.specs.rules.Map.{zero_window, kept_of}

-- at the end none is left
module _ (ws : List Window) (i : ℕ) (h : length ws ≤ i) where
  pub place_none : (right : Right) (a n base : ℕ) → None ≡ place_from base (drop i ws) right a n
  unfolding place_from
  place_none right a n base = rw (drop_of_length-le ws h)

-- else the next window and the rest
module _ (ws : List Window) (i : ℕ) (h : i < length ws) where
  next : drop i ws ≡ get_or ws i zero_window ∷ drop (i + 1) ws
  next = rw (add-one, drop-cons ws i zero_window)

  module _ (right : Right) (a n base : ℕ) where
    -- a range is placed by the chain from the next window on, or else by the rest
    place_here : chain_grants (get_or ws i zero_window) (drop (i + 1) ws) right a n ≡ true
        → Some (base + (a - (get_or ws i zero_window).first)) ≡ place_from base (drop i ws) right a n
    unfolding place_from
    place_here e = rw next (sym (chosen _ _ _ e))

    place_on : chain_grants (get_or ws i zero_window) (drop (i + 1) ws) right a n ≡ false
        → place_from (base + (get_or ws i zero_window).length) (drop (i + 1) ws) right a n ≡ place_from base (drop i ws) right a n
    unfolding place_from
    place_on e = rw next (sym (passed _ _ _ e))

    pub place_not_held : holds_address (get_or ws i zero_window) right a ≡ false
        → place_from (base + (get_or ws i zero_window).length) (drop (i + 1) ws) right a n ≡ place_from base (drop i ws) right a n
    place_not_held e = place_on (chain_not_held (get_or ws i zero_window) (drop (i + 1) ws) right a n e)

    -- the same where the next window ends at an address
    module _ (reached : ℕ) (ends : reached ≡ end_of (get_or ws i zero_window)) where
      pub place_carried : holds_address (get_or ws i zero_window) right a ≡ true → carries_on (drop (i + 1) ws) right reached (a + n) ≡ true
          → Some (base + (a - (get_or ws i zero_window).first)) ≡ place_from base (drop i ws) right a n
      place_carried held on =
          place_here (chain_here (get_or ws i zero_window) (drop (i + 1) ws) right a n held (rw (← ends) on))

      pub place_within : holds_address (get_or ws i zero_window) right a ≡ true → a + n ≤ reached
          → Some (base + (a - (get_or ws i zero_window).first)) ≡ place_from base (drop i ws) right a n
      place_within held h = place_carried held (carries_here (drop (i + 1) ws) right reached (a + n) h)

      pub place_broken : carries_on (drop (i + 1) ws) right reached (a + n) ≡ false
          → place_from (base + (get_or ws i zero_window).length) (drop (i + 1) ws) right a n ≡ place_from base (drop i ws) right a n
      place_broken e = place_on (chain_broken (get_or ws i zero_window) (drop (i + 1) ws) right a n (rw (← ends) e))

-- to make the window past those kept all zero is to keep it
pub kept_on : (ws : List Window) (i : ℕ) → i < length ws → i < 8 → kept_of (i + 1) (set ws i zero_window) ≡ kept_of i ws
unfolding kept_of
kept_on ws i h below =
    let left : 8 - i ≡ suc (8 - (i + 1)) = omega arith in
    rw (left, add-one, take-suc-set ws i zero_window h, append_snoc)

-- the same of a window that is cleared where it is past the first count, and of one that is not past it
pub kept_past : (count : ℕ) (ws : List Window) (i : ℕ) → length ws ≡ 8 → i < 8 → count ≤ i
    → kept_of (max (i + 1) count) (set ws i zero_window) ≡ kept_of (max i count) ws
kept_past count ws i eight below past =
    let later : max (i + 1) count ≡ i + 1 = omega arith in
    let now : max i count ≡ i = omega arith in
    rw (later, now) (kept_on ws i (omega arith) below)

pub kept_counted : (count : ℕ) (ws : List Window) (i : ℕ) → i < count → kept_of (max (i + 1) count) ws ≡ kept_of (max i count) ws
kept_counted count ws i counted =
    let same : max (i + 1) count ≡ max i count = omega arith in
    ap (λ (n : ℕ). kept_of n ws) same

-- once all are kept, nothing changes
pub kept_all : (ws : List Window) (i : ℕ) → length ws ≤ i → 8 ≤ i → ws ≡ kept_of i ws
unfolding kept_of
kept_all ws i h above =
    let none : 8 - i ≡ 0 = omega arith in
    rw (none, take_all i ws h) (sym (append-nil ws))

-- the lengths summed up
pub sum_lengths : (ws : List Window) → sum (map (λ (w : Window). w.length) ws) ≡ sum_of ws
unfolding sum_of
sum_lengths [] = refl
sum_lengths (w ∷ ws) =
    sum_by-cons (λ (n : ℕ). n) w.length (map (λ (x : Window). x.length) ws) ∙ ap (λ (n : ℕ). w.length + n) (sum_lengths ws)

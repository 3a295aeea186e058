-- What a test that holds says of its parts, and which part decides where the others hold. Each goes by the cases of the tests.
use mathlib.Core.Path.{◌≡◌, refl}
use mathlib.Core.Bool.{true, and-true}
use mathlib.Core.List.{List}
use Prim.Native.Nat.{ℕ, ◌+◌, ◌≤◌, ◌<◌, ◌^◌}
use lib.Dec.{leb}
use lib.ListN.{take}
use borrow.Author.Tests.{ltb-true, leb-true, lt-ltb, le-leb}
use Rattle.words.proofs.Choice.{both}
use Rattle.windows.specs.declared.Window.{Window}
use Rattle.windows.specs.declared.Right.{Right}
use Rattle.windows.specs.rules.Window.{has_right, end_of, inside, holds_address, grants_range, sum_of}
use Rattle.windows.specs.rules.Map.{sound_window, sound_and_rising, good_map}

-- an address inside a window lies between its first address and its end
pub record Within (w : Window) (a : ℕ) : Type 0 where
  pub from_first : w.first ≤ a
  pub before_end : a < end_of w

pub within : (w : Window) (a : ℕ) → inside w a ≡ true → Within w a
unfolding inside
within w a e =
    let range = both _ _ e in
    record { from_first = leb-true _ _ range.0; before_end = ltb-true _ _ range.1 }

-- a window that holds an address has the right, and the address inside it
pub record Held (w : Window) (right : Right) (a : ℕ) : Type 0 where
  pub right_held : has_right w right ≡ true
  pub lies : Within w a

pub held : (w : Window) (right : Right) (a : ℕ) → holds_address w right a ≡ true → Held w right a
held w right a e =
    let whole = both (has_right w right) (inside w a) e in
    record { right_held = whole.0; lies = within w a whole.1 }

-- where the address lies inside, the right decides
pub held_by_right : (w : Window) (right : Right) (a : ℕ) → w.first ≤ a → a < end_of w → has_right w right ≡ holds_address w right a
unfolding inside
held_by_right w right a above below = rw (le-leb _ _ above, lt-ltb _ _ below, and-true) refl

-- a window that grants a range holds its address, and the range ends inside it
pub record Granted (w : Window) (right : Right) (a n : ℕ) : Type 0 where
  pub address_held : holds_address w right a ≡ true
  pub to_end : a + n ≤ end_of w

pub granted : (w : Window) (right : Right) (a n : ℕ) → grants_range w right a n ≡ true → Granted w right a n
unfolding grants_range
granted w right a n e =
    let whole = both (holds_address w right a) (leb (a + n) (end_of w)) e in
    record { address_held = whole.0; to_end = leb-true _ _ whole.1 }

-- what a sound window is
pub record Sound (w : Window) : Type 0 where
  pub not_empty : 0 < w.length
  pub in_reach : end_of w ≤ 2 ^ 32
  pub some_right : 1 ≤ w.rights
  pub known_rights : w.rights ≤ 7

pub sound : (w : Window) → sound_window w ≡ true → Sound w
unfolding sound_window
sound w e =
    let whole = both _ _ e in
    let front = both _ _ whole.0 in
    let shape = both _ _ front.0 in
    record {
      not_empty = ltb-true _ _ shape.0;
      in_reach = leb-true _ _ shape.1;
      some_right = leb-true _ _ front.1;
      known_rights = leb-true _ _ whole.1;
    }

-- what a good map is
pub record Good (count : ℕ) (ws : List Window) : Type 0 where
  pub some_window : 1 ≤ count
  pub few_windows : count ≤ 8
  pub in_order : sound_and_rising 0 (take count ws) ≡ true
  pub small : sum_of (take count ws) ≤ 65536

pub good : (count : ℕ) (ws : List Window) → good_map count ws ≡ true → Good count ws
unfolding good_map
good count ws e =
    let whole = both _ _ e in
    let front = both _ _ whole.0 in
    let counted = both _ _ front.0 in
    record {
      some_window = leb-true _ _ counted.0;
      few_windows = leb-true _ _ counted.1;
      in_order = front.1;
      small = leb-true _ _ whole.1;
    }

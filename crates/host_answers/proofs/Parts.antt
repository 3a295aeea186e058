-- A part of the image that is there.
use Prim.Native.Nat.{ℕ, ◌≤◌}
use mathlib.Core.Bool.{true}
use mathlib.Core.List.{List}
use mathlib.Core.Path.{◌≡◌}
use lib.Dec.{leb}
use lib.ListN.{length}
use borrow.Author.Tests.{leb-true}
use Rattle.words.proofs.Choice.{both}
use Rattle.host_answers.specs.rules.Sendings.{is_part}

-- a part that is there begins before its end, which is in the image
pub is_there : (image : List ℕ) (from to : ℕ) → is_part image from to ≡ true → (from ≤ to) × (to ≤ length image)
unfolding is_part
is_there image from to e =
    let two = both (leb from to) (leb to (length image)) e in
    (leb-true from to two.0, leb-true to (length image) two.1)

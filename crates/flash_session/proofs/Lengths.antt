-- What a good length of an image comes to.
use Prim.Native.Nat.{ℕ, ◌%◌, ◌≤◌}
use mathlib.Core.Bool.{true, ◌&&◌}
use mathlib.Core.Path.{◌≡◌}
use lib.Dec.{eqb, leb}
use borrow.Author.Tests.{leb-true, eqb-true}
use Rattle.words.proofs.Choice.{both}
use Rattle.commands.specs.rules.Commands.{multiple}
use Rattle.flash_session.specs.rules.Opening.{good_length}

-- an image has at most 65,536 bytes
pub length_small : (n : ℕ) → good_length n ≡ true → n ≤ 65536
unfolding good_length
length_small n e = leb-true _ _ (both (multiple n 4 && leb 4 n) (leb n 65536) e).1

-- nor has one that is also as long as that of the opening
pub image_small : (n k : ℕ) → (good_length n && eqb n k) ≡ true → n ≤ 65536
image_small n k e = length_small n (both (good_length n) (eqb n k) e).0

-- an image has whole words
pub length_whole : (n : ℕ) → good_length n ≡ true → n % 4 ≡ 0
unfolding good_length multiple
length_whole n e = eqb-true _ _ (both (eqb (n % 4) 0) (leb 4 n) (both (eqb (n % 4) 0 && leb 4 n) (leb n 65536) e).0).0

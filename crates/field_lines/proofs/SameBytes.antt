-- What the test for the same bytes says: it decides whether two lists are equal, as the library's comparison of slices does.
use Prim.Native.Nat.{ℕ}
use mathlib.Core.Bool.{true}
use mathlib.Core.List.{List}
use mathlib.Core.Path.{◌≡◌, refl}
use Rattle.std.proofs.lemmas.Slice.Eq.{bytes_eq-Decides}
use Rattle.field_lines.specs.rules.Text.{same}

pub same_refl : (a : List ℕ) → same a a ≡ true
unfolding same
same_refl a = (bytes_eq-Decides a a).1 refl

pub same_equal : (a b : List ℕ) → same a b ≡ true → a ≡ b
unfolding same
same_equal a b e = (bytes_eq-Decides a b).0 e

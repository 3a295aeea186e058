-- What holds of the words told: they are never more than the ceiling beside them.
use Rattle.std.specs.Prelude.{ℕ, ◌≤◌, List}
use Rattle.checking.specs.rules.Counting.{counted_of}

abbrev pub WithinCeiling : Type 0
WithinCeiling = (image : List ℕ) (limit : ℕ) → (counted_of image limit).fetched ≤ (counted_of image limit).ceiling

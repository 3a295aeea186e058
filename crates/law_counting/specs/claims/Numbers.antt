-- The numbers of a history.
use Rattle.std.specs.Prelude.{ℕ, List, [], ◌∷◌}
use Rattle.bit_history.specs.claims.History.{Numbered}

-- those of its commands, in order
unfoldable pub numbers_in : List Numbered → List ℕ
numbers_in [] = []
numbers_in (c ∷ cs) = c.number ∷ numbers_in cs

-- An accepted command as one of a history: its effect at the place that its judgement grants, and the number that it had.
use Rattle.std.specs.Prelude.{ℕ, List, [], ◌∷◌, Ok, Err}
use Rattle.law_effects.specs.claims.Effects.{Effect}
use Rattle.bit_history.specs.claims.History.{Numbered}
use Rattle.commands.specs.rules.Commands.{Judged}

-- one command, by its number and its effect
abbrev pub one : ℕ → Effect → List Numbered
one number effect = record { effect = effect; number = number } ∷ []

-- a command, by its judgement
abbrev pub judged_one : ℕ → Judged → (ℕ → Effect) → List Numbered
judged_one number (Ok place) effect = one number (effect place)
judged_one number (Err q) effect = []

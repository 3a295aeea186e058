-- The lowest bit of some for which a test holds.
use Rattle.std.specs.Prelude.{ℕ, zero, suc, ◌+◌, ◌-◌, Bool}
use Rattle.words.specs.rules.Choice.{pick}

-- of n bits from k on; the bit behind them where it holds for none
unfoldable pub lowest : (ℕ → Bool) → ℕ → ℕ → ℕ
lowest test k zero = k
lowest test k (suc n) = pick (test k) k (lowest test (k + 1) n)

-- of the bits from one on that lie below another
abbrev pub lowest_in : (ℕ → Bool) → ℕ → ℕ → ℕ
lowest_in test from to = lowest test from (to - from)

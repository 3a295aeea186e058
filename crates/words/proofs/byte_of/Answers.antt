-- `words::byte_of` meets its contract: below 4 the code is the definition, and from 4 on a value has no bytes.
use borrow.Author.Rules.{rules}
use Prim.Native.Nat.{ℕ, ◌*◌, ◌%◌}
use mathlib.Core.Path.{sym, ap}
use native.Mathlib.Omega.{arith}
use Rattle.words.specs.rules.Bytes.{byte}
use Rattle.words.proofs.Joins.{past}
use Rattle.words.proofs.byte_of.Goals as goal

pub returns-then-place-lt4 : goal.returns-then-place-lt4
unfolding byte
returns-then-place-lt4 c = search rules

pub returns-else-place-lt4 : goal.returns-else-place-lt4
unfolding byte
returns-else-place-lt4 c = ap (λ (x : ℕ). x % 256) (sym (past {k = 32} {j = 8 * c.args.place} c.ranges.value.fits (omega arith)))

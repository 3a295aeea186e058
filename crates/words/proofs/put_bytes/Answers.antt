-- `words::put_bytes` meets its contract: after i turns the first i bytes are written, and what is left of the value is the rest of its bytes.
use Prim.Native.Nat.{ℕ, ◌+◌, ◌*◌, ◌/◌, ◌^◌}
use mathlib.Core.Path.{◌≡◌, ap, ◌∙◌}
use Rattle.words.specs.rules.Bytes.{byte, put}
use borrow.Author.Rules.{rules}
use native.Mathlib.Omega.{arith}
use lib.Pow.{shr-shr}
use Rattle.words.proofs.Puts.{put_more}
use Rattle.words.proofs.put_bytes.Goals as goal

pub loop-i-init : goal.loop-i-init
unfolding put
loop-i-init c = search rules

pub loop-i-preserved : goal.loop-i-preserved
unfolding byte
loop-i-preserved c =
    let inv = c.loop-i.invariant in
    let next : 8 * c.loop-i.i + 8 ≡ 8 * (c.loop-i.i + 1) = omega arith in
    (rw (put_more, inv.0, inv.1), ap (λ (x : ℕ). x / 256) inv.1 ∙ shr-shr _ (8 * c.loop-i.i) 8 ∙ ap (λ (x : ℕ). c.args.value / 2 ^ x) next)

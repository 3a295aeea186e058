-- A checksum of 32 bits has its top bit alone above the other 31, and after the shift the new bit finds the lowest place free.
use Prim.Native.Nat.{ℕ, ◌+◌, ◌*◌, ◌%◌, ◌^◌, ◌<◌}
use mathlib.Core.Path.{◌≡◌, ap, sym, ◌∙◌}
use native.Mathlib.Omega.{arith}
use lib.Bits.{bit_xor}
use borrow.Author.Tests.{eq-eqb, ne_eqb}
use Rattle.words.specs.rules.Bits.{bit}
use Rattle.words.proofs.Choice.{chosen, passed}
use Rattle.checksum.specs.rules.Checksum.{polynomial, shifted, fed_bit}
use Rattle.checksum.proofs.feed_bit.Goals as goal

-- the bit may be put in after the shift is cut
put_in : (r : ℕ) {b : ℕ} → b < 2 → r * 2 % 2 ^ 32 + b ≡ shifted r b
unfolding shifted
put_in r h = omega arith

pub returns-then-checksum-eq1 : goal.returns-then-checksum-eq1
unfolding bit fed_bit
returns-then-checksum-eq1 c =
    let one : bit c.args.checksum 31 ≡ 1 = omega arith in
    ap (λ (x : ℕ). bit_xor x polynomial) (put_in c.args.checksum c.requires)
    ∙ sym (chosen _ _ _ (eq-eqb _ _ one))

pub returns-else-checksum-eq1 : goal.returns-else-checksum-eq1
unfolding bit fed_bit
returns-else-checksum-eq1 c =
    let none : bit c.args.checksum 31 ≡ 1 → ⊥ = λ h. c.if-checksum-eq1.false (omega arith) in
    put_in c.args.checksum c.requires ∙ sym (passed _ _ _ (ne_eqb _ _ none))

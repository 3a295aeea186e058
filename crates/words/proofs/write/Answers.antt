-- `words::write` meets its contract: the test says whether the unit fits, and the bytes are put only where it does.
use mathlib.Core.Path.{◌∙◌, ap, sym}
use borrow.Author.Tests.{leb-true, leb-false}
use Rattle.words.proofs.Units.{write_refused, write_done}
use Prim.Native.Nat.{ℕ}
use native.Mathlib.Omega.{arith}
use Rattle.words.specs.rules.Bytes.{byte, put}
use Rattle.words.proofs.write.Goals as goal

pub returns-then-not-is_inside : goal.returns-then-not-is_inside
returns-then-not-is_inside c =
    let outside = leb-false _ _ (sym c.is_inside.ensures ∙ c.if-not-is_inside.true) in
    let refused = write_refused c.args.m.now c.args.at c.args.unit c.args.value (omega arith) in
    record { value = refused.0; m_after = refused.1 }

pub returns : goal.returns
returns c =
    let a = c.args in
    let size = c.size-n.ensures in
    let inside = leb-true _ _ (sym c.is_inside.ensures ∙ c.if-not-is_inside.false) in
    let done = write_done a.m.now a.at a.unit a.value (omega arith) in
    record { value = done.0; m_after = c.put_bytes.ensures ∙ ap (λ (n : ℕ). put a.m.now a.at n (byte a.value)) size ∙ done.1 }

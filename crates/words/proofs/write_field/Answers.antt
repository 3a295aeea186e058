-- `words::write_field` meets its contract: the tests together say whether the field fits; where it does, the unit is read, the field put
-- into it, and its bytes put back.
use Prim.Native.Nat.{ℕ}
use mathlib.Core.Path.{ap, ap₂, sym, ◌∙◌}
use borrow.Author.Tests.{leb-true, leb-false}
use native.Mathlib.Omega.{arith}
use Rattle.words.specs.rules.Bits.{with_field}
use Rattle.words.specs.rules.Bytes.{byte, put}
use Rattle.words.proofs.Units.{unit_number, field_past_end, field_past_unit, field_done}
use Rattle.words.proofs.write_field.Goals as goal

pub returns-then-not-is_inside : goal.returns-then-not-is_inside
returns-then-not-is_inside c =
    let outside = leb-false _ _ (sym c.is_inside.ensures ∙ c.if-not-is_inside.true) in
    let refused = field_past_end c.args.m.now c.args.at c.args.unit c.args.start c.args.width c.args.field (omega arith) in
    record { value = refused.0; m_after = refused.1 }

pub returns-then-bits-start : goal.returns-then-bits-start
returns-then-bits-start c =
    let refused = field_past_unit c.args.m.now c.args.at c.args.unit c.args.start c.args.width c.args.field (omega arith) in
    record { value = refused.0; m_after = refused.1 }

pub returns : goal.returns
returns c =
    let a = c.args in
    let size = c.size-n.ensures in
    let inside = leb-true _ _ (sym c.is_inside.ensures ∙ c.if-not-is_inside.false) in
    let old = c.number_of-old.ensures ∙ unit_number a.m.now a.at _ a.unit size in
    let new = c.with_field.ensures ∙ ap (λ (w : ℕ). with_field w a.start a.width a.field) old in
    let done = field_done a.m.now a.at a.unit a.start a.width a.field (omega arith) (omega arith) in record {
      value = done.0;
      m_after = c.put_bytes.ensures
          ∙ ap₂ (λ (n v : ℕ). put a.m.now a.at n (byte v)) size new
          ∙ done.1;
    }

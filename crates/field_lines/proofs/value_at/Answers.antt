-- `field_lines::value_at` meets its contract: behind a key that stands there the first closing byte is looked for, up to the text's end.
use Prim.Native.Nat.{◌+◌}
use lib.ListN.{length}
use mathlib.Core.Bool.{true≢false}
use mathlib.Core.Path.{sym, ◌∙◌}
use native.Mathlib.Omega.{arith}
use Rattle.field_lines.proofs.Values.{stands_inside, closed_low, value_there, value_keyless, value_open}
use Rattle.field_lines.proofs.value_at.Goals as goal

pub returns-then-not-stands-clause-value : goal.returns-then-not-stands-clause-value
returns-then-not-stands-clause-value c =
    value_keyless _ _ _ _ (λ e. true≢false (sym e ∙ sym c.stands.ensures ∙ c.if-not-stands.true))

pub overflow_add-from : goal.overflow_add-from
overflow_add-from c =
    record { fits = omega (arith, stands_inside _ _ _ (sym c.stands.ensures ∙ c.if-not-stands.false)) }

pub returns-then-to-text : goal.returns-then-to-text
returns-then-to-text c =
    record {
      value = value_there _ _ _ _ _ (sym c.stands.ensures ∙ c.if-not-stands.false) c.find-to.ensures c.if-to-text.true;
      inside = (omega (arith, c.find-to.ensures, closed_low c.args.text.now (c.args.at + length c.args.key.now) c.args.close), c.if-to-text.true);
    }

pub returns-clause-value : goal.returns-clause-value
returns-clause-value c = value_open _ _ _ _ _ c.find-to.ensures c.if-to-text.false

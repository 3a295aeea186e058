-- `field_lines::decimal` meets its contract: each test that failed is a part of the rule's,
-- and a number that was made and is not too low is the one asked for.
use mathlib.Core.Path.{sym, ◌∙◌}
use Rattle.field_lines.proofs.Decimals.{decimal_zero, decimal_wrong, decimal_low, decimal_is}
use Rattle.field_lines.proofs.decimal.Goals as goal

pub returns-then-zero_leads : goal.returns-then-zero_leads
returns-then-zero_leads c = decimal_zero c.args.s.now _ _ (sym c.zero_leads.ensures ∙ c.if-zero_leads.true)

pub returns-in_err-value : goal.returns-in_err-value
returns-in_err-value c =
    rw c.from_residual.ensures (decimal_wrong c.args.s.now _ _ (sym c.in_err-value.was ∙ c.decimal.ensures))

pub returns-then-value-least : goal.returns-then-value-least
returns-then-value-least c =
    decimal_low c.args.s.now _ _ _ (sym c.in_ok-value.was ∙ c.decimal.ensures) c.if-value-least.true

pub returns : goal.returns
returns c =
    decimal_is c.args.s.now _ _ _ (sym c.in_ok-value.was ∙ c.decimal.ensures)
    (sym c.zero_leads.ensures ∙ c.if-zero_leads.false) c.if-value-least.false

-- `sent::is_start` meets its contract: its tests are those of the definition, one after the other.
use mathlib.Core.Path.{sym, ◌∙◌}
use borrow.Author.Tests.{not-true, not-false}
use Rattle.sent.proofs.Cases.{start_other, start_first, start_inside, start_again}
use Rattle.sent.proofs.is_start.Goals as goal

pub returns-then-unit-start_unit : goal.returns-then-unit-start_unit
returns-then-unit-start_unit c =
    let a = c.args in
    sym (start_other a.bus a.session a.unit (λ e. c.if-unit-start_unit.true (e ∙ sym c.start_unit.ensures)))

pub returns-then-not-line : goal.returns-then-not-line
returns-then-not-line c =
    let a = c.args in
    sym (start_first a.bus a.session a.unit (c.if-unit-start_unit.false ∙ c.start_unit.ensures) (not-true _ c.if-not-line.true))

pub returns-then-line-ne0 : goal.returns-then-line-ne0
returns-then-line-ne0 c =
    let a = c.args in
    sym (start_inside a.bus a.session a.unit (c.if-unit-start_unit.false ∙ c.start_unit.ensures) (not-false _ c.if-not-line.false) c.if-line-ne0.true)

pub returns : goal.returns
returns c =
    let a = c.args in
    sym (start_again a.bus a.session a.unit (c.if-unit-start_unit.false ∙ c.start_unit.ensures) (not-false _ c.if-not-line.false) c.if-line-ne0.false)

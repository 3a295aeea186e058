-- `flash_session::is_image` meets its contract: the length is tested first, then compared.
use mathlib.Core.Bool.{◌&&◌, Bool}
use mathlib.Core.Path.{sym, ap, ◌∙◌}
use lib.Dec.{eqb}
use Rattle.flash_session.proofs.is_image.Goals as goal

pub returns-then-is_length : goal.returns-then-is_length
returns-then-is_length c =
    let a = c.args in
    sym (ap (λ (t : Bool). t && eqb a.n a.length) (sym c.is_length.ensures ∙ c.if-is_length.true))

pub returns : goal.returns
returns c =
    let a = c.args in
    sym (ap (λ (t : Bool). t && eqb a.n a.length) (sym c.is_length.ensures ∙ c.if-is_length.false))

-- `windows::locate` meets its contract: a range that the first window grants by itself lies where the search from that window on would find it.
use Rattle.std.specs.Prelude.{Some}
use mathlib.Core.Path.{refl, sym, ap, ◌∙◌}
use native.Mathlib.Nat.{zero-add}
use borrow.Author.Rules.{rules}
use Rattle.windows.specs.rules.Window.{place_of}
use Rattle.windows.proofs.Left.{place_within}
use Rattle.windows.proofs.Parts.{granted, held}
use Rattle.windows.proofs.locate.Goals as goal

pub overflow_sub-result : goal.overflow_sub-result
overflow_sub-result c =
    (held _ _ _ (granted _ _ _ _ (sym c.grants.ensures ∙ c.if-grants.true)).address_held).lies.from_first

pub returns-then-grants : goal.returns-then-grants
unfolding place_of
returns-then-grants c =
    let given = c.args in
    let whole = granted _ _ _ _ (sym c.grants.ensures ∙ c.if-grants.true) in
    ap Some (sym (zero-add _))
    ∙ place_within given.windows 0 (search rules) given.right given.address given.size 0 _ refl whole.address_held whole.to_end

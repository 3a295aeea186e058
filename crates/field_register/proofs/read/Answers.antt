-- `field_register::read` meets its contract: the lines so far lead with the rest of the text to what the whole text leads to.
use mathlib.Core.Path.{sym, ◌∙◌}
use borrow.Author.Rules.{rules}
use Rattle.field_register.proofs.Lines.{clashes_is}
use Rattle.field_register.proofs.ReadingOn.{begins, ends, beyond, malformed, clashing, goes_on}
use Rattle.field_register.proofs.read.Goals as goal

pub loop-at-init : goal.loop-at-init
loop-at-init c = rw c.no_line-none.ensures (begins c.args.text.now)

pub returns-then-count-ge-MOST_LINES : goal.returns-then-count-ge-MOST_LINES
returns-then-count-ge-MOST_LINES c =
    c.refused_at.ensures ∙ beyond _ _ _ _ c.loop-at.invariant (search rules) (search rules)

pub returns-in_default : goal.returns-in_default
returns-in_default c =
    c.refused_at-in_default.ensures
    ∙ malformed _ _ _ _ c.loop-at.invariant (search rules) (search rules) (sym c.in_default.is ∙ c.line_at.ensures)

pub returns-then-clashes_any : goal.returns-then-clashes_any
returns-then-clashes_any c =
    c.refused_at-then-clashes_any.ensures
    ∙ clashing _ _ _ _ c.loop-at.invariant (search rules) (search rules) _ (sym c.in-Some.is ∙ c.line_at.ensures)
    (sym (clashes_is _ _) ∙ sym c.clashes_any.ensures ∙ c.if-clashes_any.true)

pub loop-at-preserved : goal.loop-at-preserved
loop-at-preserved c =
    goes_on _ _ _ _ c.loop-at.invariant (search rules) (search rules) _ (sym c.in-Some.is ∙ c.line_at.ensures)
    (sym (clashes_is _ _) ∙ sym c.clashes_any.ensures ∙ c.if-clashes_any.false)

pub returns : goal.returns
returns c = ends _ _ _ _ c.loop-at.invariant (search rules)

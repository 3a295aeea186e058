-- `agreement::differ` meets its contract: by whether a word differs; the first that does lies in the window, and so does its address in 32 bits.
use borrow.Author.Rules.{rules}
use borrow.Author.Tests.{eq-eqb, ne_eqb}
use mathlib.Core.Path.{sym, ◌∙◌}
use Rattle.words.proofs.Choice.{chosen, passed}
use Rattle.agreement.specs.rules.Comparison.{difference_of}
use Rattle.agreement.proofs.Differing.{first_within}
use Rattle.agreement.proofs.differ.Goals as goal

pub returns-then-words-eq0 : goal.returns-then-words-eq0
unfolding difference_of
returns-then-words-eq0 c = sym (chosen _ _ _ (eq-eqb _ _ (sym c.count_differing-words.ensures ∙ c.if-words-eq0.true)))

pub overflow_add-first : goal.overflow_add-first
overflow_add-first c =
    let a = c.args in
    search (rules, c.lowest.ensures, c.first_unlike.ensures, first_within a.flash.now a.line.now 1024 0)

pub returns : goal.returns
unfolding difference_of
returns c =
    let counted = c.count_differing-words.ensures in
    rw (c.lowest.ensures, c.first_unlike.ensures, counted)
    (sym (passed _ _ _ (ne_eqb _ _ (λ e. c.if-words-eq0.false (counted ∙ e)))))

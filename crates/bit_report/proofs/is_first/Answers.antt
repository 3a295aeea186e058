-- `bit_report::is_first` meets its contract: it is the first unless the lowest of those that are left is below it.
use borrow.Author.Rules.{rules}
use mathlib.Core.Path.{sym, ap, ◌∙◌}
use mathlib.Core.Bool.{not}
use Rattle.bit_report.specs.rules.Parts.{by_one, is_first}
use Rattle.bit_report.proofs.Lowest.{lowest_on, seen_here, seen_none}
use Rattle.bit_report.proofs.is_first.Goals as goal

pub returns-then-by_one : goal.returns-then-by_one
unfolding is_first
returns-then-by_one c =
    let a = c.args in
    ap not (seen_here (by_one a.numbers.now a.offsets.now a.index a.bit) 0 a.bit c.loop-i.i c.loop-i.invariant (search rules)
    (sym c.by_one.ensures ∙ c.if-by_one.true))

pub loop-i-preserved : goal.loop-i-preserved
loop-i-preserved c =
    let a = c.args in
    lowest_on (by_one a.numbers.now a.offsets.now a.index a.bit) c.loop-i.i a.bit (search rules)
    (sym c.by_one.ensures ∙ c.if-by_one.false) ∙ c.loop-i.invariant

pub returns : goal.returns
unfolding is_first
returns c =
    let a = c.args in
    ap not (seen_none (by_one a.numbers.now a.offsets.now a.index a.bit) 0 a.bit c.loop-i.i c.loop-i.invariant (search rules))

-- `bit_report::cut_field` meets its contract: one is cut where the lowest of those that are left is found.
use borrow.Author.Rules.{rules}
use mathlib.Core.Path.{sym, ◌∙◌}
use Rattle.bit_report.specs.rules.Fields.{has_cut, cut_field}
use Rattle.bit_report.proofs.Lowest.{lowest_on, seen_here, seen_none}
use Rattle.bit_report.proofs.cut_field.Goals as goal

pub returns-then-has_cut : goal.returns-then-has_cut
unfolding cut_field
returns-then-has_cut c =
    let a = c.args in
    let from = a.deed.from in
    let to = a.deed.to in
    seen_here (has_cut a.names a.word from to) from to c.loop-i.i c.loop-i.invariant (search rules) (sym c.has_cut.ensures ∙ c.if-has_cut.true)

pub loop-i-preserved : goal.loop-i-preserved
loop-i-preserved c =
    let a = c.args in
    let from = a.deed.from in
    let to = a.deed.to in
    lowest_on (has_cut a.names a.word from to) c.loop-i.i to (search rules) (sym c.has_cut.ensures ∙ c.if-has_cut.false) ∙ c.loop-i.invariant

pub returns : goal.returns
unfolding cut_field
returns c =
    let a = c.args in
    let from = a.deed.from in
    let to = a.deed.to in
    seen_none (has_cut a.names a.word from to) from to c.loop-i.i c.loop-i.invariant (search rules)

-- `bit_report::part_end` meets its contract: the lowest bit of those that are left is the lowest of all above the first.
use borrow.Author.Rules.{rules}
use native.Mathlib.Omega.{arith}
use mathlib.Core.Path.{◌≡◌, sym, ap, ap₂, ◌∙◌}
use mathlib.Core.Bool.{not}
use Rattle.bit_report.specs.rules.Parts.{alike, unlike_at, part_end}
use Rattle.bit_report.proofs.Lowest.{lowest_none, lowest_here, lowest_on}
use Rattle.bit_report.proofs.part_end.Goals as goal

pub returns-then-not-alike_told : goal.returns-then-not-alike_told
unfolding part_end
returns-then-not-alike_told c =
    let a = c.args in
    let same = c.alike_told.ensures ∙ ap₂ alike c.told_of-told.ensures c.told_of.ensures in
    lowest_here (unlike_at a.numbers.now a.offsets.now a.names a.word a.bit) c.loop-i.i 32 (search rules)
    (sym (ap not same) ∙ ap not c.if-not-alike_told.true)
    ∙ c.loop-i.invariant

pub loop-i-preserved : goal.loop-i-preserved
loop-i-preserved c =
    let a = c.args in
    let same = c.alike_told.ensures ∙ ap₂ alike c.told_of-told.ensures c.told_of.ensures in
    lowest_on (unlike_at a.numbers.now a.offsets.now a.names a.word a.bit) c.loop-i.i 32 (search rules)
    (sym (ap not same) ∙ ap not c.if-not-alike_told.false)
    ∙ c.loop-i.invariant

pub returns : goal.returns
unfolding part_end
returns c =
    let a = c.args in
    let end : 32 ≡ c.loop-i.i = omega arith in
    end ∙ lowest_none (unlike_at a.numbers.now a.offsets.now a.names a.word a.bit) c.loop-i.i 32 (search rules) ∙ c.loop-i.invariant

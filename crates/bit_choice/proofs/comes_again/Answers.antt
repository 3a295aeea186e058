-- `bit_choice::comes_again` meets its contract: the address is among those that are left where it is among all from the index on.
use mathlib.Core.Path.{◌∙◌}
use Rattle.bit_choice.proofs.Choosing.{among_none, among_here, among_on}
use borrow.Author.Rules.{rules}
use Rattle.bit_choice.proofs.comes_again.Goals as goal

pub returns-then-word_at-address : goal.returns-then-word_at-address
returns-then-word_at-address c =
    let a = c.args in
    among_here a.bytes.now a.count c.loop-i.i (search rules) c.word_at.result c.word_at.ensures a.address
    c.if-word_at-address.true
    ∙ c.loop-i.invariant

pub loop-i-preserved : goal.loop-i-preserved
loop-i-preserved c =
    let a = c.args in
    among_on a.bytes.now a.count c.loop-i.i (search rules) c.word_at.result c.word_at.ensures a.address c.if-word_at-address.false
    ∙ c.loop-i.invariant

pub returns : goal.returns
returns c =
    let a = c.args in
    among_none a.bytes.now a.count c.loop-i.i a.address (search rules) ∙ c.loop-i.invariant

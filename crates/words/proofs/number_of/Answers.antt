-- `words::number_of` meets its contract: what four bytes make is the number of the list written out, whether they are read at once or asked for one by one.
use mathlib.Core.Path.{◌∙◌}
use Rattle.words.proofs.Numbers.{first_four}
use Rattle.words.proofs.number_of.Goals as goal

pub returns : goal.returns
returns c =
    let s = c.args.s.now in
    let a = c.byte_at in
    c.number_by-2.ensures
    ∙ rw (a.ensures, c.byte_at-2.ensures, c.byte_at-3.ensures, c.byte_at-4.ensures, first_four s)

-- `host_answers::answers::again` meets its contract: its tests are those of the definition, with no sum that could wrap.
use Prim.Native.Nat.{◌+◌}
use mathlib.Core.Path.{sym, ◌∙◌}
use native.Mathlib.Omega.{arith}
use borrow.Author.Tests.{le-leb, lt-leb}
use Rattle.words.proofs.Choice.{chosen, passed}
use Rattle.host_answers.specs.rules.Answers.{again}
use Rattle.host_answers.proofs.answers.again.Goals as goal

pub returns-then-saturating_sub-host : goal.returns-then-saturating_sub-host
unfolding again
returns-then-saturating_sub-host c =
    let h = c.args.host in
    c.refuse.ensures ∙ sym (chosen _ _ _ (le-leb h.tries (h.spent + 1) (omega arith)))

pub returns : goal.returns
unfolding again
returns c =
    let h = c.args.host in
    rw (c.send.ensures, c.spend.ensures, c.repeat.ensures)
    (sym (passed _ _ _ (lt-leb h.tries (h.spent + 1) (omega arith))))

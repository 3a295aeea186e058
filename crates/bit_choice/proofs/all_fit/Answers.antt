-- `bit_choice::all_fit` meets its contract: the words that are left fit where all of them do.
use mathlib.Core.Path.{sym, ◌∙◌}
use Rattle.bit_choice.proofs.Choosing.{fit_start, fit_none, fit_not, fit_again, fit_on}
use borrow.Author.Rules.{rules}
use Rattle.bit_choice.proofs.all_fit.Goals as goal
use Rattle.bit_choice.proofs.all_fit.Goals.{then-not-may_be_chosen-via-then-not-may_be_chosen, then-not-may_be_chosen-via-else-not-may_be_chosen+then-comes_again}

pub loop-i-init : goal.loop-i-init
loop-i-init c = fit_start _ _ _

pub returns-then-not-may_be_chosen : goal.returns-then-not-may_be_chosen
returns-then-not-may_be_chosen c =
    let a = c.args in
    let word = c.word_at-address in
    elim c.then-not-may_be_chosen.branch [
      | then-not-may_be_chosen-via-then-not-may_be_chosen w ↦ fit_not a.bytes.now a.count c.loop-i.i (search rules) word.result word.ensures a.windows
          (sym c.may_be_chosen.ensures ∙ w.if-not-may_be_chosen.true)
      | then-not-may_be_chosen-via-else-not-may_be_chosen+then-comes_again w ↦ fit_again a.bytes.now a.count c.loop-i.i (search rules) word.result word.ensures
          a.windows (sym c.may_be_chosen.ensures ∙ w.if-not-may_be_chosen.false) (sym w.comes_again.ensures ∙ w.if-comes_again.true)
    ]
    ∙ c.loop-i.invariant

pub loop-i-preserved : goal.loop-i-preserved
loop-i-preserved c =
    let a = c.args in
    let word = c.word_at-address in
    fit_on a.bytes.now a.count c.loop-i.i (search rules) word.result word.ensures a.windows
    (sym c.may_be_chosen.ensures ∙ c.if-not-may_be_chosen.false)
    (sym c.comes_again.ensures ∙ c.if-comes_again.false)
    ∙ c.loop-i.invariant

pub returns : goal.returns
returns c =
    let a = c.args in
    fit_none a.bytes.now a.count c.loop-i.i a.windows (search rules) ∙ c.loop-i.invariant

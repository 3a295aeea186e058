-- `agreement::count_differing` meets its contract: what is counted and what is left to count are all that differ.
use Rattle.std.proofs.Common.{◌+◌, ◌-◌, ◌*◌, sym, ◌∙◌, arith}
use Rattle.agreement.proofs.Differing.{same_counted, other_counted, none_left}
use Rattle.agreement.proofs.count_differing.Goals as goal
use Rattle.agreement.proofs.count_differing.Goals.{then-not-is_same, else-not-is_same}

pub loop-word-preserved : goal.loop-word-preserved
loop-word-preserved c =
    let a = c.args in
    let word = c.loop-word.word in
    let rest = c.loop-word.invariant.counted in
    elim c.if-not-is_same.branch [
      | then-not-is_same w ↦
          let one = other_counted a.flash.now a.line.now (1024 - word) (1024 - (word + 1)) (4 * word) (4 * (word + 1)) (omega arith) (omega arith)
          (sym c.is_same.ensures ∙ w.if-not-is_same.true) in
          record { few = omega arith; counted = omega (arith, rest, one) }
      | else-not-is_same w ↦
          let none = same_counted a.flash.now a.line.now (1024 - word) (1024 - (word + 1)) (4 * word) (4 * (word + 1)) (omega arith) (omega arith)
          (sym c.is_same.ensures ∙ w.if-not-is_same.false) in
          record { few = omega arith; counted = omega (arith, rest, none) }
    ]

pub returns : goal.returns
returns c =
    let a = c.args in
    let word = c.loop-word.word in
    omega (arith, none_left a.flash.now a.line.now (1024 - word) (4 * word) (omega arith), c.loop-word.invariant.counted)

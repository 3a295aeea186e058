-- `agreement::first_unlike` meets its contract: the first of the words that are left is the first of all.
use Rattle.std.proofs.Common.{◌≡◌, ◌+◌, ◌-◌, ◌*◌, sym, ◌∙◌, arith}
use Rattle.agreement.proofs.Differing.{word_passed, word_found, past_all}
use Rattle.agreement.proofs.first_unlike.Goals as goal

pub returns-then-not-is_same : goal.returns-then-not-is_same
returns-then-not-is_same c =
    let a = c.args in
    let word = c.loop-word.word in
    let other = sym c.is_same.ensures ∙ c.if-not-is_same.true in
    sym (word_found a.flash.now a.line.now (1024 - word) (1024 - (word + 1)) (4 * word) (4 * (word + 1)) (omega arith) (omega arith) other)
    ∙ c.loop-word.invariant

pub loop-word-preserved : goal.loop-word-preserved
loop-word-preserved c =
    let a = c.args in
    let word = c.loop-word.word in
    let same = sym c.is_same.ensures ∙ c.if-not-is_same.false in
    sym (word_passed a.flash.now a.line.now (1024 - word) (1024 - (word + 1)) (4 * word) (4 * (word + 1)) (omega arith) (omega arith) same)
    ∙ c.loop-word.invariant

pub returns : goal.returns
returns c =
    let a = c.args in
    let word = c.loop-word.word in
    let end : 4096 ≡ 4 * word = omega arith in
    end ∙ sym (past_all a.flash.now a.line.now (1024 - word) (4 * word) (omega arith)) ∙ c.loop-word.invariant

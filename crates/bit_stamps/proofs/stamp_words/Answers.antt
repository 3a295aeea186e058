-- `bit_stamps::stamp_words` meets its contract: after i turns the entries are those that the first i places alone would give.
use Prim.Native.Nat.{◌<◌}
use mathlib.Core.Path.{◌≡◌, sym, ◌∙◌}
use native.Mathlib.Omega.{arith}
use lib.ListN.{length-take}
use lib.Seq.{get_or-take}
use Rattle.bit_stamps.proofs.Stamping.{none_chosen, one_word_more, enough}
use Rattle.bit_stamps.proofs.stamp_words.Goals as goal

pub loop-i-init : goal.loop-i-init
loop-i-init c = sym (none_chosen _ _)

pub loop-i-preserved : goal.loop-i-preserved
loop-i-preserved c =
    let a = c.args in
    let l = c.loop-i in
    let most = c.min-most.result in
    let chosen : l.i < most = omega (arith, length-take most a.places.now) in
    c.stamp_word.ensures
    ∙ rw (l.invariant, get_or-take most a.places.now l.i 0 chosen)
    (one_word_more a.entries.now a.places.now a.wrote l.i (omega (arith, length-take most a.places.now)))

pub returns : goal.returns
returns c =
    let a = c.args in
    let most = c.min-most.result in
    let all : c.loop-i.i ≡ most = omega (arith, length-take most a.places.now) in
    rw all at c.loop-i.invariant
    ∙ enough a.entries.now a.places.now a.wrote most a.count (omega arith)

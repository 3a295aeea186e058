-- `host_ear::ends_with_word` meets its contract: the bytes of a word make it again.
use Prim.Native.Nat.{ℕ}
use mathlib.Core.Bool.{◌&&◌}
use mathlib.Core.Path.{sym, ap, ◌∙◌}
use lib.Dec.{leb, eqb}
use Rattle.machine_answers.specs.rules.Replies.{one_word}
use Rattle.host_ear.specs.rules.Ear.{newest, ends_with}
use Rattle.host_ear.proofs.Words.{word_again}
use Rattle.host_ear.proofs.ends_with_word.Goals as goal

pub returns : goal.returns
unfolding ends_with one_word
returns c =
    let a = c.args in
    c.ends_with.ensures
    ∙ sym (ap (λ (n : ℕ). leb 4 a.ear.count && eqb (newest a.ear 4) n) (word_again a.word c.ranges.word.fits))

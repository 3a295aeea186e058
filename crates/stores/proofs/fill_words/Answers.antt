-- `stores::fill_words` meets its contract: after i turns the first i words are written, and the next one makes it i + 1.
use borrow.Author.Rules.{rules}
use native.Mathlib.Omega.{arith}
use Rattle.words.specs.rules.Bytes.{put}
use Rattle.stores.specs.rules.Stores.{filled}
use Rattle.stores.proofs.Filling.{filled_word}
use Rattle.stores.proofs.fill_words.Goals as goal

pub loop-i-init : goal.loop-i-init
unfolding filled put
loop-i-init c = search rules

pub loop-i-preserved : goal.loop-i-preserved
loop-i-preserved c =
    let a = c.args in
    let l = c.loop-i in
    rw (c.write.ensures.m_after, l.invariant) (filled_word a.memory.now a.place l.i a.word (omega arith) (omega arith))

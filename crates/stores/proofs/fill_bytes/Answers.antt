-- `stores::fill_bytes` meets its contract: the words and the low bytes of one more are a fill by the widened word, which is the fill by the unit.
use mathlib.Core.Path.{sym, ◌∙◌}
use native.Mathlib.Omega.{arith}
use Rattle.words.proofs.Puts.{put_past}
use Rattle.stores.specs.rules.Stores.{filled}
use Rattle.stores.proofs.Filling.{filled_whole}
use Rattle.stores.proofs.fill_bytes.Goals as goal

pub returns-then-memory-place : goal.returns-then-memory-place
unfolding filled
returns-then-memory-place c = sym (put_past _ _ _ _ c.if-memory-place.true)

pub returns : goal.returns
returns c =
    let a = c.args in
    let wide = c.widened-word in
    rw c.fill_words.ensures at c.put_low.ensures
    ∙ filled_whole a.memory.now a.place a.size a.unit a.pattern wide.result _ _ wide.ensures (omega arith) (omega arith)

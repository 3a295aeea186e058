-- `stores::load` meets its contract: the bytes are copied, and while the checksum is on address, size and data are fed in this order. The data are then
-- at their place. Of the size the checksum takes the low 32 bits.
use Prim.Native.Nat.{ℕ, ◌+◌, ◌/◌}
use mathlib.Core.Path.{sym, ap, ◌∙◌}
use native.Mathlib.Nat.{le_refl}
use lib.ListN.{length}
use Rattle.words.proofs.Choice.{chosen, passed}
use Rattle.checksum.specs.rules.Checksum.{fed, fed_words}
use Rattle.checksum.proofs.Laws.{fed_low}
use native.Mathlib.Omega.{arith}
use Rattle.stores.specs.rules.Stores.{words_fed, load_fed}
use Rattle.stores.proofs.Loading.{loaded_there}
use Rattle.stores.proofs.load.Goals as goal

pub feed_copied-requires : goal.feed_copied-requires
feed_copied-requires c inside =
    let a = c.args in
    rw c.copy.ensures (loaded_there a.memory.now a.place a.bytes.now (omega arith))

pub returns-then-on : goal.returns-then-on
unfolding load_fed fed_words
returns-then-on c =
    let a = c.args in
    let bytes = a.bytes.now in
    let head = c.feed_word-head.ensures ∙ fed_low _ (length bytes) 32 32 (le_refl 32)
    ∙ ap (λ (r : ℕ). fed r (length bytes) 32) c.feed_word.ensures in record {
      value = c.feed_copied.ensures ∙ ap (λ (r : ℕ). words_fed r ((length bytes + 3) / 4) bytes) head
          ∙ sym (chosen _ _ _ c.if-on.true);
      memory_after = c.copy.ensures;
    }

pub returns : goal.returns
returns c = record { value = sym (passed _ _ _ c.if-on.false); memory_after = c.copy.ensures }

-- `bit_stamps::stamp_word` meets its contract: the word's bits below the first that was written, and those below the end, bound what is stamped.
use Rattle.bit_stamps.specs.rules.Stamps.{word_stamped}
use Rattle.bit_stamps.proofs.Stamping.{word_kept}
use Rattle.bit_stamps.proofs.stamp_word.Goals as goal

pub returns-then-to-from : goal.returns-then-to-from
returns-then-to-from c = word_kept _ _ _ _ _ _ c.bits_below-from.ensures c.bits_below_end-to.ensures c.if-to-from.true

pub returns : goal.returns
unfolding word_stamped
returns c =
    rw (
      c.stamp_bits.ensures,
      c.bits_below_end-to.ensures,
      c.bits_below-from.ensures,
    )

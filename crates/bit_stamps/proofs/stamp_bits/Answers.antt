-- `bit_stamps::stamp_bits` meets its contract: after i turns the first i entries are written, two bytes each.
use borrow.Author.Rules.{rules}
use Rattle.words.specs.rules.Bytes.{put}
use Rattle.bit_stamps.proofs.Stamping.{two_more}
use Rattle.bit_stamps.proofs.stamp_bits.Goals as goal

pub loop-i-init : goal.loop-i-init
unfolding put
loop-i-init c = search rules

pub loop-i-preserved : goal.loop-i-preserved
loop-i-preserved c =
    rw (
      c.put_byte-in-loop-i.ensures,
      c.put_byte.ensures,
      c.loop-i.invariant,
      c.byte_of-high.ensures,
      c.byte_of-low.ensures,
    ) (two_more _ _ _ _)

-- `bench::registers::put_words` meets its contract: word by word.
use Rattle.bench.specs.rules.Registers.{five_written}
use Rattle.bench.proofs.registers.put_words.Goals as goal

pub returns : goal.returns
unfolding five_written
returns c =
    rw (
      c.write-5.ensures.m_after,
      c.write-4.ensures.m_after,
      c.write-3.ensures.m_after,
      c.write-2.ensures.m_after,
      c.write.ensures.m_after,
    )

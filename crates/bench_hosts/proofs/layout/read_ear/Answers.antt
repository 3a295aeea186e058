-- `bench_hosts::layout::read_ear` meets its contract: each part is what was read.
use Rattle.bench_hosts.proofs.layout.read_ear.Goals as goal

pub returns : goal.returns
returns c =
    rw (
      c.is_set.ensures,
      c.byte_at-2.ensures,
      c.byte_at.ensures,
      c.join.ensures,
      c.word_at-2.ensures,
      c.word_at.ensures,
    )

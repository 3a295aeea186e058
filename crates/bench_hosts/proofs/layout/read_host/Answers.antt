-- `bench_hosts::layout::read_host` meets its contract: each part is what was read.
use Rattle.bench_hosts.specs.rules.HostBytes.{read_host}
use Rattle.bench_hosts.proofs.layout.read_host.Goals as goal

pub returns : goal.returns
unfolding read_host
returns c =
    rw (
      c.read_ear.ensures,
      c.read_stage.ensures,
      c.word_at-5.ensures,
      c.word_at-4.ensures,
      c.byte_at-5.ensures,
      c.is_set.ensures,
      c.byte_at-4.ensures,
      c.byte_at-3.ensures,
      c.word_at-3.ensures,
      c.word_at-2.ensures,
      c.word_at.ensures,
      c.dialect_of.ensures,
      c.byte_at-2.ensures,
      c.line_of.ensures,
      c.byte_at.ensures,
    )

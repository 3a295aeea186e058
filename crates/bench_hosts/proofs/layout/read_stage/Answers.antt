-- `bench_hosts::layout::read_stage` meets its contract: each part is what was read.
use Rattle.bench_hosts.proofs.layout.read_stage.Goals as goal

pub returns : goal.returns
returns c =
    rw (
      c.wait_of.ensures,
      c.word_at.ensures,
      c.byte_at-2.ensures,
      c.command_of-command.ensures,
      c.byte_at.ensures,
    )

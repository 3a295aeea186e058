-- `bench::report` meets its contract: the four numbers are those of the answer.
use Rattle.bench.specs.rules.Runs.{reported}
use Rattle.bench.proofs.report.Goals as goal

pub pack-requires : goal.pack-requires
pack-requires c = c.requires

pub returns : goal.returns
unfolding reported
returns c = rw c.code_of.ensures at c.pack.ensures

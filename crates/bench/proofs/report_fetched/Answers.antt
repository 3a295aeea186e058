-- `bench::report_fetched` meets its contract: the count is below the refusal's unit, so that no shift and no sum wraps.
use native.Mathlib.Omega.{arith}
use Rattle.bench.specs.rules.Fetched.{fetched_report}
use Rattle.bench.proofs.report_fetched.Goals as goal

pub returns : goal.returns
unfolding fetched_report
returns c = omega (arith, c.code_of.ensures)

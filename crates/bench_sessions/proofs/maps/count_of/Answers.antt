-- `bench_sessions::maps::count_of` meets its contract: each way is one side of the choice.
use mathlib.Core.Path.{sym}
use borrow.Author.Tests.{eq-eqb, ne_eqb}
use Rattle.words.proofs.Choice.{chosen, passed}
use Rattle.bench_sessions.specs.rules.Map.{count_of}
use Rattle.bench_sessions.proofs.maps.count_of.Goals as goal

pub returns-then-map-eq0 : goal.returns-then-map-eq0
unfolding count_of
returns-then-map-eq0 c = sym (chosen _ _ _ (eq-eqb _ _ c.if-map-eq0.true))

pub returns : goal.returns
unfolding count_of
returns c = sym (passed _ _ _ (ne_eqb _ _ c.if-map-eq0.false))

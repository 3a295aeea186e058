-- `bench_hosts::are_named` meets its contract: its tests are those of the definition.
use borrow.Author.Tests.{le-leb, lt-leb}
use Rattle.bench_hosts.specs.rules.HostCalls.{are_named}
use Rattle.bench_hosts.proofs.are_named.Goals as goal

pub returns-then-line-le1 : goal.returns-then-line-le1
unfolding are_named
returns-then-line-le1 c = simp (le-leb _ _ c.if-line-le1.true)

pub returns : goal.returns
unfolding are_named
returns c = simp (lt-leb _ _ c.if-line-le1.false)

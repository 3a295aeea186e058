-- `bench_hosts::sent_value` meets its contract: each arm is one case of the definition, and a stretch is a part of an image.
use mathlib.Core.Path.{ap, subst}
use native.Mathlib.Omega.{arith}
use Rattle.bench_hosts.specs.rules.HostCalls.{sent_value}
use Rattle.bench_hosts.specs.claims.Outgoing.{InImage}
use Rattle.bench_hosts.proofs.sent_value.Goals as goal

pub overflow_sub-result : goal.overflow_sub-result
overflow_sub-result c = omega (arith, subst InImage c.in-Stretch.is c.requires)

pub returns-in-Word : goal.returns-in-Word
returns-in-Word c = record { value = omega (arith, ap sent_value c.in-Word.is); upper_bound = omega arith }

pub returns-in-Stretch : goal.returns-in-Stretch
returns-in-Stretch c =
    let part = subst InImage c.in-Stretch.is c.requires in
    record { value = omega (arith, ap sent_value c.in-Stretch.is, part); upper_bound = omega (arith, part) }

-- `bench_hosts::layout::command_of` meets its contract: each arm is one number, and the last is all others.
use native.Mathlib.Omega.{arith}
use mathlib.Core.Path.{sym, ap}
use Rattle.words.specs.rules.Choice.{pick}
use Rattle.bench_hosts.specs.rules.HostBytes.{command_of}
use Rattle.bench_hosts.proofs.Laying.{other_command}
use Rattle.bench_hosts.proofs.layout.command_of.Goals as goal

pub returns-in-0 : goal.returns-in-0
unfolding command_of pick
returns-in-0 c = sym (ap command_of c.in-0.is)

pub returns-in-1 : goal.returns-in-1
unfolding command_of pick
returns-in-1 c = sym (ap command_of c.in-1.is)

pub returns-in-2 : goal.returns-in-2
unfolding command_of pick
returns-in-2 c = sym (ap command_of c.in-2.is)

pub returns-in-3 : goal.returns-in-3
unfolding command_of pick
returns-in-3 c = sym (ap command_of c.in-3.is)

pub returns-in-4 : goal.returns-in-4
unfolding command_of pick
returns-in-4 c = sym (ap command_of c.in-4.is)

pub returns-in-5 : goal.returns-in-5
unfolding command_of pick
returns-in-5 c = sym (ap command_of c.in-5.is)

pub returns-in-6 : goal.returns-in-6
unfolding command_of pick
returns-in-6 c = sym (ap command_of c.in-6.is)

pub returns-in-7 : goal.returns-in-7
unfolding command_of pick
returns-in-7 c = sym (ap command_of c.in-7.is)

pub returns-in-8 : goal.returns-in-8
unfolding command_of pick
returns-in-8 c = sym (ap command_of c.in-8.is)

pub returns-in_default : goal.returns-in_default
returns-in_default c =
    other_command _ (omega arith) (omega arith) (omega arith) (omega arith) (omega arith) (omega arith) (omega arith) (omega arith) (omega arith)

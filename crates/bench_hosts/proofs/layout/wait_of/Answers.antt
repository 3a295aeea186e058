-- `bench_hosts::layout::wait_of` meets its contract: each arm is one number, and the last is all others.
use native.Mathlib.Omega.{arith}
use Prim.Native.Nat.{ℕ}
use mathlib.Core.Path.{sym, ap}
use Rattle.words.specs.rules.Choice.{pick}
use Rattle.bench_hosts.specs.rules.HostBytes.{wait_of}
use Rattle.bench_hosts.proofs.Laying.{other_wait}
use Rattle.bench_hosts.proofs.layout.wait_of.Goals as goal

pub returns-in-0 : goal.returns-in-0
unfolding wait_of pick
returns-in-0 c = sym (ap (λ (n : ℕ). wait_of n c.args.command c.args.value) c.in-0.is)

pub returns-in-1 : goal.returns-in-1
unfolding wait_of pick
returns-in-1 c = sym (ap (λ (n : ℕ). wait_of n c.args.command c.args.value) c.in-1.is)

pub returns-in-2 : goal.returns-in-2
unfolding wait_of pick
returns-in-2 c = sym (ap (λ (n : ℕ). wait_of n c.args.command c.args.value) c.in-2.is)

pub returns-in-3 : goal.returns-in-3
unfolding wait_of pick
returns-in-3 c = sym (ap (λ (n : ℕ). wait_of n c.args.command c.args.value) c.in-3.is)

pub returns-in-4 : goal.returns-in-4
unfolding wait_of pick
returns-in-4 c = sym (ap (λ (n : ℕ). wait_of n c.args.command c.args.value) c.in-4.is)

pub returns-in-5 : goal.returns-in-5
unfolding wait_of pick
returns-in-5 c = sym (ap (λ (n : ℕ). wait_of n c.args.command c.args.value) c.in-5.is)

pub returns-in-6 : goal.returns-in-6
unfolding wait_of pick
returns-in-6 c = sym (ap (λ (n : ℕ). wait_of n c.args.command c.args.value) c.in-6.is)

pub returns-in_default : goal.returns-in_default
returns-in_default c =
    other_wait _ _ _ (omega arith) (omega arith) (omega arith) (omega arith) (omega arith) (omega arith) (omega arith)

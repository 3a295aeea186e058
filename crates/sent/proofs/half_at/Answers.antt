-- `sent::half_at` meets its contract: two bytes are the half, and past the last half `get_or` is its default.
use Prim.Native.Nat.{◌≤◌, ◌<◌}
use mathlib.Core.Path.{sym, ◌∙◌}
use native.Mathlib.Omega.{arith}
use lib.ListN.{length, get_or-eq_default}
use Rattle.sent.specs.rules.Bus.{halves_of}
use Rattle.sent.proofs.Units.{halves_count, half_at}
use Rattle.sent.proofs.half_at.Goals as goal

pub returns-then-i-fed : goal.returns-then-i-fed
returns-then-i-fed c =
    let bytes = c.args.fed.now in
    let inside : c.args.i < length (halves_of bytes) = omega (arith, halves_count bytes, c.if-i-fed.true) in
    c.half_of.ensures ∙ sym (half_at bytes c.args.i inside)

pub returns : goal.returns
returns c =
    let a = c.args in
    let bytes = a.fed.now in
    let past : length (halves_of bytes) ≤ a.i = omega (arith, halves_count bytes, c.if-i-fed.false) in
    sym (get_or-eq_default (halves_of bytes) 0 past)

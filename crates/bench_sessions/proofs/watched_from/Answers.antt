-- `bench_sessions::watched_from` meets its contract: barred, nothing is touched; else it is the session from its opening.
use Prim.Native.Nat.{◌*◌, ◌^◌}
use mathlib.Core.Path.{sym, ap, ◌∙◌}
use Rattle.opcodes.specs.rules.Answers.{code_of}
use Rattle.opcodes.specs.rules.Refusals.{Verdict}
use Rattle.opcodes.proofs.Verdicts.{some_of, none_of}
use Rattle.bench_sessions.proofs.SessionCases.{watched_barred, watched_begun}
use Rattle.bench_sessions.proofs.watched_from.Goals as goal

pub returns-in-Some : goal.returns-in-Some
returns-in-Some c =
    let a = c.args in
    let barred = c.in-Some.is in
    watched_barred a.bus a.opened a.choice a.memory.now a.numbers.now a.fed.now a.room.now c.bar-barred.ensures
    c.sum.ensures (some_of _ barred) (c.refuse.ensures ∙ sym (ap (λ (q : Verdict). code_of q * 2 ^ 32) barred))

pub session_from-requires : goal.session_from-requires
session_from-requires c = c.requires

pub returns : goal.returns
returns c =
    let a = c.args in
    c.session_from.ensures
    ∙ watched_begun a.bus a.opened a.choice a.memory.now a.numbers.now a.fed.now a.room.now c.bar-barred.ensures
    c.sum.ensures (none_of _ c.in_default.not-Some)

-- `bench_sessions::line_session` meets its contract: the session on the line that the number names; with another number nothing is touched.
use Prim.Native.Nat.{ℕ}
use mathlib.Core.Path.{sym, ap, ◌∙◌}
use Rattle.bench_sessions.specs.rules.Feeding.{outcome}
use Rattle.bench_sessions.proofs.SessionCases.{on_bytes, on_halves, on_none}
use Rattle.bench_sessions.proofs.line_session.Goals as goal

pub returns-then-line-eq0 : goal.returns-then-line-eq0
returns-then-line-eq0 c =
    let a = c.args in
    rw (on_bytes _ a.map.now a.memory.now a.fed.now a.room.now a.line c.if-line-eq0.true)
    c.session_on.ensures

pub returns-then-line-eq1 : goal.returns-then-line-eq1
returns-then-line-eq1 c =
    let a = c.args in
    rw (on_halves _ a.map.now a.memory.now a.fed.now a.room.now a.line c.if-line-eq0.false c.if-line-eq1.true)
    c.session_on-then-line-eq1.ensures

pub returns : goal.returns
returns c =
    let a = c.args in
    ap (λ (value : ℕ). outcome value a.memory.now a.room.now) c.refuse.ensures
    ∙ sym (on_none _ a.map.now a.memory.now a.fed.now a.room.now a.line c.if-line-eq0.false c.if-line-eq1.false)

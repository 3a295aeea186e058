-- `bench_sessions::bits_session` meets its contract: 19 for a line or a dialect that there is not; else the session with numbers from its opening, which has
-- gathered nothing yet.
use Prim.Native.Nat.{ℕ}
use mathlib.Core.Path.{sym, ap, ◌∙◌}
use Rattle.bench_sessions.specs.rules.Numbers.{watched}
use Rattle.bench_sessions.proofs.SessionCases.{bits_line, bits_dialect, bits_watched}
use Rattle.bench_sessions.proofs.Fitting.{numbered_idle}
use Rattle.bench_sessions.proofs.bits_session.Goals as goal

pub returns-then-line-gt1 : goal.returns-then-line-gt1
returns-then-line-gt1 c =
    let a = c.args in
    ap (λ (value : ℕ). watched value a.memory.now a.numbers.now a.room.now) c.refuse.ensures
    ∙ sym (bits_line a.line a.dialect a.map.now a.chosen.now a.memory.now a.numbers.now a.fed.now a.room.now
    c.if-line-gt1.true)

pub returns-then-dialect-gt1 : goal.returns-then-dialect-gt1
returns-then-dialect-gt1 c =
    let a = c.args in
    ap (λ (value : ℕ). watched value a.memory.now a.numbers.now a.room.now) c.refuse-then-dialect-gt1.ensures
    ∙ sym (bits_dialect a.line a.dialect a.map.now a.chosen.now a.memory.now a.numbers.now a.fed.now a.room.now
    c.if-line-gt1.false c.if-dialect-gt1.true)

pub watched_from-requires : goal.watched_from-requires
watched_from-requires c = rw c.open_numbering-opened.ensures (numbered_idle _ _ _ _)

pub returns : goal.returns
returns c =
    let a = c.args in
    let led = rw (
      c.choose_on.ensures,
      c.open_numbering-opened.ensures,
      c.windows_of.ensures,
      c.count_of.ensures,
      c.dialect_of.ensures,
      c.line_of-bus.ensures,
    ) at c.watched_from.ensures in
    led ∙ sym (bits_watched a.line a.dialect a.map.now a.chosen.now a.memory.now a.numbers.now a.fed.now a.room.now
    c.if-line-gt1.false c.if-dialect-gt1.false)

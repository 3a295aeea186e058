-- `bench_sessions::session_on` meets its contract: the session from the opening, which has gathered nothing yet.
use mathlib.Core.Path.{ap}
use Rattle.bench_sessions.specs.rules.Numbers.{Watched}
use Rattle.bench_sessions.proofs.Fitting.{opened_idle}
use Rattle.bench_sessions.proofs.session_on.Goals as goal

pub session_from-requires : goal.session_from-requires
session_from-requires c = rw c.open_on-opened.ensures (opened_idle _ _ _ _)

pub returns : goal.returns
returns c =
    let plain = ap (λ (w : Watched). w.session) c.session_from.ensures in
    rw (c.open_on-opened.ensures, c.windows_of.ensures, c.count_of.ensures) at plain

-- `bench_sessions::choose_on` meets its contract: the choice on the windows that the map's bytes hold.
use Rattle.bench_sessions.proofs.choose_on.Goals as goal

pub returns : goal.returns
returns c = rw (c.kept-windows.ensures, c.windows_of.ensures, c.count_of.ensures) at c.choose.ensures

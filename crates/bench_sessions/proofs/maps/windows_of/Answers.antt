-- `bench_sessions::maps::windows_of` meets its contract: window by window.
use Rattle.bench_sessions.specs.rules.Map.{windows_of}
use Rattle.bench_sessions.proofs.maps.windows_of.Goals as goal

pub returns : goal.returns
unfolding windows_of
returns c =
    rw (
      c.window_at-8.ensures,
      c.window_at-7.ensures,
      c.window_at-6.ensures,
      c.window_at-5.ensures,
      c.window_at-4.ensures,
      c.window_at-3.ensures,
      c.window_at-2.ensures,
      c.window_at.ensures,
    )

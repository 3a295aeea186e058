-- `bench_sessions::maps::window_at` meets its contract: its three words are those of the window, and past the end each is 0.
use Prim.Native.Nat.{ℕ, ◌+◌, ◌*◌, ◌≤◌}
use mathlib.Core.List.{List}
use mathlib.Core.Path.{◌≡◌, ap}
use native.Mathlib.Omega.{arith}
use lib.ListN.{length, take, drop_of_length-le}
use Rattle.words.specs.rules.Bytes.{number, bytes_at, word_at}
use Rattle.bench_sessions.specs.rules.Map.{window_at}
use Rattle.bench_sessions.proofs.maps.window_at.Goals as goal

-- a word past the end is 0
past : (bytes : List ℕ) (at : ℕ) → length bytes ≤ at → word_at bytes at ≡ 0
unfolding word_at bytes_at number
past bytes at beyond = ap (λ (x : List ℕ). number (take 4 x)) (drop_of_length-le bytes beyond)

pub returns-then-map-i : goal.returns-then-map-i
unfolding window_at
returns-then-map-i c =
    let bytes = c.args.map.now in
    let i = c.args.i in
    let beyond = c.if-map-i.true in
    rw (past bytes (12 * i) (omega (arith, beyond)), past bytes (12 * i + 4) (omega (arith, beyond)), past bytes (12 * i + 8) (omega (arith, beyond)))

pub returns : goal.returns
unfolding window_at
returns c = rw (c.word_at-rights.ensures, c.word_at-length.ensures, c.word_at-first.ensures)

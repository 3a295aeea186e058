-- `bench_sessions::room_for` meets its contract: each line has its own room for a unit, and so few units fit.
use borrow.Author.Rules.{rules}
use Prim.Native.Nat.{◌+◌, ◌*◌}
use mathlib.Core.Path.{sym, ap}
use Rattle.sent.specs.declared.Bus.{Bus}
use Rattle.bench_sessions.specs.rules.Feeding.{opening_room, unit_room}
use Rattle.bench_sessions.proofs.room_for.Goals as goal

pub returns-in-Bytes : goal.returns-in-Bytes
returns-in-Bytes c = sym (ap (λ (bus : Bus). opening_room bus + unit_room bus * c.args.n) c.in-Bytes.is)

pub returns-in-Halves : goal.returns-in-Halves
returns-in-Halves c = rw c.in-Halves.is (search rules)

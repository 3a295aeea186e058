-- `bench_sessions::units_in` meets its contract: a byte is a unit by itself, and two bytes are a half.
use borrow.Author.Rules.{rules}
use Prim.Native.Nat.{◌/◌}
use mathlib.Core.Path.{sym, ap}
use Rattle.sent.specs.declared.Bus.{Bus}
use Rattle.bench_sessions.specs.rules.Feeding.{unit_bytes}
use Rattle.bench_sessions.proofs.units_in.Goals as goal

pub returns-in-Bytes : goal.returns-in-Bytes
returns-in-Bytes c = rw c.in-Bytes.is (search rules)

pub returns-in-Halves : goal.returns-in-Halves
returns-in-Halves c = sym (ap (λ (bus : Bus). c.args.lent / unit_bytes bus) c.in-Halves.is)

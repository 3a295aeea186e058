-- `bench_events::room_for` meets its contract: it is the definition, and the product is small.
use Rattle.std.proofs.Common.{◌≡◌, ◌<◌, ◌≤◌, ℕ, min, ◌+◌, ◌*◌, ◌/◌, ap, arith}
use Rattle.std.proofs.Math.Nat.{mul-le-mul}
use Rattle.flash_runs.specs.rules.Events.{most_events}
use Rattle.bench_events.proofs.room_for.Goals as goal

-- the calls times the waits of an image are few
few : (limit length counted : ℕ) → limit < 256 → counted ≡ min length 65536 → (limit + 1) * (counted / 20) ≤ 256 * 3276
few limit length counted calls most = mul-le-mul {n₁ = limit + 1} {m₁ = counted / 20} {n₂ = 256} {m₂ = 3276} (omega arith) (omega arith)

pub overflow_mul-result : goal.overflow_mul-result
overflow_mul-result c = omega (arith, few c.args.limit c.args.length c.min-waits.result (omega arith) c.min-waits.ensures)

pub overflow_add-result-2 : goal.overflow_add-result-2
overflow_add-result-2 c = omega (arith, few c.args.limit c.args.length c.min-waits.result (omega arith) c.min-waits.ensures)

pub overflow_mul-result-2 : goal.overflow_mul-result-2
overflow_mul-result-2 c = omega (arith, few c.args.limit c.args.length c.min-waits.result (omega arith) c.min-waits.ensures)

pub returns : goal.returns
unfolding most_events
returns c = ap (λ (n : ℕ). 8 * ((c.args.limit + 1) * (n / 20) + 1)) c.min-waits.ensures

-- Two results that meet one contract of telling events, of a run or an exchange that tells them, or of its entry for C coincide, as for every other public
-- function (`Uniqueness`), and so do the memories, the entries and the rooms at exit.
use Prim.Native.Nat.{ℕ}
use mathlib.Core.Path.{◌≡◌, ap₂}
use Rattle.flash_session.specs.declared.Called.{Called}
use Rattle.flash_runs.specs.declared.Ran.{Ran}
use Rattle.event_room.proofs.tell.Reads as tell
use Rattle.flash_runs.proofs.run_from.Reads as run-from
use Rattle.flash_runs.proofs.run_told.Reads as run-told
use Rattle.exchange.proofs.exchange.Reads as exchange
use Rattle.agreement.proofs.compare.Reads as compare
use Rattle.bench_events.proofs.flash_events.Reads as flash-events
use Rattle.bench_events.proofs.host_events.Reads as host-events
use Rattle.bench.proofs.events.ais_flash_events.Reads as ais-flash-events
use Rattle.bench.proofs.events.ais_host_events.Reads as ais-host-events
use Rattle.claims.proofs.FeedingUniqueness.{same_parts}
use Rattle.claims.proofs.Uniqueness.{Coincide, OneResultAndMemory, same, both_same}

-- runs that agree in both parts
same_ran : {r s : Ran} → r.called ≡ s.called → r.told ≡ s.told → r ≡ s
same_ran a b = ap₂ (λ (called : Called) (told : ℕ). record { called = called; told = told }) a b

pub tell_unique : OneResultAndMemory tell.Post (λ κs e. e.0.now)
tell_unique κs a r s e f = both_same

pub run_from_unique : Coincide run-from.Post
    (λ κs r s e f. (r ≡ s)
    × ((e.1.1.1.0.now ≡ f.1.1.1.0.now)
    × ((e.1.1.1.1.1.0.now ≡ f.1.1.1.1.1.0.now)
    × ((e.1.1.1.1.1.1.0.now ≡ f.1.1.1.1.1.1.0.now) × (e.1.1.1.1.1.1.1.0.now ≡ f.1.1.1.1.1.1.1.0.now)))))
run_from_unique κs a r s e f p q = (
  same_ran (same p.0 q.0) (same p.1.1.1.1.0 q.1.1.1.1.0),
  (
    same p.1.0 q.1.0,
    (same p.1.1.0 q.1.1.0, (same p.1.1.1.0 q.1.1.1.0, same p.1.1.1.1.1 q.1.1.1.1.1)),
  ),
)

pub run_told_unique : Coincide run-told.Post (λ κs r s e f. (r ≡ s) × ((e.1.0.now ≡ f.1.0.now) × (e.1.1.1.0.now ≡ f.1.1.1.0.now)))
run_told_unique κs a r s e f p q =
    (same_ran (same p.0 q.0) (same p.1.1.0 q.1.1.0), (same p.1.0 q.1.0, same p.1.1.1 q.1.1.1))

pub exchange_unique : Coincide exchange.Post
    (λ κs r s e f. (r ≡ s)
    × ((e.1.1.1.1.0.now ≡ f.1.1.1.1.0.now)
    × (e.1.1.1.1.1.1.1.1.1.0.now ≡ f.1.1.1.1.1.1.1.1.1.0.now)))
exchange_unique κs a r s e f p q = (same p.0 q.0, both_same p.1 q.1)

-- for C
pub flash_events_unique : Coincide flash-events.Post
    (λ κs r s e f. (r ≡ s) × ((e.1.1.0.now ≡ f.1.1.0.now) × (e.1.1.1.1.1.0.now ≡ f.1.1.1.1.1.0.now)))
flash_events_unique κs a r s e f = same_parts

pub host_events_unique : Coincide host-events.Post
    (λ κs r s e f. (r ≡ s)
    × ((e.1.1.1.0.now ≡ f.1.1.1.0.now) × (e.1.1.1.1.1.1.1.1.0.now ≡ f.1.1.1.1.1.1.1.1.0.now)))
host_events_unique κs a r s e f = same_parts

pub ais_flash_events_unique : Coincide ais-flash-events.Post
    (λ κs r s e f. (r ≡ s) × ((e.1.1.0.now ≡ f.1.1.0.now) × (e.1.1.1.1.1.0.now ≡ f.1.1.1.1.1.0.now)))
ais_flash_events_unique κs a r s e f = same_parts

pub ais_host_events_unique : Coincide ais-host-events.Post
    (λ κs r s e f. (r ≡ s)
    × ((e.1.1.1.0.now ≡ f.1.1.1.0.now) × (e.1.1.1.1.1.1.1.1.0.now ≡ f.1.1.1.1.1.1.1.1.0.now)))
ais_host_events_unique κs a r s e f = same_parts

pub compare_unique : Coincide compare.Post
    (λ κs r s e f. (r ≡ s)
    × ((e.1.1.1.1.0.now ≡ f.1.1.1.1.0.now) × (e.1.1.1.1.1.0.now ≡ f.1.1.1.1.1.0.now)))
compare_unique κs a r s e f p q = (same p.0 q.0, (same p.1.0 q.1.0, same p.1.1 q.1.1))

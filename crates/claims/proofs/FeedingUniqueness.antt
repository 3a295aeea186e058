-- Two results that meet one contract coincide, and so do memory, room and numbers at exit, for whole sessions on lent bytes, with numbers and without
-- (`Uniqueness`): each contract says that all of them together are one outcome.
use Prim.Native.Nat.{ℕ}
use mathlib.Core.List.{List}
use mathlib.Core.Path.{◌≡◌, ap}
use Rattle.bench_sessions.proofs.clear.Reads as clear
use Rattle.bench_sessions.proofs.session_on.Reads as session-on
use Rattle.bench_sessions.proofs.line_session.Reads as line-session
use Rattle.bench_sessions.proofs.choose_on.Reads as choose-on
use Rattle.bench_sessions.proofs.bar.Reads as feeding-bar
use Rattle.bench_sessions.proofs.dialect_of.Reads as dialect-of
use Rattle.bench_sessions.proofs.bits_session.Reads as bits-session
use Rattle.bench.proofs.ais_sent_session.Reads as ais-sent-session
use Rattle.bench.proofs.ais_half_session.Reads as ais-half-session
use Rattle.bench.proofs.ais_dm648_session.Reads as ais-dm648-session
use Rattle.bench.proofs.ais_bits_session.Reads as ais-bits-session
use Rattle.bench.proofs.ais_bits_run.Reads as ais-bits-run
use Rattle.bench_sessions.specs.rules.Feeding.{SessionOutcome, outcome}
use Rattle.bench_sessions.specs.rules.Numbers.{Watched, watched}
use Rattle.claims.proofs.Uniqueness.{Coincide, OneResult, OneMemory, same, both_same}

-- two outcomes that are one agree in their parts
pub same_parts : {v w : ℕ} {m n room rest : List ℕ} {x : SessionOutcome} → outcome v m room ≡ x → outcome w n rest ≡ x → (v ≡ w) × ((m ≡ n) × (room ≡ rest))
same_parts p q =
    let one = same p q in
    (ap (λ (o : SessionOutcome). o.value) one, (ap (λ (o : SessionOutcome). o.memory) one, ap (λ (o : SessionOutcome). o.room) one))

-- and so with numbers
same_watched : {v w : ℕ} {m n numbers others room rest : List ℕ} {x : Watched} → watched v m numbers room ≡ x → watched w n others rest ≡ x
    → (v ≡ w) × ((m ≡ n) × ((room ≡ rest) × (numbers ≡ others)))
same_watched p q =
    let one = same_parts (ap (λ (o : Watched). o.session) p) (ap (λ (o : Watched). o.session) q) in
    (one.0, (one.1.0, (one.1.1, ap (λ (o : Watched). o.numbers) (same p q))))

-- feeding: a memory and a room, and numbers where words are chosen
pub clear_unique : OneMemory clear.Post (λ κs e. e.0.now)
clear_unique κs a r s e f = same

pub choose_on_unique : OneResult choose-on.Post
choose_on_unique κs a r s e f = same

pub feeding_bar_unique : OneResult feeding-bar.Post
feeding_bar_unique κs a r s e f = same

pub dialect_of_unique : OneResult dialect-of.Post
dialect_of_unique κs a r s e f = same

pub session_on_unique : Coincide session-on.Post
    (λ κs r s e f. (r ≡ s) × ((e.1.1.1.0.now ≡ f.1.1.1.0.now) × (e.1.1.1.1.1.0.now ≡ f.1.1.1.1.1.0.now)))
session_on_unique κs a r s e f = same_parts

pub line_session_unique : Coincide line-session.Post
    (λ κs r s e f. (r ≡ s) × ((e.1.1.1.0.now ≡ f.1.1.1.0.now) × (e.1.1.1.1.1.0.now ≡ f.1.1.1.1.1.0.now)))
line_session_unique κs a r s e f = same_parts

pub bits_session_unique : Coincide bits-session.Post
    (λ κs r s e f. (r ≡ s)
    × ((e.1.1.1.1.0.now ≡ f.1.1.1.1.0.now)
    × ((e.1.1.1.1.1.1.1.0.now ≡ f.1.1.1.1.1.1.1.0.now) × (e.1.1.1.1.1.0.now ≡ f.1.1.1.1.1.0.now))))
bits_session_unique κs a r s e f = same_watched

-- bench
pub ais_sent_session_unique : Coincide ais-sent-session.Post
    (λ κs r s e f. (r ≡ s) × ((e.1.0.now ≡ f.1.0.now) × (e.1.1.1.0.now ≡ f.1.1.1.0.now)))
ais_sent_session_unique κs a r s e f = same_parts

pub ais_half_session_unique : Coincide ais-half-session.Post
    (λ κs r s e f. (r ≡ s) × ((e.1.0.now ≡ f.1.0.now) × (e.1.1.1.0.now ≡ f.1.1.1.0.now)))
ais_half_session_unique κs a r s e f = same_parts

pub ais_dm648_session_unique : Coincide ais-dm648-session.Post
    (λ κs r s e f. (r ≡ s) × ((e.1.1.0.now ≡ f.1.1.0.now) × (e.1.1.1.1.0.now ≡ f.1.1.1.1.0.now)))
ais_dm648_session_unique κs a r s e f = same_parts

pub ais_bits_session_unique : Coincide ais-bits-session.Post
    (λ κs r s e f. (r ≡ s)
    × ((e.1.1.1.1.0.now ≡ f.1.1.1.1.0.now)
    × ((e.1.1.1.1.1.1.1.0.now ≡ f.1.1.1.1.1.1.1.0.now) × (e.1.1.1.1.1.0.now ≡ f.1.1.1.1.1.0.now))))
ais_bits_session_unique κs a r s e f = same_watched

pub ais_bits_run_unique : Coincide ais-bits-run.Post
    (λ κs r s e f. (r ≡ s) × ((e.1.1.1.0.now ≡ f.1.1.1.0.now) × (e.1.1.1.1.0.now ≡ f.1.1.1.1.0.now)))
ais_bits_run_unique κs a r s e f p q = (same p.0 q.0, both_same p.1 q.1)

-- Two results that meet one contract of choosing, stamping or a watched step coincide, as for every other public function (`Uniqueness`), and so
-- do the memories and the entries at exit.
use mathlib.Core.Path.{◌≡◌}
use Rattle.bit_choice.proofs.choose.Reads as choose
use Rattle.bit_stamps.proofs.stamp.Reads as stamp
use Rattle.bit_watch.proofs.step_at.Reads as step-at
use Rattle.claims.proofs.Uniqueness.{Coincide, OneResult, OneMemory, same, both_same}

pub choose_unique : OneResult choose.Post
choose_unique κs a r s e f = same

pub stamp_unique : OneMemory stamp.Post (λ κs e. e.0.now)
stamp_unique κs a r s e f = same

pub watched_step_at_unique : Coincide step-at.Post
    (λ κs r s e f. (r ≡ s) × ((e.1.1.1.0.now ≡ f.1.1.1.0.now) × (e.1.1.1.1.0.now ≡ f.1.1.1.1.0.now)))
watched_step_at_unique κs a r s e f p q = (same p.0 q.0, both_same p.1 q.1)

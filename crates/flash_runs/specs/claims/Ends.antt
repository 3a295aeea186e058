-- How a run ends: no run stops while its session goes on.
use Rattle.std.specs.Prelude.{ℕ, ◌≤◌, true, false, List, ◌≢◌, ◌≡◌}
use Rattle.opcodes.specs.rules.Answers.{code_of, kind_of}
use Rattle.opcodes.specs.rules.Refusals.{Verdict}
use Rattle.flash.specs.rules.Step.{step_of}
use Rattle.flash_session.specs.declared.Called.{Called}
use Rattle.flash_session.specs.declared.Session.{Session}
use Rattle.flash_runs.specs.rules.Run.{goes_on, carried_on, enough, run_of}

-- is it a refusal, and not 14?
abbrev pub Refuses : Verdict → Type 0
Refuses q = (code_of q ≢ 0) × (code_of q ≢ 14)

-- the two ends of a run: entering, which ends the session, or a refusal other than 14
pub data Ended (a : Called) : Type 0 where
  entering : code_of a.refusal ≡ 0 → kind_of a.event ≡ 3 → a.session.ended ≡ true → Ended a
  refused : Refuses a.refusal → Ended a

-- a run of a session that is not ended comes to one of them; no run stops while its session goes on, so that more calls change nothing
pub record RunEnds (s : Session) (m image : List ℕ) : Type 0 where
  pub reaches_end : s.ended ≡ false → Ended (run_of s m image).answer
  pub ends : goes_on (run_of s m image).answer ≡ false
  pub more_is_same : (n : ℕ) → enough s ≤ n → carried_on n (step_of s m image) image ≡ run_of s m image

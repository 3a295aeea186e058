-- A call that is accepted and does not go on has entered: by the law of a call.
use mathlib.Core.Bool.{true, false, true≢false}
use Prim.Native.Nat.{ℕ}
use mathlib.Core.List.{List}
use mathlib.Core.Path.{◌≡◌, sym, ◌∙◌}
use borrow.Author.Tests.{eqb-true, not-false}
use Rattle.opcodes.specs.rules.Answers.{code_of, kind_of}
use Rattle.flash_commands.specs.claims.Ways.{Way, forward, back, kept}
use Rattle.flash.specs.rules.Step.{step_of}
use Rattle.flash_session.specs.declared.Called.{Called}
use Rattle.flash_session.specs.declared.Session.{Session}
use Rattle.flash_laws.proofs.Calls.{every_call}
use Rattle.flash_runs.specs.rules.Run.{goes_on}
use Rattle.flash_runs.proofs.Calls.{accepted_goes}

entered_by : (s : Session) (image : List ℕ) (a : Called) → code_of a.refusal ≡ 0 → a.session.ended ≡ true → Way s image a → kind_of a.event ≡ 3
entered_by s image a accepted over (forward f) = eqb-true _ _ (sym f.ended ∙ over)
entered_by s image a accepted over (back b) = absurd (true≢false (sym over ∙ b.running))
entered_by s image a accepted over (kept k) = absurd (k.refused accepted)

pub stops_entered : (s : Session) (m image : List ℕ) → code_of (step_of s m image).answer.refusal ≡ 0 → goes_on (step_of s m image).answer ≡ false
    → kind_of (step_of s m image).answer.event ≡ 3
stops_entered s m image accepted off =
    entered_by s image (step_of s m image).answer accepted (not-false _ (sym (accepted_goes (step_of s m image).answer accepted) ∙ off))
    (every_call s m image).way

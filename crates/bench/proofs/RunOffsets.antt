-- The offset that a run reports is at most 65,536: by the law of a call it is 0 or the session's, and a call leads to an offset within the image, whose
-- length the opening bounds.
use Prim.Native.Nat.{ℕ, zero, suc, ◌≤◌}
use mathlib.Core.List.{List}
use native.Mathlib.Omega.{arith}
use lib.ListN.{length}
use borrow.Author.Tests.{not-false}
use Rattle.words.proofs.Choice.{of_choice}
use Rattle.windows.specs.declared.Window.{Window}
use Rattle.opcodes.specs.declared.Dialect.{Dialect}
use Rattle.flash_commands.specs.claims.Ways.{Way, forward, back, kept, Call}
use Rattle.flash_session.specs.rules.Opening.{opened_by, numbering_from}
use Rattle.flash_session.specs.rules.Sessions.{CallOutcome}
use Rattle.flash.specs.rules.Step.{step_of}
use Rattle.flash_session.specs.declared.Called.{Called}
use Rattle.flash_session.specs.declared.Opened.{Opened}
use Rattle.flash_session.specs.declared.Session.{Session}
use Rattle.flash_laws.proofs.Calls.{every_call}
use Rattle.flash_session.proofs.Lengths.{length_small}
use Rattle.flash_runs.specs.rules.Run.{carried_on, enough, run_of, ran_from}

module _ (bound : ℕ) where
  -- a session whose offset and length are within the bound
  abbrev Within : Session → Type 0
  Within s = (s.offset ≤ bound) × (s.length ≤ bound)

  -- a call of such a session leads to such a one, and reports an offset within the bound
  call_within : {s : Session} {image : List ℕ} {a : Called} → Within s → Call s image a → Within a.session
  call_within {s} {image} {a} standing call = (go call.way, omega arith)
    where
      go : Way s image a → a.session.offset ≤ bound
      go (forward f) = omega arith
      go (back b) = omega arith
      go (kept k) = omega arith

  call_at : {s : Session} {image : List ℕ} {a : Called} → Within s → Call s image a → a.at ≤ bound
  call_at standing call = rw call.at (of_choice (λ (at : ℕ). at ≤ bound) _ (λ e. omega arith) (λ e. omega arith))

  module _ (image : List ℕ) where
    -- calls from an answer within the bound report an offset within it
    carried_at : (n : ℕ) (o : CallOutcome) → o.answer.at ≤ bound → Within o.answer.session → (carried_on n o image).answer.at ≤ bound
    unfolding carried_on
    carried_at zero o h standing = h
    carried_at (suc n) o h standing =
        let call = every_call o.answer.session o.memory image in
        of_choice (λ (x : CallOutcome). x.answer.at ≤ bound) _
        (λ more. carried_at n _ (call_at standing call) (call_within standing call)) (λ none. h)

    run_at : (s : Session) (m : List ℕ) → Within s → (run_of s m image).answer.at ≤ bound
    unfolding run_of
    run_at s m standing =
        let call = every_call s m image in
        carried_at (enough s) (step_of s m image) (call_at standing call) (call_within standing call)

-- an opening gives a session within the image
pub opened_within : (dialect : Dialect) (count : ℕ) (windows : List Window) (image : List ℕ) (limit : ℕ)
    → Within 65536 (opened_by dialect count windows image limit).session
unfolding opened_by
opened_within dialect count windows image limit =
    let Short : Opened → Type 0 = λ o. Within 65536 o.session in
    of_choice Short _ (λ e. (omega arith, omega arith))
    (λ e. of_choice Short _ (λ e. (omega arith, omega arith))
    (λ sound. of_choice Short _ (λ e. (omega arith, omega arith))
    (λ e. (omega arith, length_small (length image) (not-false _ sound)))))

-- and so does one whose commands are numbered
pub numbered_within : (dialect : Dialect) (count : ℕ) (windows : List Window) (image : List ℕ) (limit : ℕ)
    → Within 65536 (numbering_from (opened_by dialect count windows image limit)).session
unfolding numbering_from
numbered_within dialect count windows image limit =
    let within = opened_within dialect count windows image limit in
    of_choice (λ (o : Opened). Within 65536 o.session) _ (λ e. within) (λ e. within)

-- the offset that a run from such an opening reports
pub ran_at : (o : Opened) (m image : List ℕ) → Within 65536 o.session → (ran_from o m image).answer.at ≤ 65536
unfolding ran_from
ran_at o m image within =
    of_choice (λ (x : CallOutcome). x.answer.at ≤ 65536) _ (λ e. run_at 65536 image o.session m within) (λ e. omega arith)

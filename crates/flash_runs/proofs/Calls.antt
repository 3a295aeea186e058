-- One call of a run, and what is left to do after it: each law is one step of the definition.
use Prim.Native.Nat.{ℕ, zero, suc}
use mathlib.Core.Bool.{Bool, true, false, not, ◌&&◌}
use mathlib.Core.List.{List}
use mathlib.Core.Logic.{◌≢◌}
use mathlib.Core.Path.{◌≡◌, refl, ap}
use borrow.Author.Tests.{eq-eqb, ne_eqb}
use Rattle.words.proofs.Choice.{chosen, passed}
use Rattle.opcodes.specs.rules.Answers.{code_of}
use Rattle.flash_session.specs.rules.Sessions.{CallOutcome}
use Rattle.flash.specs.rules.Step.{step_of}
use Rattle.flash_session.specs.declared.Called.{Called}
use Rattle.flash_runs.specs.rules.Run.{goes_on, carried_on}

-- a call that is accepted goes on unless it ended the session
pub accepted_goes : (a : Called) → code_of a.refusal ≡ 0 → goes_on a ≡ not a.session.ended
unfolding goes_on
accepted_goes a e = ap (λ (t : Bool). t && not a.session.ended) (eq-eqb _ _ e)

-- one that is refused does not
pub refused_stops : (a : Called) → code_of a.refusal ≢ 0 → goes_on a ≡ false
unfolding goes_on
refused_stops a e = ap (λ (t : Bool). t && not a.session.ended) (ne_eqb _ _ e)

module _ (image : List ℕ) where
  -- what does not go on stays as it is
  pub stays : (n : ℕ) (o : CallOutcome) → goes_on o.answer ≡ false → carried_on n o image ≡ o
  unfolding carried_on
  stays zero o e = refl
  stays (suc n) o e = passed _ _ _ e

  -- what goes on takes one of the calls that are left
  pub goes : (n : ℕ) (o : CallOutcome) → goes_on o.answer ≡ true
      → carried_on (suc n) o image ≡ carried_on n (step_of o.answer.session o.memory image) image
  unfolding carried_on
  goes n o e = chosen _ _ _ e

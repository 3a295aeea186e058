-- `exchange::feeding::later` meets its contract: Nothing is none, and any other event is the last.
use Prim.Native.Nat.{ℕ}
use mathlib.Core.Path.{◌≡◌, sym, ap, ◌∙◌}
use Rattle.opcodes.specs.rules.Answers.{told}
use Rattle.opcodes.specs.declared.Event.{Event}
use Rattle.opcodes.specs.declared.Event.TheVariants.{Nothing, Wait, Enter}
use Rattle.exchange.specs.rules.Standing.{last_after}
use Rattle.exchange.proofs.feeding.later.Goals as goal

-- an event that is known, after another
module _ (before : Event) {event : Event} where
  none : event ≡ Nothing → before ≡ last_after before (told event)
  unfolding last_after
  none e = sym (ap (λ (x : Event). last_after before (told x)) e)

  wait : {n : ℕ} → event ≡ Wait n → event ≡ last_after before (told event)
  unfolding last_after
  wait e = e ∙ sym (ap (λ (x : Event). last_after before (told x)) e)

  enter : {n : ℕ} → event ≡ Enter n → event ≡ last_after before (told event)
  unfolding last_after
  enter e = e ∙ sym (ap (λ (x : Event). last_after before (told x)) e)

pub returns-in-Nothing : goal.returns-in-Nothing
returns-in-Nothing c = none _ c.in-Nothing.is

pub returns-in-Wait : goal.returns-in-Wait
returns-in-Wait c = wait _ c.in-Wait.is

pub returns-in-Enter : goal.returns-in-Enter
returns-in-Enter c = enter _ c.in-Enter.is

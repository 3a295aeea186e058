-- The events of a run, in order: the waits of its settings, and last the entry, where it enters.
use Rattle.std.specs.Prelude.{ℕ, zero, suc, ◌+◌, ◌*◌, ◌/◌, min, List, [], ◌∷◌, ◌++◌}
use Rattle.words.specs.rules.Choice.{pick}
use Rattle.opcodes.specs.rules.Answers.{told}
use Rattle.opcodes.specs.declared.Event.{Event}
use Rattle.opcodes.specs.declared.Event.TheVariants as event
use Rattle.flash_session.specs.rules.Opening.{longest}
use Rattle.flash_session.specs.rules.Sessions.{CallOutcome}
use Rattle.flash.specs.rules.Step.{step_of}
use Rattle.flash_session.specs.declared.Opened.{Opened}
use Rattle.flash_session.specs.declared.Session.{Session}
use Rattle.flash_runs.specs.rules.Run.{goes_on, enough, opens}

-- those of a call with this outcome, and of at most n calls more while the session goes on
unfoldable pub events_on : ℕ → CallOutcome → List ℕ → List Event
events_on zero o image = told o.answer.event
events_on (suc n) o image =
    told o.answer.event ++ pick (goes_on o.answer) (events_on n (step_of o.answer.session o.memory image) image) []

-- of a run to the session's end
unfoldable pub run_events : Session → List ℕ → List ℕ → List Event
run_events s m image = events_on (enough s) (step_of s m image) image

-- of a run from an opening; a refused one has none
unfoldable pub events_from : Opened → List ℕ → List ℕ → List Event
events_from o m image = pick (opens o) (run_events o.session m image) []

-- the cycles of the waits among some events, in order
abbrev pub waited : Event → List ℕ
waited event.Nothing = []
waited (event.Wait cycles) = cycles ∷ []
waited (event.Enter address) = []

unfoldable pub waits_of : List Event → List ℕ
waits_of [] = []
waits_of (e ∷ es) = waited e ++ waits_of es

-- the last of some events, nothing where there is none
unfoldable pub last_of : List Event → Event
last_of [] = event.Nothing
last_of (e ∷ []) = e
last_of (e ∷ f ∷ es) = last_of (f ∷ es)

-- the most events of a run with a retry limit, of an image of n bytes: a wait is a setting of five words, the image is passed once and once more for each
-- retry, and there is one entry
unfoldable pub most_events : ℕ → ℕ → ℕ
most_events limit n = (limit + 1) * (min n longest / 20) + 1

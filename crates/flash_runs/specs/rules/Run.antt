-- A run of one unchanged image: calls until one is refused or the session ends.
use Rattle.std.specs.Prelude.{ℕ, zero, suc, ◌+◌, ◌*◌, ◌/◌, Bool, not, ◌&&◌, List}
use Rattle.words.specs.rules.Choice.{pick}
use Rattle.opcodes.specs.rules.Answers.{accepted}
use Rattle.flash_session.specs.rules.Sessions.{CallOutcome, ◌leaving◌, unchanged}
use Rattle.flash.specs.rules.Step.{step_of}
use Rattle.flash_session.specs.declared.Called.{Called}
use Rattle.flash_session.specs.declared.Opened.{Opened}
use Rattle.flash_session.specs.declared.Session.{Session}

-- does the session go on after a call?
unfoldable pub goes_on : Called → Bool
goes_on a = accepted a.refusal && not a.session.ended

-- at most n calls more, while the session goes on
unfoldable pub carried_on : ℕ → CallOutcome → List ℕ → CallOutcome
carried_on zero o image = o
carried_on (suc n) o image =
    pick (goes_on o.answer) (carried_on n (step_of o.answer.session o.memory image) image) o

-- calls that suffice after the first: the image is passed once, and once more for each retry, a word or more a call
abbrev pub enough : Session → ℕ
enough s = (s.limit + 1) * (s.length / 4)

-- a run to the session's end
unfoldable pub run_of : Session → List ℕ → List ℕ → CallOutcome
run_of s m image = carried_on (enough s) (step_of s m image) image

-- is an opening accepted?
abbrev pub opens : Opened → Bool
opens o = accepted o.refusal

-- a run from an opening; a refused one runs nothing, and offset, checksum and retries are 0
unfoldable pub ran_from : Opened → List ℕ → List ℕ → CallOutcome
ran_from o memory image = pick (opens o) (run_of o.session memory image) (unchanged o.refusal o.session leaving memory)

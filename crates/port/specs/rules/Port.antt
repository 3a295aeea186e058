-- The port: what a step gives, told apart as a routine over a lent session tells it.
use Rattle.std.specs.Prelude.{◌≡◌, List, ℕ}
use Rattle.sent.specs.rules.Line.{UnitOutcome}
use Rattle.sent.specs.declared.Answer.{Answer}
use Rattle.sent.specs.declared.Session.{Session}
use Rattle.port.specs.declared.Told.{Told}

-- an answer without its session
abbrev pub told_of : Answer → Told
told_of a = record { refusal = a.refusal; reply = a.reply; event = a.event }

-- a session, an answer and a memory are those that a step gives
abbrev pub is_given : UnitOutcome → Session → Told → List ℕ → Type 0
is_given o session told memory = (session ≡ o.answer.session) × (told ≡ told_of o.answer) × (memory ≡ o.memory)

-- One law a call, for every session, memory and image.
use Rattle.std.specs.Prelude.{ℕ, List}
use Rattle.flash_commands.specs.claims.Ways.{Call}
use Rattle.flash.specs.rules.Step.{step_of}
use Rattle.flash_session.specs.declared.Session.{Session}

-- the law
abbrev pub EveryCall : Type 0
EveryCall = (s : Session) (m image : List ℕ) → Call s image (step_of s m image).answer

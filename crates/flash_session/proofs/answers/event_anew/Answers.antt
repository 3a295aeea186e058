-- `flash_session::answers::event_anew` meets its contract: each arm gives back the event that it matched.
use mathlib.Core.Path.{sym}
use Rattle.flash_session.proofs.answers.event_anew.Goals as goal

pub returns-in-Wait : goal.returns-in-Wait
returns-in-Wait c = sym c.in-Wait.is

pub returns-in-Enter : goal.returns-in-Enter
returns-in-Enter c = sym c.in-Enter.is

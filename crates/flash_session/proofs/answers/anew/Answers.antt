-- `flash_session::answers::anew` meets its contract: each field is the session's own.
use Rattle.flash_session.proofs.answers.anew.Goals as goal

pub returns : goal.returns
returns c = rw c.anew.ensures

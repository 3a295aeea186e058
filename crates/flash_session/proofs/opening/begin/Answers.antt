-- `flash_session::opening::begin` meets its contract: the session's fields are the definition's.
use Rattle.flash_session.proofs.opening.begin.Goals as goal

pub returns : goal.returns
returns c = rw c.zero.ensures

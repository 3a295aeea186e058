-- `flash_session::opening::shut` meets its contract: the session's fields are the definition's.
use Rattle.flash_session.proofs.opening.shut.Goals as goal

pub returns : goal.returns
returns c = rw c.zero.ensures

-- `flash_session::answers::fetch` meets its contract: the count goes on, and the session is otherwise as it was.
use Rattle.flash_session.proofs.answers.fetch.Goals as goal

pub returns : goal.returns
returns c = rw c.count_on.ensures

-- `flash_session::answers::halt` meets its contract: it is the definition, field by field, and writes nothing.
use Rattle.flash_session.proofs.answers.halt.Goals as goal

pub returns : goal.returns
returns c = rw (c.wrote_none.ensures, c.anew-over.ensures)

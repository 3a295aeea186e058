-- `flash_session::answers::keep` meets its contract: it is the definition, field by field, and writes nothing.
use Rattle.flash_session.proofs.answers.keep.Goals as goal

pub returns : goal.returns
returns c = rw (c.wrote_none.ensures, c.anew.ensures)

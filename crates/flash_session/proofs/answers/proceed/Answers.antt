-- `flash_session::answers::proceed` meets its contract: the totals are turned by what happened, and the rest is the definition, field by field.
use Rattle.flash_session.proofs.answers.proceed.Goals as goal

pub returns : goal.returns
returns c = rw (c.anew-gone-2.ensures, c.anew-gone.ensures, c.happen-turned.ensures)

-- `flash_session::Session::open_numbering` meets its contract: it puts together what it calls.
use Rattle.flash_session.proofs.Session.open_numbering.Goals as goal

pub returns : goal.returns
returns c = rw (c.number_from.ensures, c.open-opened.ensures)

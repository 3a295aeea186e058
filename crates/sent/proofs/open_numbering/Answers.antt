-- `sent::open_numbering` meets its contract: it puts together what it calls.
use Rattle.sent.proofs.open_numbering.Goals as goal

pub returns : goal.returns
returns c = rw (c.number_from.ensures, c.open_on-opened.ensures)

-- `sent::shut` meets its contract: eight times the window that is all zero.
use Rattle.sent.proofs.shut.Goals as goal

pub returns : goal.returns
returns c = rw (c.begin.ensures, c.silent.ensures)

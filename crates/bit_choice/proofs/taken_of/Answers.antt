-- `bit_choice::taken_of` meets its contract: the places are those of all its words.
use Rattle.bit_choice.proofs.taken_of.Goals as goal

pub returns : goal.returns
returns c = rw c.places_of-places.ensures

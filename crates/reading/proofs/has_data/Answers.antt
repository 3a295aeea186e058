-- `reading::has_data` meets its contract: it compares the end of the data words with the image's.
use Rattle.reading.specs.rules.Reading.{present}
use Rattle.reading.proofs.has_data.Goals as goal

pub returns : goal.returns
unfolding present
returns c = rw c.data_words.ensures

-- `reading::argument_at` meets its contract: it reads the word at the place that the definition names.
use Rattle.reading.specs.rules.Reading.{argument}
use Rattle.reading.proofs.argument_at.Goals as goal

pub returns : goal.returns
unfolding argument
returns c = c.word_at.ensures

-- `host_ear::newest_word` meets its contract: it is the definition.
use mathlib.Core.Path.{refl}
use Rattle.host_ear.specs.rules.Ear.{newest}
use Rattle.host_ear.proofs.newest_word.Goals as goal

pub returns : goal.returns
unfolding newest
returns c = refl

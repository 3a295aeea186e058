-- `bit_stamps::stamp` meets its contract: word by word, and where nothing was written all is kept.
use mathlib.Core.Path.{sym}
use Rattle.bit_stamps.proofs.Stamping.{none_written}
use Rattle.bit_stamps.proofs.stamp.Goals as goal

pub returns-then-wrote-eq0 : goal.returns-then-wrote-eq0
returns-then-wrote-eq0 c = sym (none_written _ _ _ c.if-wrote-eq0.true)

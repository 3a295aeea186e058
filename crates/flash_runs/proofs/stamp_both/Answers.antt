-- `flash_runs::stamp_both` meets its contract: where nothing was written, no word is chosen or there are no entries, stamping keeps all.
use mathlib.Core.Path.{sym}
use Rattle.bit_stamps.proofs.Stamping.{none_taken, none_written, none_beside}
use Rattle.flash_runs.proofs.stamp_both.Goals as goal

pub returns-then-wrote-eq0 : goal.returns-then-wrote-eq0
returns-then-wrote-eq0 c = record { numbers_after = sym (none_written _ _ _ c.if-wrote-eq0.true); offsets_after = sym (none_written _ _ _ c.if-wrote-eq0.true) }

pub returns-then-count-eq0 : goal.returns-then-count-eq0
returns-then-count-eq0 c = record { numbers_after = sym (none_taken _ _ _ _ c.if-count-eq0.true); offsets_after = sym (none_taken _ _ _ _ c.if-count-eq0.true) }

pub returns-then-offsets-eq0 : goal.returns-then-offsets-eq0
returns-then-offsets-eq0 c = record { numbers_after = c.stamp.ensures; offsets_after = sym (none_beside _ _ _ c.if-offsets-eq0.true) }

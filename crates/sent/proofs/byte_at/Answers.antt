-- `sent::byte_at` meets its contract: past the last byte `get_or` is its default.
use mathlib.Core.Path.{sym}
use lib.ListN.{get_or-eq_default}
use Rattle.sent.proofs.byte_at.Goals as goal

pub returns-else-i-fed : goal.returns-else-i-fed
returns-else-i-fed c = sym (get_or-eq_default c.args.fed.now 0 c.if-i-fed.false)

-- `flash_session::answers::count_on` meets its contract: the words are added where 32 bits hold the sum, else the count is the largest number.
use native.Mathlib.Omega.{arith}
use Rattle.flash_session.specs.rules.Sessions.{counted_on}
use Rattle.flash_session.proofs.answers.count_on.Goals as goal

pub returns-then-words-fetched : goal.returns-then-words-fetched
unfolding counted_on
returns-then-words-fetched c = omega arith

pub returns : goal.returns
unfolding counted_on
returns c = omega arith

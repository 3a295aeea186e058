-- `flash_session::is_length` meets its contract: its tests are those of the definition.
use mathlib.Core.Bool.{and-false}
use borrow.Author.Tests.{le-leb, lt-leb, eq-eqb, ne_eqb}
use Rattle.commands.specs.rules.Commands.{multiple}
use Rattle.flash_session.specs.rules.Opening.{good_length}
use Rattle.flash_session.proofs.is_length.Goals as goal

pub returns-then-n-ne0 : goal.returns-then-n-ne0
unfolding good_length multiple
returns-then-n-ne0 c = simp (ne_eqb _ _ c.if-n-ne0.true)

pub returns-then-n-lt4 : goal.returns-then-n-lt4
unfolding good_length
returns-then-n-lt4 c = simp (lt-leb _ _ c.if-n-lt4.true, and-false)

pub returns : goal.returns
unfolding good_length multiple
returns c = simp (eq-eqb _ _ c.if-n-ne0.false, le-leb _ _ c.if-n-lt4.false)

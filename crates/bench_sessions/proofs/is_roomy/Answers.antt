-- `bench_sessions::is_roomy` meets its contract: each test counts only where those before it hold.
use mathlib.Core.Path.{sym, ◌∙◌}
use borrow.Author.Tests.{le-leb, lt-leb}
use Rattle.bench_sessions.specs.rules.Feeding.{roomy}
use Rattle.bench_sessions.proofs.is_roomy.Goals as goal

pub returns-then-not-are_whole : goal.returns-then-not-are_whole
unfolding roomy
returns-then-not-are_whole c = rw (sym c.are_whole.ensures ∙ c.if-not-are_whole.true)

pub returns-then-n-le-MOST_FED : goal.returns-then-n-le-MOST_FED
unfolding roomy
returns-then-n-le-MOST_FED c =
    let whole = sym c.are_whole.ensures ∙ c.if-not-are_whole.false in
    let few = le-leb _ _ (rw c.units_in-n.ensures at c.if-n-le-MOST_FED.true) in
    rw (whole, few, c.room_for.ensures, c.units_in-n.ensures)

pub returns : goal.returns
unfolding roomy
returns c =
    let whole = sym c.are_whole.ensures ∙ c.if-not-are_whole.false in
    rw (whole, lt-leb _ _ (rw c.units_in-n.ensures at c.if-n-le-MOST_FED.false))

-- `bench_sessions::session_from` meets its contract: each way is one case of the opening.
use mathlib.Core.List.{List}
use mathlib.Core.Logic.{◌≢◌}
use mathlib.Core.Path.{sym, ap, ◌∙◌}
use Prim.Native.Nat.{ℕ}
use native.Mathlib.Omega.{arith}
use lib.ListN.{length, take}
use Rattle.windows.specs.rules.Window.{sum_of}
use Rattle.opcodes.proofs.Verdicts.{numbered, some_of, none_of}
use Rattle.sent.specs.rules.Bus.{units_fed}
use Rattle.bench_sessions.specs.rules.Feeding.{begun}
use Rattle.bench_sessions.specs.rules.Numbers.{watched_fed}
use Rattle.bench_sessions.proofs.SessionCases.{has_room, before_opening, before_memory, before_narrow, before_none, from_refused, from_fed}
use Rattle.bench_sessions.proofs.session_from.Goals as goal

pub returns-in-Some : goal.returns-in-Some
returns-in-Some c =
    let a = c.args in
    let refused = c.in-Some.is in
    from_refused a.bus a.opened _ a.memory.now a.numbers.now a.fed.now a.room.now
    (before_opening a.bus a.opened _ _ _ (some_of _ refused) ∙ refused) (numbered c.in-Some.refusal) c.refuse.ensures

pub returns-then-memory-sum : goal.returns-then-memory-sum
returns-then-memory-sum c =
    let a = c.args in
    let opened = none_of _ c.in_default.not-Some in
    let short : length a.memory.now ≢ sum_of a.opened.session.core.windows = λ e. c.if-memory-sum.true (e ∙ sym c.sum.ensures) in
    from_refused a.bus a.opened _ a.memory.now a.numbers.now a.fed.now a.room.now
    (before_memory a.bus a.opened _ _ _ opened short) (λ e. omega arith) c.refuse-then-memory-sum.ensures

pub returns-then-not-is_roomy : goal.returns-then-not-is_roomy
returns-then-not-is_roomy c =
    let a = c.args in
    let opened = none_of _ c.in_default.not-Some in
    let lent = c.if-memory-sum.false ∙ c.sum.ensures in
    let narrow = sym c.is_roomy.ensures ∙ c.if-not-is_roomy.true in
    from_refused a.bus a.opened _ a.memory.now a.numbers.now a.fed.now a.room.now
    (before_narrow a.bus a.opened _ _ _ opened lent narrow) (λ e. omega arith) c.refuse-then-not-is_roomy.ensures

pub feed_all-requires : goal.feed_all-requires
feed_all-requires c =
    let room = has_room c.args.bus c.args.fed.now _ (sym c.is_roomy.ensures ∙ c.if-not-is_roomy.false) in
    record { have_value = c.requires; fed_len_bound = room.0; fed_in_bounds = room.1 }

pub returns : goal.returns
returns c =
    let a = c.args in
    let opened = none_of _ c.in_default.not-Some in
    let lent = c.if-memory-sum.false ∙ c.sum.ensures in
    let wide = sym c.is_roomy.ensures ∙ c.if-not-is_roomy.false in
    let units = units_fed a.bus a.fed.now in
    let places = take a.chosen a.places.now in
    c.feed_all.ensures
    ∙ ap (λ (numbers : List ℕ). watched_fed a.bus a.opened.reply (begun a.opened a.memory.now) units places numbers a.room.now)
    c.clear.ensures
    ∙ from_fed a.bus a.opened places a.memory.now a.numbers.now a.fed.now a.room.now
    (before_none a.bus a.opened _ _ _ opened lent wide)

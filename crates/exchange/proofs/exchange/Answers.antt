-- `exchange::exchange` meets its contract: from where the loop stands the talk leads to the same end, and each turn leaves fewer.
use borrow.Author.Rules.{rules}
use mathlib.Core.Path.{refl, ◌∙◌}
use borrow.Author.Tests.{not-true, not-false}
use Rattle.exchange.proofs.Settling.{goes, goes_less, ends, meets}
use Rattle.exchange.proofs.exchange.Goals as goal

pub loop-live-init : goal.loop-live-init
loop-live-init c = (refl, refl, λ end r. r)

pub loop-live-smaller : goal.loop-live-smaller
loop-live-smaller c =
    let a = c.args in
    let met = meets a.bus a.dialect a.count a.windows a.memory.now a.image.now a.tries a.limit a.pings a.room.now
    c.meet-live.ensures in
    let r = c.loop-live.invariant.2 _ met in
    goes_less a.image.now a.room.now r (not-true _ c.loop-live-test.true) c.go_on-live.ensures.value

pub loop-live-preserved : goal.loop-live-preserved
loop-live-preserved c =
    let a = c.args in
    let on = c.go_on-live in
    let loop = c.loop-live in (
      search rules,
      search rules,
      λ end r. goes a.image.now a.room.now (loop.invariant.2 end r) (not-true _ c.loop-live-test.true)
          (on.ensures.value, (on.ensures.memory_after, on.ensures.room_after)),
    )

pub shape_of-memory : goal.shape_of-memory
shape_of-memory c = c.loop-live.invariant.0

pub shape_of-room : goal.shape_of-room
shape_of-room c = c.loop-live.invariant.1

pub returns : goal.returns
returns c =
    let a = c.args in
    let met = meets a.bus a.dialect a.count a.windows a.memory.now a.image.now a.tries a.limit a.pings a.room.now
    c.meet-live.ensures in
    let r = c.loop-live.invariant.2 _ met in
    let end = ends a.image.now a.room.now r (not-false _ c.loop-live-test.false) in
    record { value = c.outcome.ensures ∙ end.0; memory_after = end.1.0; room_after = end.1.1 }

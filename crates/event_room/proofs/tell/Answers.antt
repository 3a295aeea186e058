-- `event_room::tell` meets its contract: nothing to tell, no room for it, or its two words written one after the other.
use mathlib.Core.Path.{sym, ◌∙◌}
use native.Mathlib.Omega.{arith}
use Rattle.event_room.proofs.Writing.{tells_nothing, tells_none, tells_one}
use Rattle.event_room.proofs.tell.Goals as goal

pub returns-then-kind-eq0 : goal.returns-then-kind-eq0
returns-then-kind-eq0 c =
    let a = c.args in
    let parts = tells_nothing a.room.now a.place a.event (sym c.kind-kind.ensures ∙ c.if-kind-eq0.true) in record { value = parts.0; room_after = parts.1 }

pub returns-then-room-lt8 : goal.returns-then-room-lt8
returns-then-room-lt8 c =
    let a = c.args in
    let parts = tells_none a.room.now a.place a.event (λ e. c.if-kind-eq0.false (c.kind-kind.ensures ∙ e)) (omega arith) in
    record { value = parts.0; room_after = parts.1 }

pub returns : goal.returns
returns c =
    let a = c.args in let parts = tells_one a.room.now a.place a.event (λ e. c.if-kind-eq0.false (c.kind-kind.ensures ∙ e)) (omega arith)
    c.kind-kind.ensures c.value.ensures c.write.ensures.m_after c.write-2.ensures.m_after in record { value = parts.0; room_after = parts.1 }

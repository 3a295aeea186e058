-- `exchange::feeding::send_start` meets its contract: the bytes lent are the start unit of the line.
use Rattle.sent.specs.rules.Bus.{halves_of}
use Rattle.exchange.proofs.Hearing.{start_fed}
use Rattle.exchange.proofs.feeding.send_start.Goals as goal

pub returns-in-Bytes : goal.returns-in-Bytes
returns-in-Bytes c =
    let a = c.args in
    let parts = start_fed a.standing a.memory.now a.room.now c.in-Bytes.is (c.feed.ensures.value, (c.feed.ensures.memory_after, c.feed.ensures.room_after)) in
    record { value = parts.0; memory_after = parts.1.0; room_after = parts.1.1 }

pub returns-in-Halves : goal.returns-in-Halves
unfolding halves_of
returns-in-Halves c =
    let a = c.args in
    let parts = start_fed a.standing a.memory.now a.room.now c.in-Halves.is
    (c.feed-in-Halves.ensures.value, (c.feed-in-Halves.ensures.memory_after, c.feed-in-Halves.ensures.room_after)) in
    record { value = parts.0; memory_after = parts.1.0; room_after = parts.1.1 }

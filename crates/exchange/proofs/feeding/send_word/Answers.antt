-- `exchange::feeding::send_word` meets its contract: the bytes lent are the units of the word.
use Rattle.exchange.proofs.Hearing.{fed_as, word_lent}
use Rattle.exchange.proofs.feeding.send_word.Goals as goal

pub returns : goal.returns
returns c =
    let a = c.args in
    let units = word_lent a.bus a.word c.ranges.word.fits c.byte_of.ensures c.byte_of-2.ensures
    c.byte_of-3.ensures c.byte_of-4.ensures in
    let parts = fed_as a.bus a.standing a.memory.now a.room.now units (c.feed.ensures.value, (c.feed.ensures.memory_after, c.feed.ensures.room_after)) in
    record { value = parts.0; memory_after = parts.1.0; room_after = parts.1.1 }

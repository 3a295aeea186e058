-- `exchange::feeding::note` meets its contract: it is the definition, field by field, and the event is told.
use Rattle.exchange.proofs.feeding.note.Goals as goal

pub returns : goal.returns
returns c =
    let tell = c.tell.ensures in
    record { value = rw (tell.value, c.first_but_ended.ensures, c.later.ensures, c.hear_all.ensures); room_after = tell.room_after }

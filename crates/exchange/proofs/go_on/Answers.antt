-- `exchange::go_on` meets its contract: the turn, and what goes out of it.
use Rattle.exchange.specs.rules.Standing.{standing_onward, memory_onward, room_onward}
use Rattle.exchange.proofs.go_on.Goals as goal

pub returns : goal.returns
unfolding standing_onward memory_onward room_onward
returns c =
    let sent = c.send.ensures in
    record {
      value = rw (c.take_turn.ensures, c.turn-turned.ensures) at sent.value;
      memory_after = rw (c.take_turn.ensures, c.turn-turned.ensures) at sent.memory_after;
      room_after = rw (c.take_turn.ensures, c.turn-turned.ensures) at sent.room_after;
    }

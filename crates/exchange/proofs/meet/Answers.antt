-- `exchange::meet` meets its contract: both are opened, and the greeting is heard.
use Rattle.event_room.specs.rules.Room.{place_after}
use Rattle.exchange.specs.rules.Standing.{last_after}
use Rattle.exchange.proofs.meet.Goals as goal

pub returns : goal.returns
unfolding last_after place_after
returns c =
    rw (c.hear_all.ensures, c.open_on-loader.ensures, c.open-opened.ensures)

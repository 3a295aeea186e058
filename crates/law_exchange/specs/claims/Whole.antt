-- The exchange that goes on until its host has ended, as the calls for C run it: its events and its memory are those of the flash run, so that what is promised
-- of talks is promised of these calls; and in a room that is not refused all of its events are told.
use Rattle.std.specs.Prelude.{ℕ, ◌*◌, ◌≤◌, List, ◌≡◌, length}
use Rattle.std.proofs.lemmas.List.Edits.{sets}
use Rattle.windows.specs.declared.Window.{Window}
use Rattle.opcodes.specs.declared.Dialect.{Dialect}
use Rattle.event_room.specs.rules.Room.{event_bytes, place_after, room_after}
use Rattle.flash_runs.specs.rules.Events.{events_from, most_events}
use Rattle.flash_runs.specs.rules.Run.{ran_from}
use Rattle.sent.specs.declared.Bus.{Bus}
use Rattle.exchange.specs.rules.Exchange.{Talk, meeting, exchanged}
use Rattle.law_exchange.specs.claims.Course.{Premises, in_flash}

module _ (bus : Bus) (dialect : Dialect) (count : ℕ) (windows : List Window) (m image : List ℕ) (tries limit pings : ℕ) where
  -- the talk at its end
  abbrev pub whole : Talk
  whole = exchanged (meeting bus dialect count windows m image tries limit pings) image

  pub record AsInFlash : Type 0 where
    pub events : whole.events ≡ events_from (in_flash bus dialect count windows m image tries limit pings) m image
    pub memory : whole.loader.memory ≡ (ran_from (in_flash bus dialect count windows m image tries limit pings) m image).memory

  -- the room after it: eight bytes are told for each event of the flash run, and they are these events; what is behind them is as it was
  pub record AllTold (room : List ℕ) : Type 0 where
    pub told : place_after (length room) 0 whole.events ≡ 8 * length (events_from (in_flash bus dialect count windows m image tries limit pings) m image)
    pub room_is : room_after room 0 whole.events
        ≡ sets room 0 (event_bytes (events_from (in_flash bus dialect count windows m image tries limit pings) m image))

abbrev pub WholeExchange : Type 0
WholeExchange = (bus : Bus) (dialect : Dialect) (count : ℕ) (windows : List Window) (m image : List ℕ) (tries limit pings : ℕ)
    → Premises bus dialect count windows m image tries limit pings → AsInFlash bus dialect count windows m image tries limit pings

-- where the room has the bytes that the limit and the image may ask for
abbrev pub RoomForAll : Type 0
RoomForAll = (bus : Bus) (dialect : Dialect) (count : ℕ) (windows : List Window) (m image : List ℕ) (tries limit pings : ℕ) (room : List ℕ)
    → Premises bus dialect count windows m image tries limit pings → 8 * most_events limit (length image) ≤ length room
    → AllTold bus dialect count windows m image tries limit pings room

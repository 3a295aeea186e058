-- One image from flash and by line, both in the check program's window and from its memory of zeros (02, request 13): what each comes to, and where the
-- memories that they leave differ.
use Rattle.std.specs.Prelude.{ℕ, ◌+◌, List, [], ◌∷◌, eqb}
use Rattle.words.specs.rules.Choice.{pick}
use Rattle.windows.specs.declared.Window.{Window}
use Rattle.opcodes.specs.declared.Dialect.{Dialect}
use Rattle.opcodes.specs.declared.Event.{Event}
use Rattle.event_room.specs.rules.Room.{place_after}
use Rattle.flash_session.specs.rules.Opening.{opened_by}
use Rattle.flash_session.specs.rules.Sessions.{CallOutcome}
use Rattle.flash_session.specs.declared.Called.{Called}
use Rattle.flash_session.specs.declared.Opened.{Opened}
use Rattle.flash_runs.specs.rules.Events.{events_from}
use Rattle.flash_runs.specs.rules.Run.{ran_from}
use Rattle.sent.specs.declared.Bus.{Bus}
use Rattle.exchange.specs.rules.Exchange.{Talk, meeting, exchanged}
use Rattle.exchange.specs.rules.Standing.{outcome_of}
use Rattle.checking.specs.rules.Report.{windows, cleared}
use Rattle.agreement.specs.rules.Differing.{differing, first_unlike}
use Rattle.agreement.specs.declared.Compared.{Compared}
use Rattle.agreement.specs.declared.Difference.{Difference}
use Rattle.agreement.specs.declared.FlashEnd.{FlashEnd}

-- the flash run with so many retries at most, and its events
abbrev pub in_flash : Dialect → List ℕ → ℕ → Opened
in_flash dialect image limit = opened_by dialect 1 windows image limit

abbrev pub from_flash : Dialect → List ℕ → ℕ → CallOutcome
from_flash dialect image limit = ran_from (in_flash dialect image limit) cleared image

abbrev pub flash_events : Dialect → List ℕ → ℕ → List Event
flash_events dialect image limit = events_from (in_flash dialect image limit) cleared image

-- the exchange with the most tries and an empty Ping
abbrev pub by_line : Bus → Dialect → List ℕ → ℕ → Talk
by_line bus dialect image limit = exchanged (meeting bus dialect 1 windows cleared image 1000 limit 0) image

-- what is told of a run by its last answer, some bytes of a room holding its events
abbrev pub end_of : Called → ℕ → FlashEnd
end_of a told = record { refusal = a.refusal; at = a.at; retries = a.session.retries; event = a.event; told = told }

-- the words of the window
abbrev pub window_words : ℕ
window_words = 1024

-- the first address of a map
abbrev pub lowest : List Window → ℕ
lowest [] = 0
lowest (w ∷ ws) = w.first

-- how many words of two memories differ, and the address of the first; both 0 where none does
unfoldable pub difference_of : List ℕ → List ℕ → Difference
difference_of a b =
    pick (eqb (differing window_words 0 a b) 0)
    (record { words = 0; first = 0 })
    (record { words = differing window_words 0 a b; first = lowest windows + first_unlike window_words 0 a b })

-- all that a comparison tells, the events of each side in a room of so many bytes
unfoldable pub compared_of : Bus → Dialect → List ℕ → ℕ → ℕ → ℕ → Compared
compared_of bus dialect image limit first second =
    let run : CallOutcome = from_flash dialect image limit in
    let talk : Talk = by_line bus dialect image limit in
    record {
      flash = end_of run.answer (place_after first 0 (flash_events dialect image limit));
      line = outcome_of second talk;
      difference = difference_of run.memory talk.loader.memory;
    }

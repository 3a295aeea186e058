-- Request 13 from the course of the exchange: the events and the memory are those of the flash run, and its last event is the entry.
use mathlib.Core.Path.{ap, ◌∙◌}
use Rattle.flash_runs.specs.rules.Events.{waits_of, last_of}
use Rattle.flash_runs.proofs.Events.{events_of_a_run}
use Rattle.law_exchange.specs.claims.Agreement.{FlashAndLineAgree}
use Rattle.law_exchange.specs.claims.Course.{in_flash}
use Rattle.law_exchange.proofs.Exchange.{same_course}

pub flash_and_line_agree : FlashAndLineAgree
flash_and_line_agree bus dialect count windows m image tries limit pings address c n enough_Turns =
    let course = same_course bus dialect count windows m image tries limit pings c.premises n enough_Turns in
    let opening = in_flash bus dialect count windows m image tries limit pings in
    record {
      same_entry = ap last_of course.events ∙ events_of_a_run.enters opening m image address c.enters;
      same_memory = course.memory;
      same_waits = ap waits_of course.events;
    }

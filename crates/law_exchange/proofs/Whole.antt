-- More turns than the host can take lead to the same end, and after enough of them the course is the flash run's.
use Prim.Native.Nat.{ℕ, ◌+◌, ◌*◌, ◌≤◌}
use mathlib.Core.List.{List}
use mathlib.Core.Path.{◌≡◌, ap, ◌∙◌}
use native.Mathlib.Nat.{le_refl}
use native.Mathlib.Omega.{arith}
use lib.ListN.{length}
use Rattle.opcodes.specs.declared.Event.{Event}
use Rattle.event_room.specs.rules.Room.{place_after, room_after}
use Rattle.event_room.proofs.Writing.{events_in_room}
use Rattle.flash_runs.specs.rules.Events.{events_from}
use Rattle.flash_runs.proofs.Fitting.{events_fit}
use Rattle.host_answers.specs.rules.Ends.{most_turns}
use Rattle.exchange.specs.rules.Exchange.{Talk, talked, meeting, exchanged}
use Rattle.exchange.proofs.Settling.{same_end, meeting_lent}
use Rattle.law_exchange.specs.claims.Course.{in_flash, exchange_turns}
use Rattle.law_exchange.specs.claims.Whole.{WholeExchange, RoomForAll}
use Rattle.law_exchange.proofs.Exchange.{same_course}

pub whole_exchange : WholeExchange
unfolding exchanged
whole_exchange bus dialect count windows m image tries limit pings premises =
    let first : Talk = meeting bus dialect count windows m image tries limit pings in
    let turns : ℕ = most_turns first.host + exchange_turns bus dialect count windows m image tries limit pings in
    let course = same_course bus dialect count windows m image tries limit pings premises turns (omega arith) in
    let lent = meeting_lent bus dialect count windows m image tries limit pings in
    let same : exchanged first image ≡ talked turns first image
    = same_end image (most_turns first.host) turns first lent (le_refl (most_turns first.host)) (omega arith) in
    record { events = ap (λ (t : Talk). t.events) same ∙ course.events; memory = ap (λ (t : Talk). t.loader.memory) same ∙ course.memory }

pub room_for_all : RoomForAll
room_for_all bus dialect count windows m image tries limit pings room premises enough =
    let all = events_from (in_flash bus dialect count windows m image tries limit pings) m image in
    let as-there = whole_exchange bus dialect count windows m image tries limit pings premises in
    let few = events_fit dialect count windows m image limit in
    let fits : 0 + 8 * length all ≤ length room = omega (arith, few, enough) in
    record {
      told = ap (λ (es : List Event). place_after (length room) 0 es) as-there.events ∙ events_in_room.place_whole (length room) 0 all fits ∙ omega arith;
      room_is = ap (λ (es : List Event). room_after room 0 es) as-there.events ∙ events_in_room.room_whole room 0 all fits;
    }

-- What each turn keeps.
use mathlib.Core.Path.{◌≡◌}
use lib.ListN.{length, take}
use Rattle.event_room.specs.rules.Room.{place_after, room_after}
use Rattle.flash.specs.rules.Step.{step_of}
use Rattle.flash_runs.specs.rules.Entries.{number_wrote, offset_wrote, stamps_on}
use Rattle.flash_runs.specs.rules.Events.{events_on}
use Rattle.flash_runs.specs.rules.Run.{carried_on}
use Rattle.flash_runs.proofs.Running.{Leads}
use Rattle.flash_runs.proofs.run.Given as goal

abbrev pub invariant-loop-left : goal.invariant-loop-left
invariant-loop-left l =
    let all = take l.count l.places in
    let first = step_of l.initial.live l.initial.memory l.image in
    (length l.memory ≡ length l.initial.memory) × (length l.numbers ≡ length l.initial.numbers)
    × (length l.offsets ≡ length l.initial.offsets) × (length l.room ≡ length l.initial.room)
    × Leads all l.image l.left (record { numbers = l.numbers; offsets = l.offsets; room = l.room; place = l.place }) (step_of l.live l.memory l.image)
    (carried_on l.initial.left first l.image)
    (record {
      numbers = stamps_on number_wrote l.initial.left all l.initial.numbers first l.image;
      offsets = stamps_on offset_wrote l.initial.left all l.initial.offsets first l.image;
      room = room_after l.initial.room l.initial.place (events_on l.initial.left first l.image);
      place = place_after (length l.initial.room) l.initial.place (events_on l.initial.left first l.image);
    })

abbrev pub decreases-loop-left : goal.decreases-loop-left
decreases-loop-left l = l.left

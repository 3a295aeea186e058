-- A line more leaves one line fewer, since the survey was not full.
use Rattle.std.proofs.Common.{rules, ◌≡◌, false}
use Rattle.survey.specs.rules.Survey.{is_full}
use Rattle.survey.proofs.Ends.{one_fewer}
use Rattle.ais_survey.proofs.main.Goals as goal

pub loop-name_room-smaller : goal.loop-name_room-smaller
loop-name_room-smaller c =
    let more : is_full c.loop-name_room.survey ≡ false = search rules in
    rw c.including-survey.ensures (one_fewer c.loop-name_room.survey c.map_or-image.result more)

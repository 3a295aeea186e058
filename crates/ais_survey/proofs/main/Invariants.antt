-- Each turn leaves one line fewer to write.
use Rattle.survey.proofs.Ends.{lines_left}
use Rattle.ais_survey.proofs.main.Given as goal

abbrev pub decreases-loop-name_room : goal.decreases-loop-name_room
decreases-loop-name_room l = lines_left l.survey

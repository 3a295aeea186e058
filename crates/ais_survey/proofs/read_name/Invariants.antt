-- What was kept of the line stands in the room.
use Rattle.std.proofs.Common.{◌≤◌, length}
use Rattle.ais_survey.proofs.read_name.Given as goal

abbrev pub invariant-loop : goal.invariant-loop
invariant-loop g l = l.kept ≤ length l.room

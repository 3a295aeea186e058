-- What each turn keeps.
use mathlib.Core.Path.{◌≡◌}
use lib.ListN.{get_or}
use Rattle.words.specs.rules.Bytes.{put}
use Rattle.machine_loads.specs.rules.Loads.{data_bytes}
use Rattle.machine_loads.proofs.put_data.Given as goal

abbrev pub invariant-loop-i : goal.invariant-loop-i
invariant-loop-i l = l.memory ≡ put l.initial.memory l.at l.i (λ k. get_or (data_bytes l.word l.left) k 0)

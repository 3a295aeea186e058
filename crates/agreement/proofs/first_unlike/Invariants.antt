-- What each turn keeps: the first of the words that are left is the first of all.
use Rattle.std.proofs.Common.{◌≡◌, ◌-◌, ◌*◌}
use Rattle.agreement.specs.rules.Differing.{first_unlike}
use Rattle.agreement.proofs.first_unlike.Given as goal

abbrev pub invariant-loop-word : goal.invariant-loop-word
invariant-loop-word l = first_unlike (1024 - l.word) (4 * l.word) l.flash l.line ≡ first_unlike 1024 0 l.flash l.line

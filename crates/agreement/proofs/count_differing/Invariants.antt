-- What each turn keeps: what is counted and what is left to count.
use Rattle.std.proofs.Common.{◌≡◌, ◌+◌, ◌-◌, ◌*◌, ◌≤◌}
use Rattle.agreement.specs.rules.Differing.{differing}
use Rattle.agreement.proofs.count_differing.Given as goal

abbrev pub invariant-loop-word : goal.invariant-loop-word
invariant-loop-word l = record {
  few : l.count ≤ l.word;
  counted : l.count + differing (1024 - l.word) (4 * l.word) l.flash l.line ≡ differing 1024 0 l.flash l.line;
}

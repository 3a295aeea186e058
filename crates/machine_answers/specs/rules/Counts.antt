-- 18 and 25, and the totals with the number that a section takes.
use Rattle.std.specs.Prelude.{ℕ}
use Rattle.opcodes.specs.declared.Refusal.TheVariants as refusal
use Rattle.ledger.specs.rules.Totals.{would_pass, counted, is_spent, numbered}
use Rattle.ledger.specs.declared.Totals.{Totals}
use Rattle.commands.specs.rules.Commands.{barred, Judged}
use Rattle.machine_answers.specs.declared.Core.{Core}

-- the totals with one more section of so many bytes, and its number taken
abbrev pub counted_on : Core → ℕ → Totals
counted_on k size = numbered (counted k.dialect k.tally.totals size)

-- 18: a load or a fill, as judged before, that would take a total past the largest
abbrev pub overflowing : Core → ℕ → Judged → Judged
overflowing k size judged = barred (would_pass k.dialect k.tally.totals size) refusal.Overflow judged

-- 25, after it: a command, as judged before, that finds no number
abbrev pub out_of_numbers : Core → Judged → Judged
out_of_numbers k judged = barred (is_spent k.tally.totals) refusal.Number judged

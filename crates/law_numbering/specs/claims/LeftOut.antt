-- What a session that numbers its commands has more than one that does not (02, request 6), left out; and which commands take a number.
use Rattle.std.specs.Prelude.{Bool, true, false}
use Rattle.opcodes.specs.rules.Opcodes.{by_writing}
use Rattle.opcodes.specs.declared.Command.{Command}
use Rattle.ledger.specs.declared.Totals.{Totals}
use Rattle.commands.specs.rules.Wrote.{renumbered}
use Rattle.commands.specs.declared.Wrote.{Wrote}

-- totals with the numbers left out
abbrev pub unnumbered : Totals → Totals
unnumbered t = record { now = t.now; mark = t.mark; asked = t.asked; next = 0; back = 0 }

-- what was written, by whatever command
abbrev pub by_any : Wrote → Wrote
by_any w = renumbered 0 w

-- a load, a fill and a setting take a number
abbrev pub takes : Command → Bool
takes command = by_writing command true true true false

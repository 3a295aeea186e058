-- What an opening says of every session that it leads to: in AM17xx there are no totals, and a session that was to number its commands does.
use Rattle.std.specs.Prelude.{true, ◌≡◌}
use Rattle.opcodes.specs.declared.Dialect.TheVariants.{Am17xx}
use Rattle.opcodes.specs.rules.Refusals.{None}
use Rattle.ledger.specs.claims.Agreement.{Zero}
use Rattle.machine.specs.claims.Wrote.{KeepsNumbers}
use Rattle.sent.specs.declared.Bus.{Bus}
use Rattle.sent.specs.declared.Session.{Session}
use Rattle.sent_laws.specs.claims.Reached.{Reached, opening_of, numbering}

pub record SinceOpening (bus : Bus) : Type 0 where
  -- in AM17xx the totals are 0
  pub zero : (s : Session) → Reached bus s → s.core.dialect ≡ Am17xx → Zero s.core.tally.totals
  -- a session that numbers goes on so, and what it tells that it wrote has the number of its command
  pub numbers : (s : Session) (reached : Reached bus s) → numbering reached ≡ true → (opening_of reached).refusal ≡ None → KeepsNumbers s.core

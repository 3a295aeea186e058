-- What an opcode that is taken by line makes of the totals is what it makes of the account: one that settles a Request marks where the fold marks the Request
-- that stands before it. It leans on no law of the totals, so that an opcode in a wrong place of the table is refused here first.
use Rattle.std.proofs.Common.{Bool, true, false, [], ◌∷◌, refl}
use Rattle.words.specs.rules.Choice.{pick}
use Rattle.opcodes.specs.declared.Command.{Command}
use Rattle.opcodes.specs.declared.Command.TheVariants as command
use Rattle.opcodes.specs.declared.Dialect.{Dialect}
use Rattle.ledger.specs.rules.Totals.{settled, turned}
use Rattle.ledger.specs.claims.Account.{other, Account, account, numbers_told}
use Rattle.ledger.specs.claims.Booked.{totals_of, Leads, by_mark, opcode_act}

module _ (dialect : Dialect) (numbering : Bool) (a : Account) where
  -- an opcode that is not to the mark settles
  settled_leads : (asks : Bool) → Leads dialect numbering a asks (other ∷ []) (settled (totals_of dialect numbering a asks)) false
  unfolding account numbers_told pick
  settled_leads true =
      record { there = record { now = a.now; mark = a.now }; totals = refl; goes_on = λ later. refl; tells_on = λ later. refl }
  settled_leads false = record { there = a; totals = refl; goes_on = λ later. refl; tells_on = λ later. refl }

  pub opcode_leads : (asks : Bool) (c : Command)
      → Leads dialect numbering a asks (opcode_act c ∷ []) (turned c (totals_of dialect numbering a asks)) (by_mark c false true false false)
  unfolding account numbers_told pick
  opcode_leads asks command.Load = settled_leads asks
  opcode_leads asks command.Fill = settled_leads asks
  opcode_leads asks command.BootTable = settled_leads asks
  opcode_leads true command.Enable =
      record { there = record { now = a.now; mark = a.now }; totals = refl; goes_on = λ later. refl; tells_on = λ later. refl }
  opcode_leads false command.Enable =
      record { there = record { now = a.now; mark = a.now }; totals = refl; goes_on = λ later. refl; tells_on = λ later. refl }
  opcode_leads asks command.Disable = settled_leads asks
  opcode_leads true command.Request =
      record { there = record { now = a.now; mark = a.now }; totals = refl; goes_on = λ later. refl; tells_on = λ later. refl }
  opcode_leads false command.Request = record { there = a; totals = refl; goes_on = λ later. refl; tells_on = λ later. refl }
  opcode_leads true command.StartOver =
      record { there = record { now = a.mark; mark = a.mark }; totals = refl; goes_on = λ later. refl; tells_on = λ later. refl }
  opcode_leads false command.StartOver =
      record { there = record { now = a.mark; mark = a.mark }; totals = refl; goes_on = λ later. refl; tells_on = λ later. refl }
  opcode_leads asks command.JumpAndClose = settled_leads asks
  opcode_leads asks command.Ping = settled_leads asks
  opcode_leads asks command.SequentialRead = settled_leads asks

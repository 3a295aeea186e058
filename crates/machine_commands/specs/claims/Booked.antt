-- What a command that has all its words is to the account of what the session took (02, requests 5 and 6).
use Rattle.std.specs.Prelude.{ℕ, Bool, false, List, [], ◌∷◌, ◌≡◌}
use Rattle.words.specs.rules.Choice.{pick}
use Rattle.opcodes.specs.rules.Answers.{accepted}
use Rattle.opcodes.specs.rules.Opcodes.{by_writing}
use Rattle.opcodes.specs.declared.Command.{Command}
use Rattle.ledger.specs.claims.Account.{Act, section, load, setting, Account}
use Rattle.ledger.specs.claims.Booked.{totals_of, Leads}
use Rattle.machine_commands.specs.rules.Performed.{performed}
use Rattle.machine_answers.specs.declared.Core.{Core}
use Rattle.machine_answers.specs.declared.Kept.{Kept}

-- once it is accepted: a load, whose data are to come, and a fill are sections of so many bytes, and there are settings; all else is done at its opcode
abbrev pub done_acts : Command → Kept → ℕ → List Act
done_acts command kept word = by_writing command (load word ∷ []) (section kept.second ∷ []) (setting ∷ []) []

-- nothing that is refused is an act
abbrev pub CommandsBooked : Type 0
CommandsBooked =
    (c : Command) (k : Core) (m : List ℕ) (kept : Kept) (word : ℕ) (numbering : Bool) (a : Account) → k.tally.totals ≡ totals_of k.dialect numbering a false
    → Leads k.dialect numbering a false (pick (accepted (performed c k m kept word).answer.refusal) (done_acts c kept word) [])
    (performed c k m kept word).answer.core.tally.totals false

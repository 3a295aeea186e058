-- What a command does with its words by line.
use Rattle.std.specs.Prelude.{ℕ, Bool, true, false, List, eqb}
use Rattle.words.specs.rules.Choice.{pick}
use Rattle.opcodes.specs.declared.Command.{Command}
use Rattle.opcodes.specs.declared.Command.TheVariants as command
use Rattle.opcodes.specs.declared.Dialect.{Dialect}
use Rattle.opcodes.specs.declared.Dialect.TheVariants.{Am17xx, Dm648}
use Rattle.opcodes.specs.declared.Refusal.TheVariants as why
use Rattle.opcodes.specs.rules.Refusals as refusal
use Rattle.ledger.specs.rules.Totals.{standing, differs, numbered}
use Rattle.ledger.specs.declared.Standing.{Standing}
use Rattle.ledger.specs.declared.Totals.{Totals}
use Rattle.commands.specs.rules.Commands.{barred, fill_judged, fill_done, fill_memory, setting_judged, setting_done, setting_memory, entry_judged, close_done}
use Rattle.commands.specs.rules.Commands.{Judged}
use Rattle.commands.specs.rules.Wrote.{bytes_wrote, setting_wrote}
use Rattle.machine_answers.specs.rules.Answers.{changed, await, with_checksum, refused, said, quiet, writing, WordOutcome, ◌leaving◌, after, entered}
use Rattle.machine_answers.specs.rules.Counts.{counted_on, overflowing, out_of_numbers}
use Rattle.machine_loads.specs.rules.Loads.{load_taken}
use Rattle.machine_answers.specs.rules.Replies.{one_word}
use Rattle.machine_answers.specs.declared.Core.{Core}
use Rattle.machine_answers.specs.declared.Kept.{Kept}
use Rattle.machine_answers.specs.declared.Phase.{Phase}
use Rattle.machine_answers.specs.declared.Phase.TheVariants as phase

-- Fill
abbrev pub fill_taken : Core → List ℕ → ℕ → ℕ → ℕ → ℕ → WordOutcome
fill_taken k m address size kind pattern =
    let judged : Judged = out_of_numbers k (overflowing k size (fill_judged k.windows address size kind)) in
    writing (bytes_wrote judged size k.tally.totals.next)
    (after k (counted_on k size) (fill_done judged k.on k.tally.checksum address size kind pattern))
    leaving fill_memory judged m size kind pattern

-- a setting is numbered, and not counted
abbrev pub setting_totals : Core → Totals
setting_totals k = numbered k.tally.totals

-- Boot Table
abbrev pub setting_taken : Core → List ℕ → ℕ → ℕ → ℕ → ℕ → WordOutcome
setting_taken k m word address value delay =
    let judged : Judged = out_of_numbers k (setting_judged k.windows word address value) in
    writing (setting_wrote judged word k.tally.totals.next)
    (after k (setting_totals k) (setting_done judged k.tally.checksum delay))
    leaving setting_memory judged m word value

-- Enable, Disable and Start-Over: the checksum switched, or as it was, and a value for it
abbrev pub switched : Core → List ℕ → Bool → ℕ → WordOutcome
switched k m on checksum = quiet (changed k k.ended on k.begun (with_checksum k checksum) phase.Opcode) leaving m

-- Request: the checksum is sent, and becomes 0
abbrev pub request_taken : Core → List ℕ → WordOutcome
request_taken k m = said (one_word k.tally.checksum) (await k (with_checksum k 0) phase.Opcode) leaving m

-- Jump & Close: 10, then 17 where the totals that it names are not those that stand
abbrev pub close_judged : Core → ℕ → Standing → Judged
close_judged k address named = barred (differs k.dialect k.tally.totals named) why.Totals (entry_judged k.windows address)

abbrev pub close_taken : Core → List ℕ → ℕ → Standing → WordOutcome
close_taken k m address named =
    entered (after k k.tally.totals (close_done (close_judged k address named) k.tally.checksum address)) leaving m

-- its words end with its address, or in DM648 with the two totals after it
abbrev pub close_address : Dialect → Kept → ℕ → ℕ
close_address Am17xx kept word = word
close_address Dm648 kept word = kept.second

-- words to echo
unfoldable pub echoing : ℕ → Phase
echoing n = pick (eqb n 0) phase.Opcode (phase.Echo n)

-- Ping: its count is echoed, and then so many words
abbrev pub ping_taken : Core → List ℕ → ℕ → WordOutcome
ping_taken k m count = said (one_word count) (await k k.tally (echoing count)) leaving m

-- no argument word of a command has come yet
abbrev pub none_kept : Kept
none_kept = record { first = 0; second = 0; third = 0 }

-- what a command does with its words in their order, the last three kept and the last; what the table allows in flash mode only is 6
abbrev pub performed : Command → Core → List ℕ → Kept → ℕ → WordOutcome
performed command.Load k m kept size = load_taken k m kept.third size
performed command.Fill k m kept pattern = fill_taken k m kept.first kept.second kept.third pattern
performed command.BootTable k m kept delay = setting_taken k m kept.first kept.second kept.third delay
performed command.Enable k m kept word = switched k m true 0
performed command.Disable k m kept word = switched k m false k.tally.checksum
performed command.Request k m kept word = request_taken k m
performed command.StartOver k m kept word = switched k m k.on 0
performed command.JumpAndClose k m kept word = close_taken k m (close_address k.dialect kept word) (standing kept.third word)
performed command.Ping k m kept count = ping_taken k m count
performed command.SequentialRead k m kept word = refused k refusal.Opcode leaving m

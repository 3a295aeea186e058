-- What a word is for, as the code decides it before anything is done. It says nothing new: `purpose-served` in proofs/Cases.antt shows that a word taken
-- for its purpose is the word in its phase.
use Rattle.std.specs.Prelude.{ℕ, ◌-◌, true, false, List, Some, Result, Ok, Err}
use Rattle.words.specs.rules.Choice.{pick}
use Rattle.opcodes.specs.rules.Opcodes.{looked_up}
use Rattle.opcodes.specs.declared.Dialect.{Dialect}
use Rattle.opcodes.specs.declared.Mode.TheVariants.{Sent}
use Rattle.opcodes.specs.declared.Refusal.TheVariants as why
use Rattle.opcodes.specs.declared.Known.{Known}
use Rattle.opcodes.specs.declared.Refusal.{Refusal}
use Rattle.machine_answers.specs.rules.Answers.{WordOutcome, ◌leaving◌, refused}
use Rattle.machine_commands.specs.rules.Performed.{none_kept}
use Rattle.machine.specs.rules.Machine.{toward, begun, opening, in_phase}
use Rattle.machine_answers.specs.declared.Core.{Core}
use Rattle.machine_answers.specs.declared.Phase.{Phase}
use Rattle.machine_answers.specs.declared.Phase.TheVariants as phase
use Rattle.machine.specs.declared.Purpose.{Purpose}
use Rattle.machine.specs.declared.Purpose.TheVariants.{Command, Data, Echo}

-- an opcode: not taken; or the words to come are those of its row, and none of them is here yet
abbrev pub opcode_purpose : Result Known Refusal → Result Purpose Refusal
opcode_purpose (Err q) = Err q
opcode_purpose (Ok known) =
    Ok (Command (record { opens = true; command = known.command; coming = known.words; kept = none_kept; argument = 0 }))

-- a word, by the phase that awaits it
abbrev pub purpose_of : Phase → Dialect → ℕ → Result Purpose Refusal
purpose_of phase.Opcode dialect word = opcode_purpose (looked_up word Sent dialect)
purpose_of (phase.Argument command left kept) dialect word =
    Ok (Command (record { opens = false; command = command; coming = left - 1; kept = kept; argument = word }))
purpose_of (phase.Data end left) dialect word = Ok (Data end left)
purpose_of (phase.Echo n) dialect word = Ok (Echo n)

-- a word taken for its purpose
abbrev pub served : Purpose → Core → List ℕ → ℕ → WordOutcome
served (Command step) k m word =
    pick step.opens (opening word (toward step.command step.coming (begun step.command k) m step.kept step.argument))
    (toward step.command step.coming k m step.kept step.argument)
served (Data end left) k m word = in_phase (phase.Data end left) k m word
served (Echo n) k m word = in_phase (phase.Echo n) k m word

-- so of a word that is refused
abbrev pub answered : Result Purpose Refusal → Core → List ℕ → ℕ → WordOutcome
answered (Err q) k m word = refused k (Some q) leaving m
answered (Ok purpose) k m word = served purpose k m word

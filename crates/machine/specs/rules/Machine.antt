-- The word machine: what a whole word does, by the phase that awaits it. It knows nothing of how the word arrived.
use Rattle.std.specs.Prelude.{ℕ, ◌-◌, true, List, eqb, Result, Ok, Err, Some}
use Rattle.words.specs.rules.Choice.{pick}
use Rattle.opcodes.specs.rules.Answers.{accepted}
use Rattle.opcodes.specs.rules.Opcodes.{looked_up}
use Rattle.opcodes.specs.declared.Command.{Command}
use Rattle.opcodes.specs.declared.Mode.TheVariants.{Sent}
use Rattle.opcodes.specs.rules.Refusals as refusal
use Rattle.opcodes.specs.declared.Known.{Known}
use Rattle.opcodes.specs.declared.Refusal.{Refusal}
use Rattle.ledger.specs.rules.Totals.{turned}
use Rattle.machine_answers.specs.rules.Answers.{tallied, changed, await, refused, said, quiet, WordOutcome, ◌leaving◌}
use Rattle.machine_loads.specs.rules.Loads.{data_taken}
use Rattle.machine_commands.specs.rules.Performed.{echoing, none_kept, performed}
use Rattle.machine_answers.specs.rules.Replies.{one_word, word_then, acknowledged}
use Rattle.machine_answers.specs.declared.Core.{Core}
use Rattle.machine_answers.specs.declared.Kept.{Kept}
use Rattle.machine_answers.specs.declared.Phase.{Phase}
use Rattle.machine_answers.specs.declared.Phase.TheVariants as phase
use Rattle.machine_answers.specs.declared.Taken.{Taken}

-- the argument words kept of a command, with one more: the last three are kept, each new one shifted in
abbrev pub keeping : Kept → ℕ → Kept
keeping kept word = record { first = kept.second; second = kept.third; third = word }

-- a command with so many words to come: with none it is done, else the next is awaited and this one kept
abbrev pub toward : Command → ℕ → Core → List ℕ → Kept → ℕ → WordOutcome
toward command left k m kept word =
    pick (eqb left 0) (performed command k m kept word)
    (quiet (await k k.tally (phase.Argument command left (keeping kept word))) leaving m)

-- what an opcode does for all: the session has begun, and the totals are turned as its command says
abbrev pub begun : Command → Core → Core
begun command k = changed k k.ended k.on true (tallied k.tally.checksum (turned command k.tally.totals)) k.stage.phase

-- and where it is accepted, its acknowledgement comes before all else that is said
unfoldable pub acknowledging : ℕ → Taken → Taken
acknowledging opcode t =
    pick (accepted t.refusal)
    (record { refusal = t.refusal; reply = word_then (acknowledged opcode) t.reply; event = t.event; core = t.core; wrote = t.wrote })
    t

-- so of an outcome; the memory is the command's
abbrev pub opening : ℕ → WordOutcome → WordOutcome
opening opcode o = acknowledging opcode o.answer leaving o.memory

-- an opcode, by what the table says of it: 6 or 15, or a command with as many words to come as its row has
abbrev pub at_opcode : Core → List ℕ → ℕ → Result Known Refusal → WordOutcome
at_opcode k m opcode (Err q) = refused k (Some q) leaving m
at_opcode k m opcode (Ok known) = opening opcode (toward known.command known.words (begun known.command k) m none_kept 0)

-- a whole word, by the phase that awaits it
abbrev pub in_phase : Phase → Core → List ℕ → ℕ → WordOutcome
in_phase phase.Opcode k m word = at_opcode k m word (looked_up word Sent k.dialect)
in_phase (phase.Argument command left kept) k m word = toward command (left - 1) k m kept word
in_phase (phase.Data end left) k m word = data_taken k m end left word
in_phase (phase.Echo n) k m word = said (one_word word) (await k k.tally (echoing (n - 1))) leaving m

-- the machine: a core, a memory and a word
unfoldable pub word_step : Core → List ℕ → ℕ → WordOutcome
word_step k m word = in_phase k.stage.phase k m word

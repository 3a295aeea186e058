-- The answers to a turn, and what is done where the right answer was heard and where it was not.
use Rattle.std.specs.Prelude.{ℕ, ◌+◌, Bool, List, leb}
use Rattle.words.specs.rules.Choice.{pick}
use Rattle.opcodes.specs.rules.Refusals.{Verdict}
use Rattle.opcodes.specs.rules.Refusals as refusal
use Rattle.machine_answers.specs.rules.Replies.{one_word, acknowledged}
use Rattle.host_ear.specs.rules.Ear.{ends_with}
use Rattle.host_answers.specs.rules.Hosts.{stop, waiting, at, trying}
use Rattle.host_answers.specs.rules.Sendings.{opens, repeats}
use Rattle.host_answers.specs.declared.Host.{Host}
use Rattle.host_answers.specs.declared.Sending.{Sending}
use Rattle.host_answers.specs.declared.Sending.TheVariants.{Nothing}
use Rattle.host_answers.specs.declared.Turned.{Turned}
use Rattle.host_answers.specs.declared.Wait.{Wait}
use Rattle.host_answers.specs.declared.Wait.TheVariants as wait

-- refused, the host as it was
abbrev pub unchanged : Verdict → Host → Turned
unchanged q h = record { refusal = q; sending = Nothing; host = h }

-- refused: nothing goes out, and the host has ended
abbrev pub refused : Verdict → Host → Turned
refused q h = unchanged q (stop h)

-- the host goes on, and this goes out
abbrev pub sending : Sending → Host → Turned
sending out h = record { refusal = refusal.None; sending = out; host = h }

-- a new wait begins, with what it sends
abbrev pub enters : Wait → Host → List ℕ → Turned
enters next h image = sending (opens next h image) (waiting h next)

-- no right answer: 20 at the last try of the wait; else, where something came, nothing goes out, and where nothing came what the wait sends goes out again
unfoldable pub again : Host → List ℕ → Turned
again h image =
    pick (leb h.tries (h.spent + 1)) (refused refusal.Tries h)
    (sending (pick h.ear.fresh Nothing (repeats h.stage.wait h image)) (trying h))

-- by whether the right answer was heard
unfoldable pub answered_by : Bool → Host → List ℕ → Turned → Turned
answered_by right h image then = pick right then (again h image)

-- was an opcode acknowledged?
abbrev pub acknowledges : Host → ℕ → Bool
acknowledges h opcode = ends_with h.ear (one_word (acknowledged opcode))

-- on to an offset, where the next command is met
abbrev pub on_to : Host → ℕ → Host
on_to h offset = waiting (at h offset) wait.Nothing

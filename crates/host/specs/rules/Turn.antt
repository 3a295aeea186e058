-- A turn of the host: one look at what was heard, and at most one sending. 14, 3, then by what it waits for.
use Rattle.std.specs.Prelude.{ℕ, ◌+◌, not, ◌&&◌, List, ltb, eqb, length, Some, Result, Ok, Err}
use Rattle.words.specs.rules.Choice.{pick}
use Rattle.opcodes.specs.declared.Command.{Command}
use Rattle.opcodes.specs.declared.Dialect.TheVariants.{Dm648}
use Rattle.opcodes.specs.rules.Refusals as refusal
use Rattle.opcodes.specs.declared.Known.{Known}
use Rattle.reading.specs.rules.Reading.{past_data, read_at}
use Rattle.reading.specs.declared.Unread.{Unread}
use Rattle.flash_session.specs.rules.Opening.{good_length}
use Rattle.machine_answers.specs.rules.Replies.{farewell}
use Rattle.sent.specs.rules.Line.{start_answer}
use Rattle.sent.specs.rules.Opening.{greeting}
use Rattle.host_ear.specs.rules.Ear.{newest, ends_with}
use Rattle.host_answers.specs.rules.Answers.{unchanged, refused, sending, enters, again, answered_by, acknowledges, on_to}
use Rattle.host_answers.specs.rules.Hosts.{stop}
use Rattle.host_answers.specs.rules.Sendings.{ping_opcode, start_over, echoed}
use Rattle.host_commands.specs.rules.Commands.{by_role, acknowledged_as}
use Rattle.host_answers.specs.declared.Host.{Host}
use Rattle.host_answers.specs.declared.Sending.TheVariants.{Nothing}
use Rattle.host_answers.specs.declared.Turned.{Turned}
use Rattle.host_answers.specs.declared.Wait.{Wait}
use Rattle.host_answers.specs.declared.Wait.TheVariants as wait

-- an echo: the next word of Ping, or the first command; 20 for another word
unfoldable pub echo_heard : Host → List ℕ → ℕ → Turned
echo_heard h image k =
    pick (ltb h.ear.count 4) (again h image)
    (pick (not (eqb (newest h.ear 4) (echoed h k))) (refused refusal.Tries h)
    (pick (ltb k h.pings) (enters (wait.Echo (k + 1)) h image) (enters wait.Nothing h image)))

-- a command whose words are there, its data too, up to an end: a Sequential Read is passed over, of any other the opcode goes out
abbrev pub met_to : Host → List ℕ → Command → ℕ → Turned
met_to h image command end =
    let opcode : Turned = enters (wait.Opcode command end) h image in
    by_role command (sending Nothing (on_to h end)) opcode opcode opcode

-- the command at the host's offset: 5, 6 or 15, 5 for its arguments, 5 for the data of a load
abbrev pub met : Host → List ℕ → Result Known Unread → Turned
met h image (Err said) = refused (Some said.refusal) h
met h image (Ok known) =
    pick (ltb (length image) (past_data known.command known.words image h.offset)) (refused refusal.Missing h)
    (met_to h image known.command (past_data known.command known.words image h.offset))

-- by what the host waits for
abbrev pub in_wait : Wait → Host → List ℕ → Turned
in_wait wait.Greeting h image = answered_by (ends_with h.ear (greeting h.bus)) h image (enters wait.Start h image)
in_wait wait.Start h image = answered_by (ends_with h.ear (start_answer h.bus)) h image (enters wait.Ping h image)
in_wait wait.Ping h image = answered_by (acknowledges h ping_opcode) h image (enters (wait.Echo 0) h image)
in_wait (wait.Echo k) h image = echo_heard h image k
in_wait wait.Nothing h image = met h image (read_at image h.offset h.dialect)
in_wait (wait.Opcode command end) h image = acknowledged_as h image command end
in_wait (wait.Over offset) h image = answered_by (acknowledges h start_over) h image (sending Nothing (on_to h offset))
in_wait wait.Closing h image = answered_by (ends_with h.ear (farewell Dm648)) h image (sending Nothing (stop h))

-- a turn: 14, 3, both leaving the host as it was, then its wait
unfoldable pub turned : Host → List ℕ → Turned
turned h image =
    pick h.ended (unchanged refusal.Ended h)
    (pick (not (good_length (length image) && eqb (length image) h.length)) (unchanged refusal.Image h)
    (in_wait h.stage.wait h image))

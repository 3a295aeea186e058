-- A command of the image by its role, and what its acknowledged opcode leads to: its words, the checksum and the seek (11, 12), the close.
use Rattle.std.specs.Prelude.{ℕ, ◌+◌, List, leb, eqb, Some, Ok, Err}
use Rattle.words.specs.rules.Bytes.{word_at}
use Rattle.words.specs.rules.Choice.{pick}
use Rattle.opcodes.specs.declared.Command.{Command}
use Rattle.opcodes.specs.declared.Command.TheVariants.{Load, Fill, BootTable, Enable, Disable, Request, StartOver, JumpAndClose, Ping, SequentialRead}
use Rattle.opcodes.specs.declared.Dialect.{Dialect}
use Rattle.opcodes.specs.declared.Dialect.TheVariants.{Am17xx, Dm648}
use Rattle.opcodes.specs.rules.Refusals as refusal
use Rattle.reading.specs.rules.Reading.{argument}
use Rattle.commands.specs.rules.Commands.{sought_from, Sought}
use Rattle.host_ear.specs.rules.Ear.{newest, ends_with_checksum}
use Rattle.host_answers.specs.rules.Answers.{refused, sending, enters, answered_by, acknowledges, on_to}
use Rattle.host_answers.specs.rules.Hosts.{stop, waiting, at, retrying}
use Rattle.host_answers.specs.rules.Sendings.{is_part}
use Rattle.host_answers.specs.declared.Host.{Host}
use Rattle.host_answers.specs.declared.Sending.TheVariants.{Nothing, Stretch}
use Rattle.host_answers.specs.declared.Turned.{Turned}
use Rattle.host_answers.specs.declared.Wait.TheVariants as wait

-- a choice by what the host does with a command: passed over, it asks for the checksum, it closes, or its words go out
abbrev pub by_role : {A : Type 0} → Command → A → A → A → A → A
by_role Load passed asks closes goes = goes
by_role Fill passed asks closes goes = goes
by_role BootTable passed asks closes goes = goes
by_role Enable passed asks closes goes = goes
by_role Disable passed asks closes goes = goes
by_role Request passed asks closes goes = asks
by_role StartOver passed asks closes goes = goes
by_role JumpAndClose passed asks closes goes = closes
by_role Ping passed asks closes goes = goes
by_role SequentialRead passed asks closes goes = passed

-- the words after an opcode go out, up to an end; 5 where the image has no such part
unfoldable pub words_to : Host → List ℕ → ℕ → Host → Turned
words_to h image end next =
    pick (is_part image (h.offset + 4) end) (sending (Stretch (h.offset + 4) end) next) (refused refusal.Missing h)

-- once the words of a close are out: an AM17xx says nothing to it, a DM648 says DONE
abbrev pub closing : Dialect → Host → Host
closing Am17xx h = stop (waiting h wait.Nothing)
closing Dm648 h = waiting h wait.Closing

-- a mismatch, by where its seek leads: one retry, and Start-Over before it; or 12
abbrev pub sought_as : Host → List ℕ → Sought → Turned
sought_as h image (Ok offset) = enters (wait.Over offset) (retrying h) image
sought_as h image (Err q) = refused (Some q) h

-- the checksum that a Request was answered with: a match goes on past its words; 11 where the retries are spent; else the seek
unfoldable pub compared : Host → List ℕ → ℕ → ℕ → Turned
compared h image end checksum =
    pick (eqb (argument image h.offset 0) checksum) (sending Nothing (on_to h end))
    (pick (leb h.limit h.retries) (refused refusal.Checksum h)
    (sought_as h image (sought_from h.offset (argument image h.offset 1))))

-- an opcode that is out, of a command that ends at an offset: by its acknowledgement, a Request's with the checksum
abbrev pub acknowledged_as : Host → List ℕ → Command → ℕ → Turned
acknowledged_as h image command end =
    let opcode : ℕ = word_at image h.offset in
    let words : Turned = answered_by (acknowledges h opcode) h image (words_to h image end (on_to h end)) in
    by_role command words
    (answered_by (ends_with_checksum h.ear opcode) h image (compared h image end (newest h.ear 4)))
    (answered_by (acknowledges h opcode) h image (words_to h image end (closing h.dialect (at h end))))
    words

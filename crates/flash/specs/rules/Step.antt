-- One call of a flash session: one command, judged in the order of document 01.
use Rattle.std.specs.Prelude.{ℕ, ◌+◌, ◌*◌, not, ◌&&◌, List, eqb, length, Some, Result, Ok, Err}
use Rattle.words.specs.rules.Bytes.{bytes_at}
use Rattle.words.specs.rules.Choice.{pick}
use Rattle.windows.specs.rules.Window.{sum_of}
use Rattle.opcodes.specs.declared.Command.{Command}
use Rattle.opcodes.specs.declared.Command.TheVariants as command
use Rattle.opcodes.specs.declared.Event.TheVariants.{Nothing}
use Rattle.opcodes.specs.rules.Refusals as refusal
use Rattle.opcodes.specs.declared.Known.{Known}
use Rattle.ledger.specs.rules.Totals.{is_spent}
use Rattle.ledger.specs.declared.Happening.TheVariants as happening
use Rattle.reading.specs.rules.Reading.{present, past_words, argument, data_words, read_at}
use Rattle.reading.specs.declared.Unread.{Unread}
use Rattle.commands.specs.rules.Commands.{load_judged, Judged}
use Rattle.stores.specs.rules.Stores.{loaded, load_fed}
use Rattle.commands.specs.rules.Wrote.{none_wrote, bytes_wrote}
use Rattle.flash_session.specs.rules.Opening.{good_length}
use Rattle.flash_session.specs.rules.Sessions.{CallOutcome, ◌leaving◌, go_to, switch_on, switch_off, fetching, unchanged, stopped, accepted_as}
use Rattle.flash_session.specs.declared.Called.{Called}
use Rattle.flash_session.specs.declared.Session.{Session}
use Rattle.flash_commands.specs.rules.Commands.{overflowing, fill_of, setting_of, requested, closed}

-- Below, `next` is the offset past the command's opcode and argument words.

-- the answer to a load that is accepted at a place, with the checksum that its data leave: they are fetched, and the session goes on past them
abbrev pub load_answer : Session → ℕ → ℕ → ℕ → ℕ → Called
load_answer s next checksum size place =
    accepted_as s (happening.Section size) (bytes_wrote (Ok place) size s.totals.next) Nothing
    (go_to (fetching (data_words size) s) checksum (next + 4 * data_words size))

-- such a load: its data are copied and fed
abbrev pub load_done : Session → List ℕ → List ℕ → ℕ → ℕ → ℕ → ℕ → CallOutcome
load_done s m image next address size place =
    load_answer s next (pick s.on (load_fed s.checksum address (bytes_at image next size)) s.checksum) size place
    leaving loaded m place (bytes_at image next size)

-- a load granted at a place: 5 for its data, then 25
unfoldable pub load_at : Session → List ℕ → List ℕ → ℕ → ℕ → ℕ → ℕ → CallOutcome
load_at s m image next address size place =
    pick (not (present image next (data_words size))) (stopped refusal.Missing s leaving m)
    (pick (is_spent s.totals) (stopped refusal.Number s leaving m)
    (load_done s m image next address size place))

-- a load by its judgement
abbrev pub load_judged_as : Session → List ℕ → List ℕ → ℕ → ℕ → ℕ → Judged → CallOutcome
load_judged_as s m image next address size (Ok place) = load_at s m image next address size place
load_judged_as s m image next address size (Err q) = stopped (Some q) s leaving m

-- Load: 7, 18, then its data
abbrev pub load_of : Session → List ℕ → List ℕ → ℕ → ℕ → ℕ → CallOutcome
load_of s m image next address size = load_judged_as s m image next address size (overflowing s size (load_judged s.windows address size))

-- each command, its words in the order of the script; those that the table allows in sent mode only are 6
abbrev pub performed : Command → ℕ → Session → List ℕ → List ℕ → CallOutcome
performed command.Load next s m image = load_of s m image next (argument image s.offset 0) (argument image s.offset 1)
performed command.Fill next s m image =
    fill_of s m next (argument image s.offset 0) (argument image s.offset 1) (argument image s.offset 2) (argument image s.offset 3)
performed command.BootTable next s m image =
    setting_of s m next (argument image s.offset 0) (argument image s.offset 1) (argument image s.offset 2) (argument image s.offset 3)
performed command.Enable next s m image = accepted_as s happening.Enable none_wrote Nothing (switch_on s next) leaving m
performed command.Disable next s m image = accepted_as s happening.Other none_wrote Nothing (switch_off s next) leaving m
performed command.Request next s m image = requested s next (argument image s.offset 0) (argument image s.offset 1) leaving m
performed command.StartOver next s m image = stopped refusal.Opcode s leaving m
performed command.JumpAndClose next s m image =
    closed s next (argument image s.offset 0) (argument image s.offset 1) (argument image s.offset 2) leaving m
performed command.Ping next s m image = stopped refusal.Opcode s leaving m
performed command.SequentialRead next s m image = accepted_as s happening.Other none_wrote Nothing (go_to s s.checksum next) leaving m

-- what was read at the session's offset, its words fetched: refused it ends the session, else the command is performed
abbrev pub followed : Session → List ℕ → List ℕ → Result Known Unread → CallOutcome
followed s m image (Err said) = stopped (Some said.refusal) (fetching said.fetched s) leaving m
followed s m image (Ok known) = performed known.command (past_words s.offset known.words) (fetching (1 + known.words) s) m image

-- a call: 14, 2, 3, then what stands at the session's offset
unfoldable pub step_of : Session → List ℕ → List ℕ → CallOutcome
step_of s m image =
    pick s.ended (unchanged refusal.Ended s leaving m)
    (pick (not (eqb (length m) (sum_of s.windows))) (unchanged refusal.Memory s leaving m)
    (pick (not (good_length (length image) && eqb (length image) s.length)) (unchanged refusal.Image s leaving m)
    (followed s m image (read_at image s.offset s.dialect))))

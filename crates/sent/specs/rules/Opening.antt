-- The opening of a sent session: BOOTME once on the line of bytes, checksum off, checksum and totals 0, awaiting the start unit.
use Rattle.std.specs.Prelude.{ℕ, Bool, true, false, not, List, [], ◌∷◌, replicate}
use Rattle.words.specs.rules.Choice.{pick}
use Rattle.windows.specs.rules.Map.{good_map, kept_of, zero_window}
use Rattle.windows.specs.declared.Window.{Window}
use Rattle.opcodes.specs.rules.Answers.{accepted}
use Rattle.opcodes.specs.declared.Dialect.{Dialect}
use Rattle.opcodes.specs.declared.Dialect.TheVariants.{Am17xx}
use Rattle.opcodes.specs.rules.Refusals.{None, Map}
use Rattle.ledger.specs.rules.Totals.{at_opening}
use Rattle.machine_answers.specs.rules.Answers.{numbered_from_one}
use Rattle.machine_answers.specs.rules.Replies.{silence}
use Rattle.sent.specs.declared.Bus.{Bus}
use Rattle.sent.specs.declared.Bus.TheVariants.{Bytes, Halves}
use Rattle.sent.specs.declared.Opened.{Opened}
use Rattle.machine_answers.specs.declared.Phase.TheVariants as phase
use Rattle.machine_answers.specs.declared.Reply.{Reply}
use Rattle.sent.specs.declared.Session.{Session}

-- the greeting, BOOTME; none on the line of halves
abbrev pub greeting : Bus → Reply
greeting Bytes = record { bytes = 0x42 ∷ 0x4F ∷ 0x4F ∷ 0x54 ∷ 0x4D ∷ 0x45 ∷ 0 ∷ 0 ∷ []; count = 6 }
greeting Halves = silence

-- a session at the very start, or one that never opened
abbrev pub at_start : Dialect → List Window → Bool → Session
at_start dialect windows ended =
    record {
      core = record {
        windows = windows;
        dialect = dialect;
        ended = ended;
        on = false;
        begun = false;
        tally = record { checksum = 0; totals = at_opening };
        stage = record { phase = phase.Opcode };
      };
      line = record { started = false; have = 0; word = 0 };
    }

-- 1: a refused opening says nothing and gives an ended AM17xx session, all else of it zero or off
unfoldable pub opened_by : Bus → Dialect → ℕ → List Window → Opened
opened_by bus dialect count windows =
    pick (not (good_map count windows)) (record { refusal = Map; reply = silence; session = at_start Am17xx (replicate 8 zero_window) true })
    (record { refusal = None; reply = greeting bus; session = at_start dialect (kept_of count windows) false })

-- a session whose commands are numbered from 1
abbrev pub from_one_on : Session → Session
from_one_on s = record { core = numbered_from_one s.core; line = s.line }

-- an opening with such a session; a refused one is as it was
unfoldable pub numbering_from : Opened → Opened
numbering_from o =
    pick (accepted o.refusal) (record { refusal = o.refusal; reply = o.reply; session = from_one_on o.session }) o

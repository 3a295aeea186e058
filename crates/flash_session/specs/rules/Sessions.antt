-- The flash session, what a call may change in it, and the answers to a call.
use Rattle.std.specs.Prelude.{ℕ, ◌+◌, ◌-◌, min, Bool, true, false, List}
use Rattle.words.specs.rules.Choice.{pick}
use Rattle.opcodes.specs.rules.Answers.{accepted}
use Rattle.opcodes.specs.declared.Event.{Event}
use Rattle.opcodes.specs.declared.Event.TheVariants.{Nothing}
use Rattle.opcodes.specs.rules.Refusals.{Verdict}
use Rattle.opcodes.specs.rules.Refusals.{None}
use Rattle.ledger.specs.rules.Totals.{in_flash}
use Rattle.ledger.specs.declared.Happening.{Happening}
use Rattle.ledger.specs.declared.Totals.{Totals}
use Rattle.commands.specs.rules.Wrote.{none_wrote}
use Rattle.commands.specs.declared.Done.{Done}
use Rattle.commands.specs.declared.Wrote.{Wrote}
use Rattle.flash_session.specs.declared.Called.{Called}
use Rattle.flash_session.specs.declared.Session.{Session}

-- a session with all that a call may change
abbrev pub changed : Session → Bool → Bool → ℕ → ℕ → ℕ → ℕ → Totals → Session
changed s ended on checksum offset retries fetched totals =
    record {
      windows = s.windows;
      ended = ended;
      on = on;
      checksum = checksum;
      offset = offset;
      length = s.length;
      limit = s.limit;
      retries = retries;
      fetched = fetched;
      dialect = s.dialect;
      totals = totals;
    }

-- ended, all else as it was
abbrev pub stop : Session → Session
stop s = changed s true s.on s.checksum s.offset s.retries s.fetched s.totals

-- with another checksum, going on at another offset
abbrev pub go_to : Session → ℕ → ℕ → Session
go_to s checksum offset = changed s s.ended s.on checksum offset s.retries s.fetched s.totals

-- with other totals, all else as it was
abbrev pub with_totals : Session → Totals → Session
with_totals s totals = changed s s.ended s.on s.checksum s.offset s.retries s.fetched totals

-- with checksum 0 at an earlier offset, one retry counted
abbrev pub go_back : Session → ℕ → Session
go_back s offset = changed s s.ended s.on 0 offset (s.retries + 1) s.fetched s.totals

-- the checksum on, its checksum 0, going on at another offset
abbrev pub switch_on : Session → ℕ → Session
switch_on s offset = changed s s.ended true 0 offset s.retries s.fetched s.totals

-- the checksum off, its checksum kept, going on at another offset
abbrev pub switch_off : Session → ℕ → Session
switch_off s offset = changed s s.ended false s.checksum offset s.retries s.fetched s.totals

-- a count of words with n more, or with as many as 32 bits still hold: it stays at the largest number
unfoldable pub counted_on : ℕ → ℕ → ℕ
counted_on fetched n = fetched + min n (0xFFFFFFFF - fetched)

-- with n words more fetched, all else as it was
abbrev pub fetching : ℕ → Session → Session
fetching n s = changed s s.ended s.on s.checksum s.offset s.retries (counted_on s.fetched n) s.totals

-- refused, the session unchanged; no offset is reported
abbrev pub unchanged : Verdict → Session → Called
unchanged q s = record { refusal = q; event = Nothing; at = 0; session = s; wrote = none_wrote }

-- refused at the opcode: the session is ended, nothing else of it changes
abbrev pub stopped : Verdict → Session → Called
stopped q s = record { refusal = q; event = Nothing; at = s.offset; session = stop s; wrote = none_wrote }

-- accepted, with what happened, what was written and an event: the session s goes on as t, its totals turned
abbrev pub accepted_as : Session → Happening → Wrote → Event → Session → Called
accepted_as s happened wrote told t =
    record { refusal = None; event = told; at = s.offset; session = with_totals t (in_flash s.dialect s.totals happened); wrote = wrote }

-- a command that was judged and done: refused it ends the session, accepted it goes on at `next`, past its words, and this has happened
unfoldable pub after : Session → Happening → Wrote → Done → ℕ → Called
after s happened wrote done next =
    pick (accepted done.refusal)
    (accepted_as s happened wrote done.event (go_to s done.checksum next))
    (stopped done.refusal s)

-- what a call gives: its answer and the memory that it leaves
pub record CallOutcome : Type 0 where
  pub answer : Called
  pub memory : List ℕ

infix 20 ◌leaving◌
abbrev pub ◌leaving◌ : Called → List ℕ → CallOutcome
answer leaving memory = record { answer = answer; memory = memory }

-- What a word may change, and the answers to it: refused, said, with what was written, done, entered.
use Rattle.std.specs.Prelude.{ℕ, Bool, true, List}
use Rattle.words.specs.rules.Choice.{pick}
use Rattle.opcodes.specs.rules.Answers.{accepted}
use Rattle.opcodes.specs.declared.Event.TheVariants.{Nothing}
use Rattle.opcodes.specs.rules.Refusals.{Verdict}
use Rattle.opcodes.specs.rules.Refusals as refusal
use Rattle.ledger.specs.rules.Totals.{from_one}
use Rattle.ledger.specs.declared.Totals.{Totals}
use Rattle.commands.specs.rules.Wrote.{none_wrote}
use Rattle.commands.specs.declared.Done.{Done}
use Rattle.commands.specs.declared.Wrote.{Wrote}
use Rattle.machine_answers.specs.rules.Replies.{silence, farewell}
use Rattle.machine_answers.specs.declared.Core.{Core}
use Rattle.machine_answers.specs.declared.Phase.{Phase}
use Rattle.machine_answers.specs.declared.Phase.TheVariants as phase
use Rattle.machine_answers.specs.declared.Reply.{Reply}
use Rattle.machine_answers.specs.declared.Taken.{Taken}
use Rattle.machine_answers.specs.declared.Tally.{Tally}

-- what Start-Over takes back: the checksum and the totals
abbrev pub tallied : ℕ → Totals → Tally
tallied checksum totals = record { checksum = checksum; totals = totals }

-- all that a word may change
abbrev pub changed : Core → Bool → Bool → Bool → Tally → Phase → Core
changed k ended on begun tally next =
    record { windows = k.windows; dialect = k.dialect; ended = ended; on = on; begun = begun; tally = tally; stage = record { phase = next } }

-- the same with another tally, awaiting another word
abbrev pub await : Core → Tally → Phase → Core
await k tally next = changed k k.ended k.on k.begun tally next

-- with another checksum
abbrev pub with_checksum : Core → ℕ → Tally
with_checksum k checksum = tallied checksum k.tally.totals

-- with its commands numbered from 1
abbrev pub numbered_from_one : Core → Core
numbered_from_one k = await k (tallied k.tally.checksum (from_one k.tally.totals)) k.stage.phase

-- ended, all else as it was
abbrev pub stop : Core → Core
stop k = changed k true k.on k.begun k.tally k.stage.phase

-- refused: no reply, no event, the session ended
abbrev pub refused : Core → Verdict → Taken
refused k q = record { refusal = q; reply = silence; event = Nothing; core = stop k; wrote = none_wrote }

-- accepted, with a reply
abbrev pub said : Reply → Core → Taken
said reply k = record { refusal = refusal.None; reply = reply; event = Nothing; core = k; wrote = none_wrote }

-- accepted, with no reply
abbrev pub quiet : Core → Taken
quiet k = said silence k

-- an answer with what was written
abbrev pub writing : Wrote → Taken → Taken
writing wrote t = record { refusal = t.refusal; reply = t.reply; event = t.event; core = t.core; wrote = wrote }

-- what a word gives: its answer and the memory that it leaves
pub record WordOutcome : Type 0 where
  pub answer : Taken
  pub memory : List ℕ

infix 20 ◌leaving◌
abbrev pub ◌leaving◌ : Taken → List ℕ → WordOutcome
answer leaving memory = record { answer = answer; memory = memory }

-- a command that was judged and done at its last argument word, with the totals that it leaves
unfoldable pub after : Core → Totals → Done → Taken
after k totals done =
    pick (accepted done.refusal)
    (record { refusal = refusal.None; reply = silence; event = done.event; core = await k (tallied done.checksum totals) phase.Opcode; wrote = none_wrote })
    (refused k done.refusal)

-- Jump & Close: entered, the session is ended, and a DM648 says DONE
unfoldable pub entered : Taken → Taken
entered t =
    pick (accepted t.refusal)
    (record { refusal = t.refusal; reply = farewell t.core.dialect; event = t.event; core = stop t.core; wrote = t.wrote })
    t

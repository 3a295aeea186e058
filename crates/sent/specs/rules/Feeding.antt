-- Units fed to a sent session one after the other, on either line: where they lead, the answers on the way, and what a host makes of these.
use Rattle.std.specs.Prelude.{ℕ, List, [], ◌∷◌, ◌++◌, ◌≡◌, eqb}
use Rattle.words.specs.rules.Choice.{pick}
use Rattle.opcodes.specs.rules.Answers.{code_of, told}
use Rattle.opcodes.specs.declared.Event.{Event}
use Rattle.opcodes.specs.rules.Refusals.{Verdict}
use Rattle.opcodes.specs.rules.Refusals.{None}
use Rattle.ledger.specs.declared.Totals.{Totals}
use Rattle.sent.specs.rules.Line.{unit_step}
use Rattle.sent.specs.declared.Bus.{Bus}
use Rattle.machine_answers.specs.rules.Replies.{sent_bytes}
use Rattle.machine_answers.specs.declared.Reply.{Reply}
use Rattle.sent.specs.declared.Session.{Session}

-- a session with the memory that is lent to it, handed from step to step
pub record State : Type 0 where
  pub session : Session
  pub memory : List ℕ

-- a session's checksum
abbrev pub checksum : State → ℕ
checksum x = x.session.core.tally.checksum

-- its totals
abbrev pub totals : State → Totals
totals x = x.session.core.tally.totals

-- what the host hears of a unit
pub record Heard : Type 0 where
  pub refusal : Verdict
  pub reply : Reply
  pub event : Event

-- the state after one unit, and what is heard of it
abbrev pub next : Bus → State → ℕ → State
next bus x u =
    record { session = (unit_step bus x.session x.memory u).answer.session; memory = (unit_step bus x.session x.memory u).memory }

abbrev pub heard : Bus → State → ℕ → Heard
heard bus x u =
    record {
      refusal = (unit_step bus x.session x.memory u).answer.refusal;
      reply = (unit_step bus x.session x.memory u).answer.reply;
      event = (unit_step bus x.session x.memory u).answer.event;
    }

-- the state after some units
unfoldable pub fed : Bus → State → List ℕ → State
fed bus x [] = x
fed bus x (u ∷ us) = fed bus (next bus x u) us

-- all that is heard of some units
unfoldable pub answers : Bus → State → List ℕ → List Heard
answers bus x [] = []
answers bus x (u ∷ us) = heard bus x u ∷ answers bus (next bus x u) us

-- the bytes of replies, one after the other
unfoldable pub replied : List Heard → List ℕ
replied [] = []
replied (h ∷ hs) = sent_bytes h.reply ++ replied hs

-- the events that are heard, in order
unfoldable pub events_heard : List Heard → List Event
events_heard [] = []
events_heard (h ∷ hs) = told h.event ++ events_heard hs

-- the first of two codes that is not 0
unfoldable pub first_of : ℕ → ℕ → ℕ
first_of q r = pick (eqb q 0) r q

-- the code of the first refusal that is heard, 0 where there is none
unfoldable pub first_refused : List Heard → ℕ
first_refused [] = 0
first_refused (h ∷ hs) = first_of (code_of h.refusal) (first_refused hs)

-- no answer to some units is a refusal
unfoldable pub NoneRefused : Bus → State → List ℕ → Type 0
NoneRefused bus x [] = Unit {0}
NoneRefused bus x (u ∷ us) = ((heard bus x u).refusal ≡ None) × NoneRefused bus (next bus x u) us

-- Numbers in sent mode (02, request 6): an opening without them leads to none, and where they are kept they change nothing until there are no more, which is
-- 25.
use Rattle.std.specs.Prelude.{ℕ, ◌-◌, Bool, true, false, ◌&&◌, List, [], ◌∷◌, ◌≢◌, ◌≡◌, eqb}
use Rattle.opcodes.specs.rules.Answers.{code_of, accepted}
use Rattle.opcodes.specs.declared.Command.{Command}
use Rattle.opcodes.specs.rules.Refusals as refusal
use Rattle.ledger.specs.claims.Agreement.{KeepsNone}
use Rattle.ledger.specs.rules.Totals.{is_spent}
use Rattle.sent.specs.rules.Feeding.{State, next, heard, fed, answers}
use Rattle.sent.specs.rules.Line as line
use Rattle.sent.specs.rules.Line.{unit_step}
use Rattle.machine_answers.specs.rules.Answers.{WordOutcome, ◌leaving◌, tallied, changed}
use Rattle.machine.specs.rules.Machine.{word_step}
use Rattle.sent.specs.declared.Bus.{Bus}
use Rattle.machine_answers.specs.declared.Core.{Core}
use Rattle.machine_answers.specs.declared.Phase.{Phase}
use Rattle.machine_answers.specs.declared.Phase.TheVariants as phase
use Rattle.sent.specs.declared.Session.{Session}
use Rattle.machine_answers.specs.declared.Taken.{Taken}
use Rattle.sent_laws.specs.claims.Reached.{Reached, numbering}
use Rattle.law_numbering.specs.claims.LeftOut.{unnumbered, by_any, takes}

-- a core with the numbers left out
abbrev pub plain : Core → Core
plain k = changed k k.ended k.on k.begun (tallied k.tally.checksum (unnumbered k.tally.totals)) k.stage.phase

-- so of the answer to a word, and of what it gives
abbrev pub plainly : Taken → Taken
plainly t = record { refusal = t.refusal; reply = t.reply; event = t.event; core = plain t.core; wrote = by_any t.wrote }

abbrev pub plain_outcome : WordOutcome → WordOutcome
plain_outcome o = plainly o.answer leaving o.memory

-- of a session, of what a unit gives, and of a session with its memory
abbrev pub plain_session : Session → Session
plain_session s = record { core = plain s.core; line = s.line }

abbrev pub plain_unit : line.UnitOutcome → line.UnitOutcome
plain_unit o =
    record {
      answer = record {
        refusal = o.answer.refusal;
        reply = o.answer.reply;
        event = o.answer.event;
        session = plain_session o.answer.session;
        wrote = by_any o.answer.wrote;
      };
      memory = o.memory;
    }

abbrev pub plain_state : State → State
plain_state x = record { session = plain_session x.session; memory = x.memory }

-- does a command take a number with so many words to come?
abbrev pub takes_at : Command → ℕ → Bool
takes_at command left = eqb left 0 && takes command

-- does a word take one? the last argument word of a load, a fill or a setting does
abbrev pub takes_in : Phase → Bool
takes_in phase.Opcode = false
takes_in (phase.Argument command left kept) = takes_at command (left - 1)
takes_in (phase.Data end left) = false
takes_in (phase.Echo n) = false

-- such a word that would be accepted, were there a number for it
pub record OutOfNumbers (k : Core) (m : List ℕ) (word : ℕ) : Type 0 where
  pub spent : is_spent k.tally.totals ≡ true
  pub takes_one : takes_in k.stage.phase ≡ true
  pub accepted : (word_step (plain k) m word).answer.refusal ≡ refusal.None

-- no answer to some units is 25
unfoldable pub NoneSpent : Bus → State → List ℕ → Type 0
NoneSpent bus x [] = Unit {0}
NoneSpent bus x (u ∷ us) = (code_of (heard bus x u).refusal ≢ 25) × NoneSpent bus (next bus x u) us

-- some units are answered as without the numbers, and lead to the same
pub record ButNumbers (bus : Bus) (x : State) (units : List ℕ) : Type 0 where
  pub same_answers : answers bus x units ≡ answers bus (plain_state x) units
  pub same_rest : plain_state (fed bus x units) ≡ fed bus (plain_state x) units

pub record OnLine : Type 0 where
  -- an opening without numbers leads to no session with them, and to no 25
  pub none : (bus : Bus) (s : Session) (reached : Reached bus s) → numbering reached ≡ false → KeepsNone s.core.tally.totals
  pub never : (bus : Bus) (s : Session) (m : List ℕ) (u : ℕ) (reached : Reached bus s) → numbering reached ≡ false
      → code_of (unit_step bus s m u).answer.refusal ≢ 25
  -- a word that is not answered 25 is answered as without the numbers
  pub word : (k : Core) (m : List ℕ) (word : ℕ) → code_of (word_step k m word).answer.refusal ≢ 25
      → plain_outcome (word_step k m word) ≡ word_step (plain k) m word
  -- so is a unit, and so are any units as long as none is
  pub unit : (bus : Bus) (s : Session) (m : List ℕ) (u : ℕ) → code_of (unit_step bus s m u).answer.refusal ≢ 25
      → plain_unit (unit_step bus s m u) ≡ unit_step bus (plain_session s) m u
  pub units : (bus : Bus) (x : State) (units : List ℕ) → NoneSpent bus x units → ButNumbers bus x units
  -- 25 is given there, and there alone, where no number is left
  pub spent : (k : Core) (m : List ℕ) (word : ℕ) → OutOfNumbers k m word → (word_step k m word).answer.refusal ≡ refusal.Number
  pub only : (k : Core) (m : List ℕ) (word : ℕ) → code_of (word_step k m word).answer.refusal ≡ 25 → OutOfNumbers k m word

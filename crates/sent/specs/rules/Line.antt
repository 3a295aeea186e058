-- The line: units into words, and the start unit, stated once over the bus. It knows nothing of commands.
use Rattle.std.specs.Prelude.{ℕ, ◌+◌, ◌-◌, ◌/◌, Bool, true, not, ◌&&◌, ◌||◌, List, [], ◌∷◌, ltb, eqb, length}
use Rattle.words.specs.rules.Bytes.{byte}
use Rattle.words.specs.rules.Choice.{pick}
use Rattle.windows.specs.rules.Window.{sum_of}
use Rattle.opcodes.specs.rules.Answers.{accepted}
use Rattle.opcodes.specs.declared.Event.TheVariants.{Nothing}
use Rattle.opcodes.specs.rules.Refusals.{Verdict}
use Rattle.opcodes.specs.rules.Refusals as refusal
use Rattle.commands.specs.rules.Wrote.{none_wrote}
use Rattle.sent.specs.rules.Bus.{unit_bits, units_in_word, start_unit, answer_unit, pushed}
use Rattle.machine_answers.specs.rules.Answers as machine
use Rattle.machine.specs.rules.Machine.{word_step}
use Rattle.machine_answers.specs.rules.Replies.{silence}
use Rattle.sent.specs.declared.Answer.{Answer}
use Rattle.sent.specs.declared.Bus.{Bus}
use Rattle.machine_answers.specs.declared.Reply.{Reply}
use Rattle.sent.specs.declared.Session.{Session}

-- what a unit gives: its answer and the memory that it leaves
pub record UnitOutcome : Type 0 where
  pub answer : Answer
  pub memory : List ℕ

-- an answer with no event, the memory as it was
abbrev pub plainly : Verdict → Reply → Session → List ℕ → UnitOutcome
plainly q reply s m = record { answer = record { refusal = q; reply = reply; event = Nothing; session = s; wrote = none_wrote }; memory = m }

-- the session with other things gathered on the line
abbrev pub gathered : Session → Bool → ℕ → ℕ → Session
gathered s started have word = record { core = s.core; line = record { started = started; have = have; word = word } }

-- a whole word's outcome, on the line: refused, the units of the word stay gathered; accepted, the next word begins
unfoldable pub carried : Session → machine.WordOutcome → UnitOutcome
carried s o =
    record {
      answer = record {
        refusal = o.answer.refusal;
        reply = o.answer.reply;
        event = o.answer.event;
        session = record {
          core = o.answer.core;
          line = pick (accepted o.answer.refusal) (record { started = s.line.started; have = 0; word = 0 }) s.line;
        };
        wrote = o.answer.wrote;
      };
      memory = o.memory;
    }

-- the answer to the start unit: one unit, lowest byte first
unfoldable pub start_answer : Bus → Reply
start_answer bus =
    record { bytes = byte (answer_unit bus) 0 ∷ byte (answer_unit bus) 1 ∷ 0 ∷ 0 ∷ 0 ∷ 0 ∷ 0 ∷ 0 ∷ []; count = unit_bits bus / 8 }

-- the start unit; again before the first acknowledged opcode where a word would begin
unfoldable pub is_start : Bus → Session → ℕ → Bool
is_start bus s u = eqb u (start_unit bus) && (not s.line.started || (eqb s.line.have 0 && not s.core.begun))

-- a unit: 14, 2, the start unit, units before it, a unit of a word, its last unit
unfoldable pub unit_step : Bus → Session → List ℕ → ℕ → UnitOutcome
unit_step bus s m u =
    pick s.core.ended (plainly refusal.Ended silence s m)
    (pick (not (eqb (length m) (sum_of s.core.windows))) (plainly refusal.Memory silence s m)
    (pick (is_start bus s u) (plainly refusal.None (start_answer bus) (gathered s true s.line.have s.line.word) m)
    (pick (not s.line.started) (plainly refusal.None silence s m)
    (pick (ltb s.line.have (units_in_word bus - 1))
    (plainly refusal.None silence (gathered s true (s.line.have + 1) (pushed bus s.line.word u)) m)
    (carried s (word_step s.core m (pushed bus s.line.word u)))))))

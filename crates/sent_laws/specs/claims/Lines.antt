-- Both lines do the same with the same words, whatever core takes them and whatever memory it is lent, with the one exception that the rules have: before an
-- opcode is acknowledged a line takes a word's first unit for the start unit, where it is one.
use Rattle.std.specs.Prelude.{ℕ, ◌^◌, ◌<◌, false, List, [], ◌∷◌, ◌≡◌, length}
use Rattle.windows.specs.rules.Window.{sum_of}
use Rattle.opcodes.specs.declared.Event.TheVariants.{Nothing}
use Rattle.opcodes.specs.rules.Refusals.{None}
use Rattle.machine_answers.specs.declared.Core.{Core}
use Rattle.machine.specs.rules.Machine.{word_step}
use Rattle.sent.specs.claims.Lift.{at_word, Plain}
use Rattle.sent.specs.rules.Bus.{start_unit, all_units}
use Rattle.sent.specs.rules.Feeding.{State, next, heard, fed, answers, replied, events_heard, first_refused}
use Rattle.sent.specs.rules.Line.{start_answer}
use Rattle.sent.specs.declared.Bus.{Bus}
use Rattle.sent.specs.declared.Bus.TheVariants.{Bytes, Halves}
use Rattle.sent.specs.declared.Session.{Session}
use Rattle.sent_laws.specs.claims.Reached.{Reached}

-- every element of a list is a word
abbrev pub AreWords : List ℕ → Type 0
AreWords [] = Unit {0}
AreWords (word ∷ words) = (word < 2 ^ 32) × AreWords words

-- a core that runs on memory of its map's length; any other refuses every unit
pub record Runs (k : Core) (m : List ℕ) : Type 0 where
  pub running : k.ended ≡ false
  pub lent : length m ≡ sum_of k.windows

-- no word, as they go on, begins with the line's start unit where no opcode has been acknowledged
unfoldable pub NoneStarts : Bus → Core → List ℕ → List ℕ → Type 0
NoneStarts bus k m [] = Unit {0}
NoneStarts bus k m (word ∷ words) =
    Runs k m → Plain bus k word × NoneStarts bus (word_step k m word).answer.core (word_step k m word).memory words

-- the same words to one session by bytes and to another by halves: the same core and memory, and the same reply words, events and first refusal
pub record EitherLine (x y : State) (words : List ℕ) : Type 0 where
  pub same_core : (fed Bytes x (all_units Bytes words)).session.core ≡ (fed Halves y (all_units Halves words)).session.core
  pub same_memory : (fed Bytes x (all_units Bytes words)).memory ≡ (fed Halves y (all_units Halves words)).memory
  pub same_replies : replied (answers Bytes x (all_units Bytes words)) ≡ replied (answers Halves y (all_units Halves words))
  pub same_events : events_heard (answers Bytes x (all_units Bytes words)) ≡ events_heard (answers Halves y (all_units Halves words))
  pub same_refusal : first_refused (answers Bytes x (all_units Bytes words)) ≡ first_refused (answers Halves y (all_units Halves words))

-- a core at a word's beginning, with its memory, on either line
abbrev pub SameOf : Core → List ℕ → List ℕ → Type 0
SameOf k m words = EitherLine (at_word k m) (at_word k m) words

-- the start unit is answered and is no part of a word
pub record StartAnswered (bus : Bus) (k : Core) (m : List ℕ) : Type 0 where
  pub hears : heard bus (at_word k m) (start_unit bus) ≡ record { refusal = None; reply = start_answer bus; event = Nothing }
  pub stays : next bus (at_word k m) (start_unit bus) ≡ at_word k m

pub record BothLines : Type 0 where
  -- from any core, on any memory
  pub either : (k : Core) (m words : List ℕ) → AreWords words → NoneStarts Bytes k m words → NoneStarts Halves k m words → SameOf k m words
  -- the core of a session that an opening leads to can meet the exception in the first of the words alone
  pub reached : {bus : Bus} {s : Session} → Reached bus s → (m : List ℕ) (word : ℕ) (words : List ℕ) → AreWords (word ∷ words)
      → Plain Bytes s.core word → Plain Halves s.core word → SameOf s.core m (word ∷ words)
  -- the exception
  pub start : (bus : Bus) (k : Core) (m : List ℕ) → Runs k m → k.begun ≡ false → StartAnswered bus k m

-- The units of a word are the word, on either line. So what is stated of words holds of all that a line carries.
use Rattle.std.specs.Prelude.{ℕ, ◌-◌, ◌/◌, ◌%◌, ◌^◌, ◌<◌, true, false, List, [], ◌∷◌, ◌++◌, ◌≢◌, ◌≡◌, length, replicate}
use Prim.Native.Char.{code}
use Rattle.windows.specs.rules.Window.{sum_of}
use Rattle.windows.specs.declared.Window.{Window}
use Rattle.opcodes.specs.rules.Answers.{code_of, accepted}
use Rattle.opcodes.specs.declared.Dialect.{Dialect}
use Rattle.opcodes.specs.declared.Event.TheVariants.{Nothing}
use Rattle.opcodes.specs.rules.Refusals.{Verdict}
use Rattle.opcodes.specs.rules.Refusals.{None, Memory, Ended}
use Rattle.sent.specs.rules.Bus.{unit_bits, units_in_word, start_unit, units_of, first_unit}
use Rattle.sent.specs.rules.Feeding.{State, Heard, heard, fed, answers}
use Rattle.machine.specs.rules.Machine.{word_step}
use Rattle.sent.specs.rules.Opening.{opened_by}
use Rattle.machine_answers.specs.rules.Replies.{silence, sent_bytes}
use Rattle.machine.specs.claims.Every.{EveryWord}
use Rattle.sent.specs.declared.Bus.{Bus}
use Rattle.sent.specs.declared.Bus.TheVariants.{Bytes, Halves}
use Rattle.machine_answers.specs.declared.Core.{Core}
use Rattle.machine_answers.specs.declared.Taken.{Taken}

-- a session that has been started, at a word's beginning, and its memory
abbrev pub at_word : Core → List ℕ → State
at_word k m = record { session = record { core = k; line = record { started = true; have = 0; word = 0 } }; memory = m }

-- heard of a unit with no reply, event or refusal, and of a unit that is refused
abbrev pub silent : Heard
silent = record { refusal = None; reply = silence; event = Nothing }

abbrev pub refused_by : Verdict → Heard
refused_by q = record { refusal = q; reply = silence; event = Nothing }

-- heard of the units of a word: nothing until the last, whose answer is the word's
abbrev pub heard_word : Bus → Taken → List Heard
heard_word bus t = replicate (units_in_word bus - 1) silent ++ (record { refusal = t.refusal; reply = t.reply; event = t.event } ∷ [])

-- a unit that begins a word: it is no start unit, or an opcode has been acknowledged
abbrev pub Plain : Bus → Core → ℕ → Type 0
Plain bus k word = k.begun ≡ false → first_unit bus word ≢ start_unit bus

-- a word for a running session on memory of its map's length
pub record Ready (bus : Bus) (k : Core) (m : List ℕ) (word : ℕ) : Type 0 where
  pub running : k.ended ≡ false
  pub lent : length m ≡ sum_of k.windows
  pub small : word < 2 ^ 32
  pub plain : Plain bus k word

-- the units of a word are the word
pub record UnitsAreTheWord (bus : Bus) (k : Core) (m : List ℕ) (word : ℕ) : Type 0 where
  pub hears : answers bus (at_word k m) (units_of bus word) ≡ heard_word bus (word_step k m word).answer
  -- accepted: the core and the memory are the word's, and the next word begins
  pub accepted : code_of (word_step k m word).answer.refusal ≡ 0
      → fed bus (at_word k m) (units_of bus word) ≡ at_word (word_step k m word).answer.core (word_step k m word).memory
  -- refused: the core is the word's, which is ended, and the memory is as it was
  pub refused : code_of (word_step k m word).answer.refusal ≢ 0
      → ((fed bus (at_word k m) (units_of bus word)).session.core ≡ (word_step k m word).answer.core)
      × ((word_step k m word).answer.core.ended ≡ true)
      × ((fed bus (at_word k m) (units_of bus word)).memory ≡ m)

-- a session that absorbs all units: it stays as it is, and each is refused alike
pub record Absorbed (bus : Bus) (x : State) (units : List ℕ) (q : Verdict) : Type 0 where
  pub stays : fed bus x units ≡ x
  pub hears : answers bus x units ≡ replicate (length units) (refused_by q)

-- BOOTME, letter by letter
abbrev pub bootme : List ℕ
bootme = code "B" ∷ code "O" ∷ code "O" ∷ code "T" ∷ code "M" ∷ code "E" ∷ []

-- what holds of either line
pub record Lines : Type 0 where
  pub lift : (bus : Bus) (k : Core) (m : List ℕ) (word : ℕ) → Ready bus k m word → UnitsAreTheWord bus k m word
  pub every : (k : Core) (m : List ℕ) (word : ℕ) → EveryWord k m (word_step k m word)
  -- 14 where it has ended, 2 where its memory has another length than its map
  pub absorbs : (bus : Bus) (x : State) (units : List ℕ) → x.session.core.ended ≡ true → Absorbed bus x units Ended
  pub unlent : (bus : Bus) (x : State) (units : List ℕ) → x.session.core.ended ≡ false → length x.memory ≢ sum_of x.session.core.windows
      → Absorbed bus x units Memory
  -- a reply is whole units: on the line of halves the count of its bytes is even
  pub whole_units : (bus : Bus) (x : State) (unit : ℕ) → (heard bus x unit).reply.count % (unit_bits bus / 8) ≡ 0
  -- an opening on the line of bytes that is not refused says BOOTME; the line of halves has no greeting
  pub greets : (dialect : Dialect) (count : ℕ) (windows : List Window) → (opened_by Bytes dialect count windows).refusal ≡ None
      → sent_bytes (opened_by Bytes dialect count windows).reply ≡ bootme
  pub no_greeting : (dialect : Dialect) (count : ℕ) (windows : List Window) → sent_bytes (opened_by Halves dialect count windows).reply ≡ []

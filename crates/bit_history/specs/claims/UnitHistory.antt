-- The history of a sent session (02, request 6), from what the machine awaits and how it judges: the loads, fills and settings that were accepted, in order,
-- abandoned ones too. A load is told as its data come, each word of them with the load's number. And what its entries and its memory have to do with it.
use Rattle.std.specs.Prelude.{ℕ, ◌-◌, ◌*◌, ◌<◌, Bool, true, not, ◌&&◌, List, [], ◌∷◌, ◌++◌, ◌≡◌, ltb, eqb, length, replicate}
use Rattle.words.specs.rules.Choice.{pick}
use Rattle.windows.specs.rules.Window.{sum_of}
use Rattle.opcodes.specs.rules.Answers.{accepted}
use Rattle.opcodes.specs.rules.Opcodes.{by_writing}
use Rattle.opcodes.specs.declared.Command.{Command}
use Rattle.commands.specs.rules.Commands.{unit_of, fill_judged, shape_of, setting_judged}
use Rattle.law_effects.specs.claims.Effects.{load_effect, fill_effect, setting_effect}
use Rattle.bit_stamps.specs.rules.Stamps.{entry_at}
use Rattle.bit_history.specs.claims.History.{Numbered, last_number, LeftBy, AsListed, numbers_fit, stamped_all, chosen_bit}
use Rattle.sent.specs.rules.Bus.{units_in_word, pushed}
use Rattle.sent.specs.rules.Feeding.{State, next, fed}
use Rattle.sent.specs.rules.Line.{is_start, unit_step}
use Rattle.machine_loads.specs.rules.Loads.{data_bytes}
use Rattle.machine.specs.rules.Machine.{word_step}
use Rattle.sent.specs.declared.Bus.{Bus}
use Rattle.machine_answers.specs.declared.Core.{Core}
use Rattle.machine_answers.specs.declared.Kept.{Kept}
use Rattle.machine_answers.specs.declared.Phase.{Phase}
use Rattle.machine_answers.specs.declared.Phase.TheVariants as phase
use Rattle.sent.specs.declared.Session.{Session}
use Rattle.sent_laws.specs.claims.Reached.{Reached, opened, stepped, fed_reached}
use Rattle.bit_watch.specs.rules.Watched.{unit_entries, entries_after}
use Rattle.bit_history.specs.claims.Accepted.{one, judged_one}

-- a command with all its words: a fill or a setting; a load writes nothing before its data
abbrev pub last_word : Command → Core → Kept → ℕ → List Numbered
last_word command k kept word =
    by_writing command []
    (judged_one k.tally.totals.next (fill_judged k.windows kept.first kept.second kept.third)
    (λ place. fill_effect place kept.second (unit_of kept.third) word))
    (judged_one k.tally.totals.next (setting_judged k.windows kept.first kept.second kept.third)
    (λ place. setting_effect place (shape_of kept.first) kept.third))
    []

-- a word that is accepted, by the phase that awaits it: the last argument of a command, or data of the load that has the number before the next
abbrev pub accepted_word : Phase → Core → ℕ → List Numbered
accepted_word phase.Opcode k word = []
accepted_word (phase.Argument command left kept) k word = pick (eqb (left - 1) 0) (last_word command k kept word) []
accepted_word (phase.Data end left) k word = one (k.tally.totals.next - 1) (load_effect (end - left) (data_bytes word left))
accepted_word (phase.Echo n) k word = []

unfoldable pub word_history : Core → List ℕ → ℕ → List Numbered
word_history k m word = pick (accepted (word_step k m word).answer.refusal) (accepted_word k.stage.phase k word) []

-- is a unit the last one of a word, of a session that runs on memory of its map's length?
unfoldable pub ends_word : Bus → Session → List ℕ → ℕ → Bool
ends_word bus s m u =
    not s.core.ended && eqb (length m) (sum_of s.core.windows) && not (is_start bus s u) && s.line.started
    && not (ltb s.line.have (units_in_word bus - 1))

abbrev pub unit_history : Bus → State → ℕ → List Numbered
unit_history bus x u =
    pick (ends_word bus x.session x.memory u) (word_history x.session.core x.memory (pushed bus x.session.line.word u)) []

-- the history of some units
unfoldable pub history : Bus → State → List ℕ → List Numbered
history bus x [] = []
history bus x (u ∷ us) = unit_history bus x u ++ history bus (next bus x u) us

-- the history since the opening, whatever memory was lent to each unit
unfoldable pub history_of : {bus : Bus} {s : Session} → Reached bus s → List Numbered
history_of (opened numbers dialect count windows) = []
history_of {bus} (stepped {s} memory unit before) = history_of before ++ unit_history bus (record { session = s; memory = memory }) unit

-- the entries since then, all 0 at the opening, each unit watched
unfoldable pub entries_of : {bus : Bus} {s : Session} → List ℕ → Reached bus s → List ℕ
entries_of places (opened numbers dialect count windows) = replicate (64 * length places) 0
entries_of {bus} places (stepped {s} memory unit before) = unit_entries places (entries_of places before) bus s memory unit

pub record UnitsTell (bus : Bus) : Type 0 where
  -- the entries are those that the history stamps, from any state
  pub stamps : (places entries : List ℕ) (x : State) (units : List ℕ)
      → entries_after bus places entries x units ≡ stamped_all entries places (history bus x units)
  -- so since an opening
  pub stamps_since : (places : List ℕ) (s : Session) (reached : Reached bus s)
      → entries_of places reached ≡ stamped_all (replicate (64 * length places) 0) places (history_of reached)
  -- and each of its numbers is below 65,536
  pub fit : (s : Session) (reached : Reached bus s) → numbers_fit (history_of reached) ≡ true
  -- so entry k of chosen word j is the number of the last command that wrote its bit, 0 where none did
  pub told : (s : Session) (reached : Reached bus s) (places : List ℕ) (j k : ℕ) → j < length places → k < 32
      → entry_at (entries_of places reached) j k ≡ last_number (history_of reached) (chosen_bit places j k)
  -- units that are all lent one memory add their history, and their entries go on
  pub more : (x : State) (reached : Reached bus x.session) (units : List ℕ)
      → history_of (fed_reached bus x units reached) ≡ history_of reached ++ history bus x units
  pub more_entries : (places : List ℕ) (x : State) (reached : Reached bus x.session) (units : List ℕ)
      → entries_of places (fed_reached bus x units reached) ≡ entries_after bus places (entries_of places reached) x units
  -- a unit gives memory exactly the bits that it tells, those of the command, or the load's data, whose word it ends
  pub unit : (s : Session) → Reached bus s → (m : List ℕ) (u : ℕ)
      → AsListed (unit_history bus (record { session = s; memory = m }) u) (unit_step bus s m u).answer.wrote m (unit_step bus s m u).memory
  -- so after any units, from any session and memory, each bit is what the last command that writes it gives, and what it was where none does
  pub values : (x : State) (units : List ℕ) → LeftBy (history bus x units) x.memory (fed bus x units).memory

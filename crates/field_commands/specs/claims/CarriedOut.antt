-- The command that a register makes for a field does what it says on a loader: by one call in flash mode, by its five words sent, and by the
-- units of these words on either line. What a loader may refuse it with is 7 where no set window is over the word, 25, and 14 in a session that has ended.
use Rattle.std.specs.Prelude.{ℕ, ◌≤◌, true, false, ◌&&◌, List, [], ◌∷◌, ◌≡◌, eqb, length, Some, None}
use Rattle.windows.specs.rules.Window.{sum_of, place_of}
use Rattle.windows.specs.declared.Window.{Window}
use Rattle.windows.specs.declared.Right.TheVariants.{Set}
use Rattle.opcodes.specs.rules.Answers.{code_of, told}
use Rattle.opcodes.specs.declared.Event.{Event}
use Rattle.opcodes.specs.declared.Event.TheVariants.{Nothing, Wait}
use Rattle.opcodes.specs.rules.Refusals.{Verdict}
use Rattle.opcodes.specs.rules.Refusals as refusal
use Rattle.ledger.specs.rules.Totals.{is_spent}
use Rattle.ledger.specs.declared.Totals.{Totals}
use Rattle.reading.specs.rules.Reading.{past_words}
use Rattle.commands.specs.rules.Commands.{start_of}
use Rattle.commands.specs.rules.Wrote.{bits_wrote, none_wrote}
use Rattle.commands.specs.declared.Wrote.{Wrote}
use Rattle.law_effects.specs.claims.Fields.{field_width, Holds}
use Rattle.flash_session.specs.rules.Opening.{good_length}
use Rattle.flash_session.specs.rules.Sessions.{CallOutcome}
use Rattle.flash_session.specs.declared.Session.{Session}
use Rattle.flash.specs.rules.Step.{step_of}
use Rattle.machine_answers.specs.rules.Answers.{WordOutcome, quiet, ◌leaving◌}
use Rattle.machine_answers.specs.declared.Core.{Core}
use Rattle.machine_answers.specs.declared.Phase.TheVariants.{Opcode}
use Rattle.machine.specs.claims.Words.{after_words}
use Rattle.sent.specs.rules.Bus.{all_units}
use Rattle.sent.specs.rules.Feeding.{State, Heard, fed, answers, replied, events_heard, first_refused}
use Rattle.sent.specs.claims.Lift.{at_word}
use Rattle.sent.specs.declared.Bus.{Bus}
use Rattle.law_modes.specs.claims.Modes.{words_at}
use Rattle.field_laws.specs.claims.Meanings.{kind_in, address_in, Made}

-- what a command comes to in either mode
pub record Outcome : Type 0 where
  pub refusal : Verdict
  pub event : Event
  pub wrote : Wrote
  pub memory : List ℕ

abbrev pub of_call : CallOutcome → Outcome
of_call o = record { refusal = o.answer.refusal; event = o.answer.event; wrote = o.answer.wrote; memory = o.memory }

abbrev pub of_words : WordOutcome → Outcome
of_words o = record { refusal = o.answer.refusal; event = o.answer.event; wrote = o.answer.wrote; memory = o.memory }

-- the field is set at a place: accepted with a wait of 0, the field's bits and no others told by a number; it holds the value, and every other bit is kept
pub record FieldSet (words : List ℕ) (value place number : ℕ) (before : List ℕ) (o : Outcome) : Type 0 where
  pub accepted : o.refusal ≡ refusal.None
  pub wait : o.event ≡ Wait 0
  pub tells : o.wrote ≡ bits_wrote place (start_of (kind_in words)) (field_width (kind_in words)) number
  pub holds : Holds (kind_in words) place value before o.memory
  pub same_length : length o.memory ≡ length before

-- refused, and nothing is written
pub record NotSet (q : Verdict) (before : List ℕ) (o : Outcome) : Type 0 where
  pub refused : o.refusal ≡ q
  pub no_event : o.event ≡ Nothing
  pub none_told : o.wrote ≡ none_wrote
  pub kept : o.memory ≡ before

-- by the map and the numbers of a session: the field is set where a set window is over the word and a number is left; else 7, then 25
pub record CarriedOut (windows : List Window) (totals : Totals) (words : List ℕ) (value : ℕ) (before : List ℕ) (o : Outcome) : Type 0 where
  pub sets : (place : ℕ) → place_of windows Set (address_in words) 4 ≡ Some place → is_spent totals ≡ false → FieldSet words value place totals.next before o
  pub no_window : place_of windows Set (address_in words) 4 ≡ None → NotSet refusal.Range before o
  pub no_number : (place : ℕ) → place_of windows Set (address_in words) 4 ≡ Some place → is_spent totals ≡ true → NotSet refusal.Number before o

-- flash: a running session, lent its memory and an image of its length that holds the words at its offset
pub record StandsAt (s : Session) (m image words : List ℕ) : Type 0 where
  pub running : s.ended ≡ false
  pub lent : length m ≡ sum_of s.windows
  pub sound : (good_length (length image) && eqb (length image) s.length) ≡ true
  pub inside : past_words s.offset 4 ≤ length image
  pub there : words_at image s.offset 5 ≡ words

pub record ByCall (s : Session) (m image words : List ℕ) (value : ℕ) : Type 0 where
  pub carried_out : CarriedOut s.windows s.totals words value m (of_call (step_of s m image))
  -- accepted, the session goes on past the five words
  pub goes_on : (step_of s m image).answer.refusal ≡ refusal.None
      → ((step_of s m image).answer.session.offset ≡ past_words s.offset 4) × ((step_of s m image).answer.session.ended ≡ false)

-- the line: a core that awaits an opcode, on memory of its map's length
pub record Awaits (k : Core) (m : List ℕ) : Type 0 where
  pub opcode : k.stage.phase ≡ Opcode
  pub lent : length m ≡ sum_of k.windows

-- what the words come to
abbrev pub sent_words : Core → List ℕ → List ℕ → WordOutcome
sent_words k m words = after_words (quiet k leaving m) words

pub record ByWords (k : Core) (m words : List ℕ) (value : ℕ) : Type 0 where
  pub carried_out : CarriedOut k.windows k.tally.totals words value m (of_words (sent_words k m words))
  -- accepted, the next opcode is awaited
  pub goes_on : (sent_words k m words).answer.refusal ≡ refusal.None
      → ((sent_words k m words).answer.core.stage.phase ≡ Opcode) × ((sent_words k m words).answer.core.ended ≡ k.ended)

-- the state after their units, and what is heard of them
abbrev pub after_units : Bus → Core → List ℕ → List ℕ → State
after_units bus k m words = fed bus (at_word k m) (all_units bus words)

abbrev pub heard_of : Bus → Core → List ℕ → List ℕ → List Heard
heard_of bus k m words = answers bus (at_word k m) (all_units bus words)

pub record ByUnits (bus : Bus) (k : Core) (m words : List ℕ) (value : ℕ) : Type 0 where
  -- where a set window is over the word and a number is left: none is refused, one wait of 0 is told, the field holds the value, and every other bit is kept
  pub accepted : (place : ℕ) → place_of k.windows Set (address_in words) 4 ≡ Some place → is_spent k.tally.totals ≡ false
      → (first_refused (heard_of bus k m words) ≡ 0) × (events_heard (heard_of bus k m words) ≡ Wait 0 ∷ [])
  pub holds : (place : ℕ) → place_of k.windows Set (address_in words) 4 ≡ Some place → is_spent k.tally.totals ≡ false
      → Holds (kind_in words) place value m (after_units bus k m words).memory
  -- in every case they come to what the words come to, and the opcode's acknowledgement is all that is said
  pub core : (after_units bus k m words).session.core ≡ (sent_words k m words).answer.core
  pub memory : (after_units bus k m words).memory ≡ (sent_words k m words).memory
  pub refusal : first_refused (heard_of bus k m words) ≡ code_of (sent_words k m words).answer.refusal
  pub events : events_heard (heard_of bus k m words) ≡ told (sent_words k m words).answer.event
  pub reply : replied (heard_of bus k m words) ≡ 0x07 ∷ 0x59 ∷ 0x53 ∷ 0x52 ∷ []

pub record CommandsCarriedOut : Type 0 where
  pub by_call : (text name : List ℕ) (release value : ℕ) (words : List ℕ) → Made text name release value words
      → (s : Session) (m image : List ℕ) → StandsAt s m image words → ByCall s m image words value
  pub by_words : (text name : List ℕ) (release value : ℕ) (words : List ℕ) → Made text name release value words
      → (k : Core) (m : List ℕ) → Awaits k m → ByWords k m words value
  pub by_units : (text name : List ℕ) (release value : ℕ) (words : List ℕ) → Made text name release value words
      → (bus : Bus) (k : Core) (m : List ℕ) → Awaits k m → k.ended ≡ false → ByUnits bus k m words value
  -- 14 where the session has ended, whatever is lent, and for the first of any units
  pub call_over : (s : Session) (m image : List ℕ) → s.ended ≡ true → NotSet refusal.Ended m (of_call (step_of s m image))
  pub units_over : (bus : Bus) (k : Core) (m : List ℕ) (unit : ℕ) (units : List ℕ) → k.ended ≡ true
      → (first_refused (answers bus (at_word k m) (unit ∷ units)) ≡ 14) × (fed bus (at_word k m) (unit ∷ units) ≡ at_word k m)

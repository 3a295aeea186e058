-- The history of a flash session (02, request 6), from the commands that its calls accept and how they are judged: the loads, fills and settings in order,
-- abandoned ones too. And what its entries and its memory have to do with it.
use Rattle.std.specs.Prelude.{ℕ, zero, suc, ◌*◌, ◌<◌, true, List, [], ◌∷◌, ◌++◌, ◌≡◌, length, replicate, Result, Ok, Err}
use Rattle.words.specs.rules.Bytes.{bytes_at, word_at}
use Rattle.words.specs.rules.Choice.{pick}
use Rattle.opcodes.specs.rules.Answers.{accepted}
use Rattle.opcodes.specs.rules.Opcodes.{by_writing, looked_up}
use Rattle.opcodes.specs.declared.Command.{Command}
use Rattle.opcodes.specs.declared.Mode.TheVariants.{Flash}
use Rattle.opcodes.specs.declared.Known.{Known}
use Rattle.opcodes.specs.declared.Refusal.{Refusal}
use Rattle.reading.specs.rules.Reading.{past_words, argument}
use Rattle.commands.specs.rules.Commands.{load_judged, unit_of, fill_judged, shape_of, setting_judged}
use Rattle.law_effects.specs.claims.Effects.{load_effect, fill_effect, setting_effect}
use Rattle.bit_stamps.specs.rules.Stamps.{entry_at}
use Rattle.bit_history.specs.claims.History.{Numbered, last_number, LeftBy, AsListed, numbers_fit, stamped_all, chosen_bit}
use Rattle.flash.specs.rules.Step.{step_of}
use Rattle.flash_laws.specs.claims.Totals.{Lent, answer_to}
use Rattle.flash_session.specs.rules.Sessions.{CallOutcome}
use Rattle.flash_session.specs.declared.Session.{Session}
use Rattle.flash_runs.specs.rules.Entries.{call_entries, run_entries}
use Rattle.flash_runs.specs.rules.Run.{goes_on, enough, run_of}
use Rattle.bit_history.specs.claims.Accepted.{judged_one}

-- an accepted command of so many argument words: a load, a fill or a setting
abbrev pub accepted_command : Command → ℕ → Session → List ℕ → List Numbered
accepted_command command words s image =
    by_writing command
    (judged_one s.totals.next (load_judged s.windows (argument image s.offset 0) (argument image s.offset 1))
    (λ place. load_effect place (bytes_at image (past_words s.offset words) (argument image s.offset 1))))
    (judged_one s.totals.next (fill_judged s.windows (argument image s.offset 0) (argument image s.offset 1) (argument image s.offset 2))
    (λ place. fill_effect place (argument image s.offset 1) (unit_of (argument image s.offset 2)) (argument image s.offset 3)))
    (judged_one s.totals.next (setting_judged s.windows (argument image s.offset 0) (argument image s.offset 1) (argument image s.offset 2))
    (λ place. setting_effect place (shape_of (argument image s.offset 0)) (argument image s.offset 2)))
    []

-- by what the table finds at the session's offset
abbrev pub accepted_row : Result Known Refusal → Session → List ℕ → List Numbered
accepted_row (Err q) s image = []
accepted_row (Ok known) s image = accepted_command known.command known.words s image

-- what a call with this outcome adds: its command, where it is accepted
abbrev pub added : CallOutcome → List Numbered → List Numbered
added o commands = pick (accepted o.answer.refusal) commands []

-- what a call adds, by what the table finds at the session's offset
unfoldable pub call_history : Session → List ℕ → List ℕ → List Numbered
call_history s m image = added (step_of s m image) (accepted_row (looked_up (word_at image s.offset) Flash s.dialect) s image)

-- the history of any calls, whatever is lent to each
unfoldable pub history : Session → List Lent → List Numbered
history s [] = []
history s (lent ∷ rest) = call_history s lent.memory lent.image ++ history (answer_to s lent).session rest

-- the entries after them, each a watched call
unfoldable pub entries_after : List ℕ → List ℕ → Session → List Lent → List ℕ
entries_after places entries s [] = entries
entries_after places entries s (lent ∷ rest) =
    entries_after places (call_entries places entries s lent.memory lent.image) (answer_to s lent).session rest

-- what is lent to calls with an image each: to the first this memory, to each other one the memory as the call before left it
unfoldable pub lent_in_turn : Session → List ℕ → List (List ℕ) → List Lent
lent_in_turn s m [] = []
lent_in_turn s m (image ∷ images) =
    record { memory = m; image = image } ∷ lent_in_turn (step_of s m image).answer.session (step_of s m image).memory images

-- the memory after them
unfoldable pub memory_after : Session → List ℕ → List (List ℕ) → List ℕ
memory_after s m [] = m
memory_after s m (image ∷ images) = memory_after (step_of s m image).answer.session (step_of s m image).memory images

-- what is lent to the calls of a run: one unchanged image, and the memory as the call before left it; one call, and at most n more while the session goes on
unfoldable pub lent_on : ℕ → Session → List ℕ → List ℕ → List Lent
lent_on zero s m image = record { memory = m; image = image } ∷ []
lent_on (suc n) s m image =
    record { memory = m; image = image }
    ∷ pick (goes_on (step_of s m image).answer) (lent_on n (step_of s m image).answer.session (step_of s m image).memory image) []

-- to all of them
abbrev pub calls_of : Session → List ℕ → List ℕ → List Lent
calls_of s m image = lent_on (enough s) s m image

pub record CallsTell : Type 0 where
  -- the entries are those that the history stamps
  pub stamps : (places entries : List ℕ) (s : Session) (calls : List Lent) → entries_after places entries s calls ≡ stamped_all entries places (history s calls)
  -- each of its numbers is below 65,536
  pub fit : (s : Session) (calls : List Lent) → numbers_fit (history s calls) ≡ true
  -- so from entries that are all 0, entry k of chosen word j is the number of the last command that wrote its bit, 0 where none did
  pub told : (s : Session) (calls : List Lent) (places : List ℕ) (j k : ℕ) → j < length places → k < 32
      → entry_at (entries_after places (replicate (64 * length places) 0) s calls) j k ≡ last_number (history s calls) (chosen_bit places j k)
  -- a run's entries are those of its calls
  pub run : (places entries : List ℕ) (s : Session) (m image : List ℕ) → run_entries places entries s m image
      ≡ entries_after places entries s (calls_of s m image)
  -- a call gives memory exactly the bits that it tells, those of the command that it accepts
  pub call : (s : Session) (m image : List ℕ) → AsListed (call_history s m image) (step_of s m image).answer.wrote m (step_of s m image).memory
  -- so after any calls, whatever memory was lent to the first, each bit is what the last command that writes it gives, and what it was where none does
  pub values : (s : Session) (m : List ℕ) (images : List (List ℕ)) → LeftBy (history s (lent_in_turn s m images)) m (memory_after s m images)
  -- and after a run
  pub run_values : (s : Session) (m image : List ℕ) → LeftBy (history s (calls_of s m image)) m (run_of s m image).memory

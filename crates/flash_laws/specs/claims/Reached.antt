-- The sessions that an opening and any calls lead to: what is said of flash sessions from an opening on is said of these. And that none of them looks for a
-- word where the image is cut inside one: for missing words one refusal is enough, 5.
use Rattle.std.specs.Prelude.{ℕ, ◌+◌, ◌*◌, ◌<◌, Bool, true, false, ◌&&◌, List, [], ◌≡◌, eqb, length, replicate}
use Rattle.words.specs.rules.Choice.{pick}
use Rattle.windows.specs.rules.Map.{zero_window}
use Rattle.windows.specs.declared.Window.{Window}
use Rattle.opcodes.specs.rules.Answers.{code_of}
use Rattle.opcodes.specs.declared.Dialect.{Dialect}
use Rattle.opcodes.specs.declared.Dialect.TheVariants.{Am17xx}
use Rattle.ledger.specs.rules.Totals.{at_opening}
use Rattle.reading.specs.rules.Reading.{past_words}
use Rattle.flash_session.specs.rules.Opening.{good_length, opened_by, numbering_from}
use Rattle.flash.specs.rules.Step.{step_of}
use Rattle.flash_session.specs.declared.Opened.{Opened}
use Rattle.flash_session.specs.declared.Session.{Session}

-- an opening, of a session that numbers its commands or of one that does not
abbrev pub opened_to : Bool → Dialect → ℕ → List Window → List ℕ → ℕ → Opened
opened_to numbers dialect count windows image limit =
    pick numbers (numbering_from (opened_by dialect count windows image limit)) (opened_by dialect count windows image limit)

-- an opening, accepted or refused, and any calls, whatever is lent to each
pub data Reached : Session → Type 0 where
  opened : (numbers : Bool) (dialect : Dialect) (count : ℕ) (windows : List Window) (image : List ℕ) (limit : ℕ)
      → Reached (opened_to numbers dialect count windows image limit).session
  called : {s : Session} (lent : record { memory : List ℕ; image : List ℕ }) → Reached s
      → Reached (step_of s lent.memory lent.image).answer.session

-- the opening that it began with
abbrev pub opening_of : {s : Session} → Reached s → Opened
opening_of (opened numbers dialect count windows image limit) = opened_to numbers dialect count windows image limit
opening_of (called lent before) = opening_of before

-- was it to number its commands?
abbrev pub numbering : {s : Session} → Reached s → Bool
numbering (opened numbers dialect count windows image limit) = numbers
numbering (called lent before) = numbering before

-- where a call looks for a word: its opcode, its arguments, load data after so many of them
pub data Looks (s : Session) : ℕ → Type 0 where
  at-opcode : Looks s s.offset
  at_argument : (i : ℕ) → Looks s (s.offset + 4 + 4 * i)
  at_data : (words i : ℕ) → Looks s (past_words s.offset words + 4 * i)

-- the image has a part of the word at an offset, and not the whole
pub record Cut (image : List ℕ) (at : ℕ) : Type 0 where
  pub begun : at < length image
  pub unfinished : length image < at + 4

-- no such place is cut, in any image that is not refused with 3
abbrev pub NoWordCut : Type 0
NoWordCut =
    (s : Session) → Reached s → (image : List ℕ) → (good_length (length image) && eqb (length image) s.length) ≡ true
    → (at : ℕ) → Looks s at → Cut image at → ⊥

-- that an opening leads there is needed: a session value at offset 6, lent two words, looks for its opcode where they are cut; it answers 5 too
abbrev pub at_six : Session
at_six =
    record {
      windows = replicate 8 zero_window;
      ended = false;
      on = false;
      checksum = 0;
      offset = 6;
      length = 8;
      limit = 0;
      retries = 0;
      fetched = 0;
      dialect = Am17xx;
      totals = at_opening;
    }

abbrev pub two_words : List ℕ
two_words = replicate 8 0

pub record ReachedIsNeeded : Type 0 where
  pub unreached : Reached at_six → ⊥
  pub lent : (good_length (length two_words) && eqb (length two_words) at_six.length) ≡ true
  pub cut : Cut two_words at_six.offset
  pub answer : code_of (step_of at_six [] two_words).answer.refusal ≡ 5

-- A flash session goes by the account of what its calls take (02, requests 5 and 6): its totals, its next number, and the numbers of its history.
use Rattle.std.specs.Prelude.{ℕ, Bool, true, ◌&&◌, List, [], ◌∷◌, ◌++◌, ◌≡◌, ltb, Result, Ok, Err}
use Rattle.words.specs.rules.Bytes.{word_at}
use Rattle.words.specs.rules.Choice.{pick}
use Rattle.opcodes.specs.rules.Answers.{accepted}
use Rattle.opcodes.specs.rules.Opcodes.{by_writing, looked_up}
use Rattle.opcodes.specs.declared.Command.{Command}
use Rattle.opcodes.specs.declared.Mode.TheVariants.{Flash}
use Rattle.opcodes.specs.declared.Known.{Known}
use Rattle.opcodes.specs.declared.Refusal.{Refusal}
use Rattle.ledger.specs.claims.Account.{Act, section, setting, enable, matched, retry, other, opened as empty, account, numbers_told}
use Rattle.ledger.specs.claims.Booked.{standing_of, next_of, by_mark}
use Rattle.reading.specs.rules.Reading.{argument}
use Rattle.flash_session.specs.declared.Session.{Session}
use Rattle.flash_laws.specs.claims.Reached.{Reached, opened, called, opening_of, numbering}
use Rattle.flash_laws.specs.claims.Totals.{Lent, answer_to}
use Rattle.bit_history.specs.claims.CallHistory.{call_history}
use Rattle.bit_history.specs.claims.History.{Numbered}
use Rattle.law_counting.specs.claims.Numbers.{numbers_in}

-- a command that is accepted, a load or a fill being of so many bytes; a Request that goes back is a seek, any other has matched
abbrev pub command_act : Command → ℕ → Bool → Act
command_act command size back = by_writing command (section size) (section size) setting (by_mark command enable (pick back retry matched) retry other)

-- so of what the table finds
abbrev pub found_acts : Result Known Refusal → ℕ → Bool → List Act
found_acts (Err q) size back = []
found_acts (Ok known) size back = command_act known.command size back ∷ []

-- what a call takes: the command at the session's offset, where it is not refused; it goes back where the session goes on at a lower offset
unfoldable pub call_acts : Session → Lent → List Act
call_acts s lent =
    pick (accepted (answer_to s lent).refusal)
    (found_acts (looked_up (word_at lent.image s.offset) Flash s.dialect) (argument lent.image s.offset 1)
    (ltb (answer_to s lent).session.offset s.offset))
    []

-- what was taken since the opening, and the history, whatever was lent to each call
unfoldable pub acts_of : {s : Session} → Reached s → List Act
acts_of (opened numbers dialect count windows image limit) = []
acts_of (called {s} lent before) = acts_of before ++ call_acts s (record { memory = lent.memory; image = lent.image })

unfoldable pub history_of : {s : Session} → Reached s → List Numbered
history_of (opened numbers dialect count windows image limit) = []
history_of (called {s} lent before) = history_of before ++ call_history s lent.memory lent.image

module _ {s : Session} (reached : Reached s) where
  -- are the commands numbered?
  abbrev pub numbers : Bool
  numbers = numbering reached && accepted (opening_of reached).refusal

  pub record Counts : Type 0 where
    -- the totals are the account's
    pub totals : s.totals.now ≡ standing_of s.dialect (account empty (acts_of reached)).now
    -- the next number is one more than were given, and there is none where none are kept
    pub next : s.totals.next ≡ next_of numbers (account empty (acts_of reached)).now.numbers
    -- and the numbers of the history are those that the account gives
    pub told : numbers ≡ true → numbers_in (history_of reached) ≡ numbers_told empty (acts_of reached)

-- the law, of every session that an opening leads to
abbrev pub InFlash : Type 0
InFlash = (s : Session) (reached : Reached s) → Counts reached

-- A sent session goes by the account of what its units take (02, requests 5 and 6): its totals, its next number, and the numbers of its history.
use Rattle.std.specs.Prelude.{ℕ, ◌-◌, Bool, true, ◌&&◌, List, [], ◌∷◌, ◌++◌, ◌≡◌, eqb, Result, Ok, Err}
use Rattle.words.specs.rules.Choice.{pick}
use Rattle.opcodes.specs.rules.Answers.{accepted}
use Rattle.opcodes.specs.rules.Opcodes.{looked_up}
use Rattle.opcodes.specs.declared.Dialect.{Dialect}
use Rattle.opcodes.specs.declared.Mode.TheVariants.{Sent}
use Rattle.opcodes.specs.declared.Known.{Known}
use Rattle.opcodes.specs.declared.Refusal.{Refusal}
use Rattle.ledger.specs.claims.Account.{Act, piece, opened as empty, account, numbers_told}
use Rattle.ledger.specs.claims.Booked.{standing_of, next_of, opcode_act}
use Rattle.machine_answers.specs.declared.Core.{Core}
use Rattle.machine_answers.specs.declared.Phase.{Phase}
use Rattle.machine_answers.specs.declared.Phase.TheVariants as phase
use Rattle.machine_commands.specs.claims.Booked.{done_acts}
use Rattle.machine.specs.rules.Machine.{word_step}
use Rattle.sent.specs.rules.Bus.{pushed}
use Rattle.sent.specs.declared.Bus.{Bus}
use Rattle.sent.specs.declared.Session.{Session}
use Rattle.sent_laws.specs.claims.Reached.{Reached, opened, stepped, opening_of, numbering}
use Rattle.bit_history.specs.claims.UnitHistory.{ends_word, history_of}
use Rattle.law_counting.specs.claims.Numbers.{numbers_in}

-- an opcode, by what the table finds
abbrev pub opcode_acts : Result Known Refusal → List Act
opcode_acts (Err q) = []
opcode_acts (Ok known) = opcode_act known.command ∷ []

-- a word, by the phase that awaits it: an opcode, the last argument word of a command, a word of a load's data; what a Ping echoes is nothing
abbrev pub phase_acts : Phase → Dialect → ℕ → List Act
phase_acts phase.Opcode dialect word = opcode_acts (looked_up word Sent dialect)
phase_acts (phase.Argument command left kept) dialect word = pick (eqb (left - 1) 0) (done_acts command kept word) []
phase_acts (phase.Data end left) dialect word = piece ∷ []
phase_acts (phase.Echo n) dialect word = []

-- what a word takes, where it is not refused
unfoldable pub word_acts : Core → List ℕ → ℕ → List Act
word_acts k m word = pick (accepted (word_step k m word).answer.refusal) (phase_acts k.stage.phase k.dialect word) []

-- what a unit takes: the word that it ends, if it ends one
abbrev pub unit_acts : Bus → Session → List ℕ → ℕ → List Act
unit_acts bus s m u = pick (ends_word bus s m u) (word_acts s.core m (pushed bus s.line.word u)) []

-- what was taken since the opening, whatever memory was lent to each unit
unfoldable pub acts_of : {bus : Bus} {s : Session} → Reached bus s → List Act
acts_of (opened numbers dialect count windows) = []
acts_of {bus} (stepped {s} memory unit before) = acts_of before ++ unit_acts bus s memory unit

module _ {bus : Bus} {s : Session} (reached : Reached bus s) where
  -- are the commands numbered?
  abbrev pub numbers : Bool
  numbers = numbering reached && accepted (opening_of reached).refusal

  pub record Counts : Type 0 where
    -- the totals are the account's
    pub totals : s.core.tally.totals.now ≡ standing_of s.core.dialect (account empty (acts_of reached)).now
    -- the next number is one more than were given, and there is none where none are kept
    pub next : s.core.tally.totals.next ≡ next_of numbers (account empty (acts_of reached)).now.numbers
    -- and the numbers of the history are those that the account gives, each word of a load's data having the load's
    pub told : numbers ≡ true → numbers_in (history_of reached) ≡ numbers_told empty (acts_of reached)

-- the law, of every session that an opening leads to, on either line
abbrev pub OnLine : Type 0
OnLine = (bus : Bus) (s : Session) (reached : Reached bus s) → Counts reached

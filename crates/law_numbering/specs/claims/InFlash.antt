-- Numbers in flash mode (02, request 6): an opening without them leads to none, one with them to sessions that have them, and where they are kept they change
-- nothing until there are no more, which is 25.
use Rattle.std.specs.Prelude.{ℕ, Bool, true, false, List, ◌≢◌, ◌≡◌, Result, Ok, Err}
use Rattle.words.specs.rules.Bytes.{word_at}
use Rattle.opcodes.specs.rules.Answers.{code_of, accepted}
use Rattle.opcodes.specs.rules.Opcodes.{looked_up}
use Rattle.opcodes.specs.declared.Mode.TheVariants.{Flash}
use Rattle.opcodes.specs.rules.Refusals as refusal
use Rattle.opcodes.specs.declared.Known.{Known}
use Rattle.opcodes.specs.declared.Refusal.{Refusal}
use Rattle.ledger.specs.claims.Agreement.{KeepsNone, HasNumbers}
use Rattle.ledger.specs.rules.Totals.{is_spent}
use Rattle.flash_laws.specs.claims.Reached.{Reached, opening_of, numbering}
use Rattle.flash_session.specs.rules.Sessions.{CallOutcome, ◌leaving◌, with_totals}
use Rattle.flash.specs.rules.Step.{step_of}
use Rattle.flash_session.specs.declared.Called.{Called}
use Rattle.flash_session.specs.declared.Session.{Session}
use Rattle.law_numbering.specs.claims.LeftOut.{unnumbered, by_any, takes}

-- a session with the numbers left out
abbrev pub plain : Session → Session
plain s = with_totals s (unnumbered s.totals)

-- so of an answer, and of what a call gives
abbrev pub plainly : Called → Called
plainly a = record { refusal = a.refusal; event = a.event; at = a.at; session = plain a.session; wrote = by_any a.wrote }

abbrev pub plain_outcome : CallOutcome → CallOutcome
plain_outcome o = plainly o.answer leaving o.memory

-- does a command that the table finds take a number?
abbrev pub takes_found : Result Known Refusal → Bool
takes_found (Err q) = false
takes_found (Ok known) = takes known.command

-- a load, a fill or a setting that would be accepted, were there a number for it
pub record OutOfNumbers (s : Session) (m image : List ℕ) : Type 0 where
  pub spent : is_spent s.totals ≡ true
  pub takes_one : takes_found (looked_up (word_at image s.offset) Flash s.dialect) ≡ true
  pub accepted : (step_of (plain s) m image).answer.refusal ≡ refusal.None

pub record InFlash : Type 0 where
  -- an opening without numbers leads to no session with them, and to no 25
  pub none : (s : Session) (reached : Reached s) → numbering reached ≡ false → KeepsNone s.totals
  pub never : (s : Session) (m image : List ℕ) (reached : Reached s) → numbering reached ≡ false → code_of (step_of s m image).answer.refusal ≢ 25
  -- one with them, which is not refused, leads to sessions that have them
  pub some : (s : Session) (reached : Reached s) → numbering reached ≡ true → (opening_of reached).refusal ≡ refusal.None → HasNumbers s.totals
  -- a call that is not answered 25 is answered as without the numbers
  pub same : (s : Session) (m image : List ℕ) → code_of (step_of s m image).answer.refusal ≢ 25
      → plain_outcome (step_of s m image) ≡ step_of (plain s) m image
  -- 25 is given there, and there alone, where no number is left
  pub spent : (s : Session) (m image : List ℕ) → OutOfNumbers s m image → (step_of s m image).answer.refusal ≡ refusal.Number
  pub only : (s : Session) (m image : List ℕ) → code_of (step_of s m image).answer.refusal ≡ 25 → OutOfNumbers s m image

-- How many words a boot fetches: what the opening and each call prescribe, and that the session counts exactly these.
use Rattle.std.specs.Prelude.{ℕ, ◌+◌, ◌<◌, ◌||◌, List, ◌≡◌, eqb, Result, Ok, Err}
use Rattle.words.specs.rules.Bytes.{word_at}
use Rattle.words.specs.rules.Choice.{pick}
use Rattle.opcodes.specs.rules.Answers.{accepted, code_of}
use Rattle.opcodes.specs.rules.Opcodes.{looked_up}
use Rattle.opcodes.specs.declared.Mode.TheVariants.{Flash}
use Rattle.opcodes.specs.rules.Refusals.{Verdict}
use Rattle.opcodes.specs.declared.Refusal.{Refusal}
use Rattle.opcodes.specs.declared.Known.{Known}
use Rattle.flash_commands.specs.claims.Ways.{data_words_of, met, spares}
use Rattle.flash_laws.specs.claims.Reached.{opened_to, Reached, opened, called}
use Rattle.flash_session.specs.rules.Sessions.{counted_on}
use Rattle.flash.specs.rules.Step.{step_of}
use Rattle.flash_session.specs.declared.Session.{Session}

-- an opening, by its refusal: the magic word; none where it is refused with 1 or 3
abbrev pub opening_fetches : Verdict → ℕ
opening_fetches q = pick (eqb (code_of q) 1 || eqb (code_of q) 3) 0 1

-- the data words of what the table finds at the session's offset, the padded one among them
abbrev pub load_words : Result Known Refusal → Session → List ℕ → ℕ
load_words (Err q) s image = 0
load_words (Ok known) s image = data_words_of known.command s image

-- a call on an image, by its refusal: each opcode and argument word present when its command is met, and the data words of an accepted load; none where it
-- is refused with 2, 3 or 14
unfoldable pub call_fetches : Session → List ℕ → Verdict → ℕ
call_fetches s image q =
    pick (spares q) 0
    (met s image + pick (accepted q) (load_words (looked_up (word_at image s.offset) Flash s.dialect) s image) 0)

-- the sum over an opening and any calls, each on the image as it was lent
unfoldable pub prescribed : {s : Session} → Reached s → ℕ
prescribed (opened numbers dialect count windows image limit) = opening_fetches (opened_to numbers dialect count windows image limit).refusal
prescribed (called {s} lent before) =
    prescribed before + call_fetches s lent.image (step_of s lent.memory lent.image).answer.refusal

-- the retry limit that the opening was given
unfoldable pub limit_of : {s : Session} → Reached s → ℕ
limit_of (opened numbers dialect count windows image limit) = limit
limit_of (called lent before) = limit_of before

pub record CountsAsPrescribed : Type 0 where
  -- a call of any session counts on by what it prescribes
  pub call : (s : Session) (m image : List ℕ)
      → (step_of s m image).answer.session.fetched ≡ counted_on s.fetched (call_fetches s image (step_of s m image).answer.refusal)
  -- so the count since the opening is the sum; a retry limit is one byte, and then 32 bits hold it
  pub sum : {s : Session} (reached : Reached s) → limit_of reached < 256 → s.fetched ≡ prescribed reached

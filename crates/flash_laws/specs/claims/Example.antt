-- The totals worked out on two images of a DM648: one that enters, and one whose fill a retry takes back, so that with a retry the totals are not what was
-- accepted.
use Rattle.std.specs.Prelude.{ℕ, true, List, [], ◌∷◌, ◌≡◌, replicate}
use Rattle.windows.specs.rules.Map.{zero_window}
use Rattle.windows.specs.declared.Window.{Window}
use Rattle.opcodes.specs.rules.Answers.{kind_of}
use Rattle.opcodes.specs.declared.Dialect.TheVariants.{Dm648}
use Rattle.ledger.specs.rules.Totals.{standing}
use Rattle.flash_laws.specs.claims.Reached.{opened_to}
use Rattle.flash_laws.specs.claims.Totals.{Lent, answer_to, accepted_in}
use Rattle.flash_session.specs.declared.Session.{Session}

-- a session that numbers its commands, on a window of four bytes, for an image and a retry limit
abbrev pub windows : List Window
windows = record { first = 0x80000000; length = 4; rights = 7 } ∷ replicate 7 zero_window

abbrev pub session : List ℕ → ℕ → Session
session image limit = (opened_to true Dm648 1 windows image limit).session

-- after a call, and after two
abbrev pub lent : List ℕ → Lent
lent image = record { memory = replicate 4 0; image = image }

abbrev pub once : List ℕ → ℕ → Session
once image limit = (answer_to (session image limit) (lent image)).session

abbrev pub twice : List ℕ → ℕ → Session
twice image limit = (answer_to (once image limit) (lent image)).session

-- the magic word, a fill of the window, and a close that names one section and four bytes
abbrev pub closing : List ℕ
closing =
    0x54 ∷ 0x49 ∷ 0x50 ∷ 0x41 ∷ 0x0A ∷ 0x59 ∷ 0x53 ∷ 0x58 ∷ 0 ∷ 0 ∷ 0 ∷ 0x80 ∷ 4 ∷ 0 ∷ 0 ∷ 0 ∷ 2 ∷ 0 ∷ 0 ∷ 0 ∷ 0x44 ∷ 0x33 ∷ 0x22 ∷ 0x11
    ∷ 0x06 ∷ 0x59 ∷ 0x53 ∷ 0x58 ∷ 0 ∷ 0 ∷ 0 ∷ 0x80 ∷ 1 ∷ 0 ∷ 0 ∷ 0 ∷ 4 ∷ 0 ∷ 0 ∷ 0 ∷ []

-- the magic word, the same fill, and a Request that does not match and seeks back to it
abbrev pub seeking : List ℕ
seeking =
    0x54 ∷ 0x49 ∷ 0x50 ∷ 0x41 ∷ 0x0A ∷ 0x59 ∷ 0x53 ∷ 0x58 ∷ 0 ∷ 0 ∷ 0 ∷ 0x80 ∷ 4 ∷ 0 ∷ 0 ∷ 0 ∷ 2 ∷ 0 ∷ 0 ∷ 0 ∷ 0x44 ∷ 0x33 ∷ 0x22 ∷ 0x11
    ∷ 0x02 ∷ 0x59 ∷ 0x53 ∷ 0x58 ∷ 1 ∷ 0 ∷ 0 ∷ 0 ∷ 0xE0 ∷ 0xFF ∷ 0xFF ∷ 0xFF ∷ []

pub record TotalsWorked : Type 0 where
  pub counted : (once closing 0).totals.now ≡ standing 1 4
  pub enters : kind_of (answer_to (once closing 0) (lent closing)).event ≡ 3
  -- the fill is accepted, and the retry takes it back
  pub accepted : accepted_in (session seeking 1) (lent seeking) ≡ 4 ∷ []
  pub retried : (twice seeking 1).retries ≡ 1
  pub back : (twice seeking 1).totals.now ≡ standing 0 0

-- The totals of a flash session: what they count, what an entry says of them, and that AM17xx has nothing of them.
use Rattle.std.specs.Prelude.{ℕ, false, List, [], ◌∷◌, ◌++◌, ◌≡◌, Result, Ok, Err}
use Rattle.words.specs.rules.Bytes.{word_at}
use Rattle.words.specs.rules.Choice.{pick}
use Rattle.opcodes.specs.rules.Answers.{accepted, kind_of}
use Rattle.opcodes.specs.rules.Opcodes.{looked_up}
use Rattle.opcodes.specs.declared.Dialect.TheVariants.{Am17xx, Dm648}
use Rattle.opcodes.specs.declared.Mode.TheVariants.{Flash}
use Rattle.opcodes.specs.declared.Known.{Known}
use Rattle.opcodes.specs.declared.Refusal.{Refusal}
use Rattle.ledger.specs.claims.Agreement.{plus, Zero}
use Rattle.ledger.specs.rules.Totals.{nothing, at_opening, numbered_as}
use Rattle.ledger.specs.declared.Happening.{Happening}
use Rattle.ledger.specs.declared.Happening.TheVariants as happened
use Rattle.ledger.specs.declared.Totals.{Totals}
use Rattle.reading.specs.rules.Reading.{argument}
use Rattle.flash_commands.specs.claims.Ways.{named, happening}
use Rattle.flash_laws.specs.claims.Reached.{Reached, opened, called}
use Rattle.flash_session.specs.rules.Sessions.{with_totals}
use Rattle.flash.specs.rules.Step.{step_of}
use Rattle.flash_session.specs.declared.Called.{Called}
use Rattle.flash_session.specs.declared.Session.{Session}

-- what is lent to a call
pub record Lent : Type 0 where
  pub memory : List ℕ
  pub image : List ℕ

-- the answer to a call
abbrev pub answer_to : Session → Lent → Called
answer_to s lent = (step_of s lent.memory lent.image).answer

-- the size of a load or a fill; nothing else has one
abbrev pub sizes_in : Happening → List ℕ
sizes_in (happened.Section size) = size ∷ []
sizes_in happened.Setting = []
sizes_in happened.Enable = []
sizes_in happened.Passed = []
sizes_in happened.Retried = []
sizes_in happened.Other = []

-- so of what the table finds
abbrev pub sizes_found : Result Known Refusal → ℕ → List ℕ
sizes_found (Err q) size = []
sizes_found (Ok known) size = sizes_in (happening known.command size)

-- the size of the load or fill that a call accepts, where it accepts one
unfoldable pub accepted_in : Session → Lent → List ℕ
accepted_in s lent =
    pick (accepted (answer_to s lent).refusal)
    (sizes_found (looked_up (word_at lent.image s.offset) Flash s.dialect) (argument lent.image s.offset 1)) []

-- of all loads and fills that were accepted since the opening
unfoldable pub sizes_accepted : {s : Session} → Reached s → List ℕ
sizes_accepted (opened numbers dialect count windows image limit) = []
sizes_accepted (called {s} lent before) = sizes_accepted before ++ accepted_in s (record { memory = lent.memory; image = lent.image })

-- with no retry since the opening, the totals are the count and the sum of the sizes of the accepted loads and fills
abbrev pub CountsAccepted : Type 0
CountsAccepted =
    (s : Session) (reached : Reached s) → s.dialect ≡ Dm648 → s.retries ≡ 0 → s.totals.now ≡ plus nothing (sizes_accepted reached)

-- entering in DM648 means that both words were the totals
abbrev pub EntersOnTotals : Type 0
EntersOnTotals =
    (s : Session) (m image : List ℕ) → s.dialect ≡ Dm648 → kind_of (step_of s m image).answer.event ≡ 3 → named s image ≡ s.totals.now

-- an answer with the totals left out, and not the numbers
abbrev pub untold : Called → Called
untold a =
    record {
      refusal = a.refusal;
      event = a.event;
      at = a.at;
      session = with_totals a.session (numbered_as at_opening a.session.totals);
      wrote = a.wrote;
    }

pub record Am17xxHasNone : Type 0 where
  -- they stay 0, and no Request stands
  pub zero : (s : Session) → Reached s → s.dialect ≡ Am17xx → Zero s.totals × (s.totals.asked ≡ false)
  -- whatever they were, no answer and no byte of memory would be another
  pub unseen : (s : Session) (t : Totals) (m image : List ℕ) → s.dialect ≡ Am17xx
      → (untold (step_of (with_totals s (numbered_as t s.totals)) m image).answer ≡ untold (step_of s m image).answer)
      × ((step_of (with_totals s (numbered_as t s.totals)) m image).memory ≡ (step_of s m image).memory)

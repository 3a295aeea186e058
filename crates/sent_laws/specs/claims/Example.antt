-- A load whose data begin with the start byte and with the start half: both lines take them as data. And the exception: sent first, the same words are a start
-- unit to one line and a word to the other.
use Rattle.std.specs.Prelude.{ℕ, List, [], ◌∷◌, ◌≡◌, replicate}
use Rattle.windows.specs.rules.Map.{zero_window}
use Rattle.windows.specs.declared.Window.{Window}
use Rattle.opcodes.specs.declared.Dialect.TheVariants.{Am17xx}
use Rattle.machine_answers.specs.declared.Core.{Core}
use Rattle.sent.specs.claims.Lift.{at_word, Plain}
use Rattle.sent.specs.rules.Bus.{all_units, units_of}
use Rattle.sent.specs.rules.Feeding.{fed, answers, replied, first_refused}
use Rattle.sent.specs.rules.Opening.{opened_by}
use Rattle.sent.specs.declared.Bus.{Bus}
use Rattle.sent.specs.declared.Bus.TheVariants.{Bytes, Halves}
use Rattle.sent_laws.specs.claims.Lines.{SameOf}

-- a window of eight bytes, and the core of a session that is opened on it
abbrev pub windows : List Window
windows = record { first = 0x80000000; length = 8; rights = 7 } ∷ replicate 7 zero_window

unfoldable pub fresh : Core
fresh = (opened_by Bytes Am17xx 1 windows).session.core

abbrev pub zeros : List ℕ
zeros = replicate 8 0

-- a word whose first byte is the start byte, and one whose first half is the start half
abbrev pub start_byte_first : ℕ
start_byte_first = 0x00000058

abbrev pub start_half_first : ℕ
start_half_first = 0x00005853

-- a load of both, and what it leaves
abbrev pub loading : List ℕ
loading = 0x58535901 ∷ 0x80000000 ∷ 8 ∷ start_byte_first ∷ start_half_first ∷ []

abbrev pub loaded_bytes : List ℕ
loaded_bytes = 0x58 ∷ 0 ∷ 0 ∷ 0 ∷ 0x53 ∷ 0x58 ∷ 0 ∷ 0 ∷ []

pub record TakenAsData : Type 0 where
  pub same : SameOf fresh zeros loading
  pub loads : (bus : Bus) → (fed bus (at_word fresh zeros) (all_units bus loading)).memory ≡ loaded_bytes

-- what a line replies to a word that is sent first, and how it refuses it
abbrev pub replies_to : Bus → ℕ → List ℕ
replies_to bus word = replied (answers bus (at_word fresh zeros) (units_of bus word))

abbrev pub refuses : Bus → ℕ → ℕ
refuses bus word = first_refused (answers bus (at_word fresh zeros) (units_of bus word))

-- answered by bytes, and 6 by halves, which take it as a word
pub record StartByteFirst : Type 0 where
  pub a_word : Plain Halves fresh start_byte_first
  pub answered : replies_to Bytes start_byte_first ≡ 0x52 ∷ []
  pub refused : refuses Halves start_byte_first ≡ 6
  pub differ : SameOf fresh zeros (start_byte_first ∷ []) → ⊥

-- answered by halves, and 6 by bytes
pub record StartHalfFirst : Type 0 where
  pub a_word : Plain Bytes fresh start_half_first
  pub answered : replies_to Halves start_half_first ≡ 0x53 ∷ 0x52 ∷ []
  pub refused : refuses Bytes start_half_first ≡ 6
  pub differ : SameOf fresh zeros (start_half_first ∷ []) → ⊥

-- The account worked out on a DM648: by line, where a Request that a Ping settles is the mark, a Start-Over goes back to it and a number is given again; and
-- from flash, where a seek takes a fill back.
use Rattle.std.specs.Prelude.{ℕ, true, List, [], ◌∷◌, ◌++◌, ◌≡◌, replicate}
use Rattle.windows.specs.rules.Map.{zero_window}
use Rattle.windows.specs.declared.Window.{Window}
use Rattle.opcodes.specs.declared.Dialect.TheVariants.{Dm648}
use Rattle.ledger.specs.claims.Account.{Act, section, asked, retry, enable, other, Count, opened as empty, account, numbers_told}
use Rattle.ledger.specs.rules.Totals.{standing}
use Rattle.flash_session.specs.declared.Session.{Session}
use Rattle.flash_laws.specs.claims.Example.{windows as windows_in_flash, seeking, lent}
use Rattle.flash_laws.specs.claims.Reached as reach
use Rattle.flash_laws.specs.claims.Totals.{answer_to}
use Rattle.sent.specs.rules.Bus.{start_unit, all_units}
use Rattle.sent.specs.rules.Feeding.{State, totals, fed}
use Rattle.sent.specs.declared.Bus.{Bus}
use Rattle.sent_laws.specs.claims.Reached.{opened_to, opened, fed_reached}
use Rattle.law_counting.specs.claims.InFlash as flash
use Rattle.law_counting.specs.claims.OnLine as line

-- a window of four bytes
abbrev pub windows : List Window
windows = record { first = 0x80000000; length = 4; rights = 7 } ∷ replicate 7 zero_window

-- a fill of them
abbrev pub filling : List ℕ
filling = 0x5853590A ∷ 0x80000000 ∷ 4 ∷ 2 ∷ 0x11223344 ∷ []

-- a fill, a Request, a Ping of no words, a fill, a Request, a Start-Over, a fill, an Enable
abbrev pub words : List ℕ
words = filling ++ (0x58535902 ∷ 0x5853590B ∷ 0 ∷ (filling ++ (0x58535902 ∷ 0x58535908 ∷ (filling ++ (0x58535903 ∷ [])))))

-- what is taken of them
abbrev pub taken : List Act
taken = other ∷ section 4 ∷ asked ∷ other ∷ other ∷ section 4 ∷ asked ∷ retry ∷ other ∷ section 4 ∷ enable ∷ []

-- so many sections, bytes and numbers
abbrev pub counting : ℕ → ℕ → ℕ → Count
counting sections bytes numbers = record { sections = sections; bytes = bytes; numbers = numbers }

module _ (bus : Bus) where
  abbrev pub start : State
  start = record { session = (opened_to true bus Dm648 1 windows).session; memory = replicate 4 0 }

  abbrev pub units : List ℕ
  units = start_unit bus ∷ all_units bus words

  pub record WorkedOnLine : Type 0 where
    pub acts : line.acts_of (fed_reached bus start units (opened true Dm648 1 windows)) ≡ taken
    pub stands : (totals (fed bus start units)).now ≡ standing 2 8
    pub next_number : (totals (fed bus start units)).next ≡ 3

-- one more call of the image from flash, on four zeros
abbrev pub again : {s : Session} → reach.Reached s → reach.Reached (answer_to s (lent seeking)).session
again reached = reach.called (record { memory = replicate 4 0; image = seeking }) reached

-- the second fill is taken back, and the third has its number
pub record Worked : Type 0 where
  pub account_now : (account empty taken).now ≡ counting 2 8 2
  pub account_numbers : numbers_told empty taken ≡ 1 ∷ 2 ∷ 2 ∷ []
  pub on_line : (bus : Bus) → WorkedOnLine bus
  pub in-flash : flash.acts_of (again (again (reach.opened true Dm648 1 windows_in_flash seeking 1))) ≡ section 4 ∷ retry ∷ []
  pub flash_now : (account empty (section 4 ∷ retry ∷ [])).now ≡ counting 0 0 0

-- What Load, Fill and Boot Table do to memory, bit by bit: which bits a command writes and what they become, whatever memory
-- held before.
use Rattle.std.specs.Prelude.{ℕ, ◌+◌, ◌-◌, ◌*◌, ◌/◌, ◌%◌, ◌≤◌, ◌<◌, Bool, false, ◌||◌, List, [], ◌∷◌, ◌≡◌, length, get_or, Option, Some, None}
use Rattle.words.specs.rules.Bits.{bit, within}
use Rattle.words.specs.rules.Bytes.{byte, bit_at, size_of}
use Rattle.words.specs.rules.Choice.{pick}
use Rattle.words.specs.declared.Unit.{Unit as UnitOf}
use Rattle.commands.specs.rules.Commands.{Shape}

-- a run of bits of memory: its first bit, how many they are, and what the i-th of them becomes
pub record Effect : Type 0 where
  pub first : ℕ
  pub count : ℕ
  pub gives : ℕ → ℕ

-- is bit p one of those written?
abbrev pub writes : Effect → ℕ → Bool
writes e p = within e.first e.count p

-- what bit p becomes where it is written
abbrev pub becomes : Effect → ℕ → ℕ
becomes e p = e.gives (p - e.first)

-- does one of several write it?
unfoldable pub some_writes : List Effect → ℕ → Bool
some_writes [] p = false
some_writes (e ∷ es) p = writes e p || some_writes es p

-- no bit is written
abbrev pub no_effect : Effect
no_effect = record { first = 0; count = 0; gives = λ i. 0 }

-- f 0 .. f (n - 1) are written as the bytes from a place on
abbrev pub bytes_effect : ℕ → ℕ → (ℕ → ℕ) → Effect
bytes_effect place n f = record { first = 8 * place; count = 8 * n; gives = λ i. bit (f (i / 8)) (i % 8) }

-- Load writes its bytes
abbrev pub load_effect : ℕ → List ℕ → Effect
load_effect place bytes = bytes_effect place (length bytes) (λ i. get_or bytes i 0)

-- Fill writes the low bytes of the pattern, again and again
abbrev pub fill_effect : ℕ → ℕ → Option UnitOf → ℕ → Effect
fill_effect place size None pattern = no_effect
fill_effect place size (Some unit) pattern = bytes_effect place size (λ i. byte pattern (i % size_of unit))

-- Boot Table writes the bits of its shape, and no other bit of the unit
abbrev pub setting_effect : ℕ → Shape → ℕ → Effect
setting_effect place None value = no_effect
setting_effect place (Some bits) value = record { first = 8 * place + bits.start; count = bits.width; gives = bit value }

-- memory before and after an effect: the bits written are those given, all other bits are kept
pub record Does (e : Effect) (before after : List ℕ) : Type 0 where
  pub same_length : length after ≡ length before
  pub each_bit : (p : ℕ) → p < 8 * length before → bit_at after p ≡ pick (writes e p) (becomes e p) (bit_at before p)

-- such an effect all of whose bits lie inside the memory
pub record DoesInside (e : Effect) (before after : List ℕ) : Type 0 where
  pub does : Does e before after
  pub lies : e.first + e.count ≤ 8 * length before

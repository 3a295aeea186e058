-- What a command says that it wrote is what its own effect gives to memory.
use Rattle.std.specs.Prelude.{ℕ, List, ◌≡◌, length, Ok}
use Rattle.windows.specs.rules.Window.{sum_of}
use Rattle.windows.specs.declared.Window.{Window}
use Rattle.commands.specs.rules.Commands.{load_judged, unit_of, fill_judged, fill_memory, shape_of, setting_judged, setting_memory}
use Rattle.stores.specs.rules.Stores.{loaded}
use Rattle.commands.specs.rules.Wrote.{first_bit, none_wrote, bytes_wrote, setting_wrote}
use Rattle.commands.specs.declared.Wrote.{Wrote}
use Rattle.law_effects.specs.claims.Effects.{Effect, no_effect, load_effect, fill_effect, setting_effect, DoesInside}

-- the bits that are told are those that an effect writes
abbrev pub Reports : Wrote → Effect → Type 0
Reports w e = (first_bit w ≡ e.first) × (w.count ≡ e.count)

-- a step of this effect, and what it tells: the bits that are told are the effect's, and memory is given what the effect gives them, and no other bit
pub record Tells (effect : Effect) (w : Wrote) (before after : List ℕ) : Type 0 where
  pub reports : Reports w effect
  pub does : DoesInside effect before after

-- so does each command that is granted, by its own effect, where the memory has the map's length; one that tells nothing leaves it as it was
pub record CommandsTell : Type 0 where
  pub nothing : (m : List ℕ) → Tells no_effect none_wrote m m
  pub load : (windows : List Window) (m : List ℕ) → length m ≡ sum_of windows → (address place number : ℕ) (bytes : List ℕ)
      → load_judged windows address (length bytes) ≡ Ok place
      → Tells (load_effect place bytes) (bytes_wrote (Ok place) (length bytes) number) m (loaded m place bytes)
  pub fill : (windows : List Window) (m : List ℕ) → length m ≡ sum_of windows → (address size kind pattern place number : ℕ)
      → fill_judged windows address size kind ≡ Ok place
      → Tells (fill_effect place size (unit_of kind) pattern) (bytes_wrote (Ok place) size number) m (fill_memory (Ok place) m size kind pattern)
  pub setting : (windows : List Window) (m : List ℕ) → length m ≡ sum_of windows → (word address value place number : ℕ)
      → setting_judged windows word address value ≡ Ok place
      → Tells (setting_effect place (shape_of word) value) (setting_wrote (Ok place) word number) m (setting_memory (Ok place) m word value)

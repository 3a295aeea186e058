-- What every comparison finds (02, request 13): the two sides do the same, whatever the image; and how much room their events need.
use Rattle.std.specs.Prelude.{ℕ, ◌*◌, ◌≤◌, List, ◌≡◌, length}
use Rattle.words.specs.rules.Bytes.{AreBytes}
use Rattle.opcodes.specs.declared.Dialect.{Dialect}
use Rattle.opcodes.specs.declared.Event.TheVariants.{Enter}
use Rattle.flash_runs.specs.rules.Events.{most_events}
use Rattle.sent.specs.declared.Bus.{Bus}
use Rattle.agreement.specs.rules.Comparison.{flash_events, by_line, compared_of}

pub record BothSides (bus : Bus) (dialect : Dialect) (image : List ℕ) (limit : ℕ) : Type 0 where
  -- the same events in the same order, so that two rooms that were lent alike are alike afterwards
  pub same_events : (by_line bus dialect image limit).events ≡ flash_events dialect image limit
  -- no word of memory differs
  pub nothing_differs : (first second : ℕ) → (compared_of bus dialect image limit first second).difference.words ≡ 0
  -- where the run enters, so does the exchange, and the same address
  pub same_entry : (first second address : ℕ) → (compared_of bus dialect image limit first second).flash.event ≡ Enter address
      → (compared_of bus dialect image limit first second).line.event ≡ Enter address
  -- rooms of eight bytes for each event that there may be hold them all
  pub all_told : (size : ℕ) → 8 * most_events limit (length image) ≤ size
      → ((compared_of bus dialect image limit size size).flash.told ≡ 8 * length (flash_events dialect image limit))
      × ((compared_of bus dialect image limit size size).line.told ≡ 8 * length (flash_events dialect image limit))

-- of every image of bytes, on either line and in either dialect
abbrev pub NothingDiffers : Type 0
NothingDiffers = (bus : Bus) (dialect : Dialect) (image : List ℕ) (limit : ℕ) → AreBytes image → BothSides bus dialect image limit

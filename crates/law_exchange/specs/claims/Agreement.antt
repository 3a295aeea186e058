-- Request 13 of 02: flash and line agree. Commissioning loads a car by line; afterwards it boots from flash.
use Rattle.std.specs.Prelude.{ℕ, ◌*◌, ◌≤◌, List, ◌≢◌, ◌≡◌, Ok}
use Rattle.windows.specs.declared.Window.{Window}
use Rattle.opcodes.specs.declared.Command.TheVariants.{SequentialRead}
use Rattle.opcodes.specs.declared.Dialect.{Dialect}
use Rattle.opcodes.specs.declared.Event.TheVariants.{Enter}
use Rattle.opcodes.specs.rules.Opcodes.{with_words}
use Rattle.reading.specs.rules.Reading.{read_at}
use Rattle.flash_runs.specs.rules.Events.{waits_of, last_of, events_from}
use Rattle.flash_runs.specs.rules.Run.{ran_from}
use Rattle.sent.specs.declared.Bus.{Bus}
use Rattle.law_exchange.specs.claims.Course.{Premises, talk_after, in_flash, exchange_turns}

module _ (bus : Bus) (dialect : Dialect) (count : ℕ) (windows : List Window) (m image : List ℕ) (tries limit pings : ℕ) where
  -- the images meant: the flash run, the image lent unchanged, enters an address with no mismatch, and the image holds no Sequential Read Enable; tries in
  -- range, and one map and one starting memory for both
  pub record Commissioned (address : ℕ) : Type 0 where
    pub premises : Premises bus dialect count windows m image tries limit pings
    pub enters : (ran_from (in_flash bus dialect count windows m image tries limit pings) m image).answer.event ≡ Enter address
    pub no_mismatch : (ran_from (in_flash bus dialect count windows m image tries limit pings) m image).answer.session.retries ≡ 0
    pub no_sequential_read : (k words : ℕ) → read_at image (4 * k) dialect ≢ Ok (with_words SequentialRead words)

  -- by line, n turns of the group controller's half with no byte lost: the same entry address, the same memory, the same waits in the same order
  pub record Agree (address n : ℕ) : Type 0 where
    pub same_entry : last_of (talk_after bus dialect count windows m image tries limit pings n).events ≡ Enter address
    pub same_memory : (talk_after bus dialect count windows m image tries limit pings n).loader.memory
        ≡ (ran_from (in_flash bus dialect count windows m image tries limit pings) m image).memory
    pub same_waits : waits_of (talk_after bus dialect count windows m image tries limit pings n).events
        ≡ waits_of (events_from (in_flash bus dialect count windows m image tries limit pings) m image)

-- the request: for every map and every starting memory, on either line and in either dialect
abbrev pub FlashAndLineAgree : Type 0
FlashAndLineAgree = (bus : Bus) (dialect : Dialect) (count : ℕ) (windows : List Window) (m image : List ℕ) (tries limit pings address : ℕ)
    → Commissioned bus dialect count windows m image tries limit pings address
    → (n : ℕ) → exchange_turns bus dialect count windows m image tries limit pings ≤ n → Agree bus dialect count windows m image tries limit pings address n

-- More holds: of every image and every end, all events and the memory are the same (`SameCourse`). That the run enters is needed for the entry alone, which
-- there is not else. No mismatch and no Sequential Read are not needed: a mismatch is compared and sought by the host as by flash, and a Sequential Read is
-- passed over, which changes neither memory nor events.

-- Request 1 of 02 in its own words: against a freshly opened loader, with tries in range and no byte lost, that loader enters exactly when a flash run of the
-- unchanged image with the same map and retry limit does, and the same address.
use Rattle.std.specs.Prelude.{ℕ, ◌≤◌, List, [], ◌∷◌, ◌⊎◌, ◌≡◌}
use Rattle.windows.specs.declared.Window.{Window}
use Rattle.opcodes.specs.declared.Dialect.{Dialect}
use Rattle.opcodes.specs.declared.Event.{Event}
use Rattle.opcodes.specs.declared.Event.TheVariants.{Enter}
use Rattle.flash_runs.specs.rules.Run.{ran_from}
use Rattle.sent.specs.declared.Bus.{Bus}
use Rattle.law_exchange.specs.claims.Course.{Premises, talk_after, in_flash, exchange_turns}

-- an event is among some: it is the first, or among the others
unfoldable pub Among : Event → List Event → Type 0
Among e [] = ⊥
Among e (f ∷ fs) = (e ≡ f) ⊎ Among e fs

module _ (bus : Bus) (dialect : Dialect) (count : ℕ) (windows : List Window) (m image : List ℕ) (tries limit pings : ℕ) where
  -- the loader has entered an address within n turns, and the flash run enters it
  abbrev pub LoaderEnters : ℕ → ℕ → Type 0
  LoaderEnters n address = Among (Enter address) (talk_after bus dialect count windows m image tries limit pings n).events

  abbrev pub FlashEnters : ℕ → Type 0
  FlashEnters address = (ran_from (in_flash bus dialect count windows m image tries limit pings) m image).answer.event ≡ Enter address

  -- exactly when: at whatever turn the loader enters, the flash run does; and where that does, the loader has by the last turn of the exchange
  pub record ExactlyWhen : Type 0 where
    pub only_when : (n address : ℕ) → LoaderEnters n address → FlashEnters address
    pub when : (n address : ℕ) → exchange_turns bus dialect count windows m image tries limit pings ≤ n → FlashEnters address → LoaderEnters n address

abbrev pub EntersExactlyWhen : Type 0
EntersExactlyWhen = (bus : Bus) (dialect : Dialect) (count : ℕ) (windows : List Window) (m image : List ℕ) (tries limit pings : ℕ)
    → Premises bus dialect count windows m image tries limit pings → ExactlyWhen bus dialect count windows m image tries limit pings

-- Request 1 of 02, and all that 13 rests on: in the exchange of a freshly opened host and a freshly opened loader, every reply heard before the next turn, the
-- loader does what the flash run of the same image does with the same map, memory and limit, however that run ends; and the host comes to its end.
use Rattle.std.specs.Prelude.{ℕ, ◌+◌, ◌*◌, ◌/◌, ◌^◌, ◌≤◌, ◌<◌, true, List, ◌≡◌, length}
use Rattle.words.specs.rules.Bytes.{AreBytes}
use Rattle.windows.specs.rules.Map.{good_map, kept_of}
use Rattle.windows.specs.rules.Window.{sum_of}
use Rattle.windows.specs.declared.Window.{Window}
use Rattle.opcodes.specs.declared.Dialect.{Dialect}
use Rattle.flash_session.specs.rules.Opening.{opened_by}
use Rattle.flash_session.specs.declared.Opened.{Opened}
use Rattle.flash_runs.specs.rules.Run.{ran_from}
use Rattle.flash_runs.specs.rules.Events.{events_from}
use Rattle.sent.specs.declared.Bus.{Bus}
use Rattle.host_answers.specs.rules.Hosts.{most_tries}
use Rattle.exchange.specs.rules.Exchange.{Talk, talked, meeting}

module _ (bus : Bus) (dialect : Dialect) (count : ℕ) (windows : List Window) (m image : List ℕ) (tries limit pings : ℕ) where
  -- a good map, memory of its length, an image of bytes, tries in range, and a count of pings that is a word
  pub record Premises : Type 0 where
    pub map : good_map count windows ≡ true
    pub lent : length m ≡ sum_of (kept_of count windows)
    pub bytes : AreBytes image
    pub some : 1 ≤ tries
    pub most : tries ≤ most_tries
    pub word : pings < 2 ^ 32

  -- the talk after n turns, and the opening in flash mode
  abbrev pub talk_after : ℕ → Talk
  talk_after n = talked n (meeting bus dialect count windows m image tries limit pings) image

  abbrev pub in_flash : Opened
  in_flash = opened_by dialect count windows image limit

  -- the turns of an exchange: greeting, start and Ping with its echoes; three for each command that flash would call; and where the loader has ended the host
  -- passes over what is left and spends the tries of one wait
  abbrev pub exchange_turns : ℕ
  exchange_turns = pings + 4 + 3 * ((limit + 1) * (length image / 4) + 1) + length image / 4 + tries + 2

  -- from there on, whatever the number of turns: the host has ended, and the loader's events and memory are those of the flash run
  pub record Course (n : ℕ) : Type 0 where
    pub ended : (talk_after n).host.ended ≡ true
    pub events : (talk_after n).events ≡ events_from in_flash m image
    pub memory : (talk_after n).loader.memory ≡ (ran_from in_flash m image).memory

-- the theorem: for every line, dialect, map, memory, image, tries, limit and count of pings
abbrev pub SameCourse : Type 0
SameCourse = (bus : Bus) (dialect : Dialect) (count : ℕ) (windows : List Window) (m image : List ℕ) (tries limit pings : ℕ)
    → Premises bus dialect count windows m image tries limit pings
    → (n : ℕ) → exchange_turns bus dialect count windows m image tries limit pings ≤ n → Course bus dialect count windows m image tries limit pings n

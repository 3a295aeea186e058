-- Instances that meet every premise, with a mismatch and a retry, on both lines and in both dialects; and for each premise a talk without it in which the
-- loader does not do what the flash run does.
use Rattle.std.specs.Prelude.{ℕ, List, [], ◌∷◌, ◌++◌, ◌≡◌, drop, replicate}
use Rattle.words.specs.rules.Bytes.{bytes_at, words_bytes}
use Rattle.windows.specs.rules.Map.{zero_window}
use Rattle.windows.specs.declared.Window.{Window}
use Rattle.opcodes.specs.declared.Dialect.{Dialect}
use Rattle.opcodes.specs.declared.Dialect.TheVariants.{Am17xx, Dm648}
use Rattle.opcodes.specs.declared.Event.TheVariants.{Enter}
use Rattle.flash_session.specs.rules.Opening.{magic, opened_by}
use Rattle.flash_runs.specs.rules.Run.{ran_from}
use Rattle.sent.specs.rules.Feeding.{answers, replied}
use Rattle.sent.specs.declared.Bus.{Bus}
use Rattle.sent.specs.declared.Bus.TheVariants.{Bytes}
use Rattle.host_answers.specs.rules.Hosts.{heard_all}
use Rattle.host.specs.rules.Turn.{turned}
use Rattle.exchange.specs.rules.Exchange.{Talk, units_sent, after, onward, talked, meeting}
use Rattle.law_exchange.specs.claims.Course.{Premises, talk_after, exchange_turns}

-- a window of 76 bytes with all rights, and its memory of zeros
abbrev pub windows : List Window
windows = record { first = 0x10800000; length = 76; rights = 7 } ∷ replicate 7 zero_window

abbrev pub memory : List ℕ
memory = replicate 76 0

-- Enable; a fill, and a load after it; a Request that expects the checksum of the load alone and seeks back to it, so that it mismatches once
abbrev pub attempts : List ℕ
attempts =
    0x58535903 ∷ 0x5853590A ∷ 0x10800000 ∷ 4 ∷ 2 ∷ 0x11223344 ∷ 0x58535901 ∷ 0x10800040 ∷ 12 ∷ 0xA ∷ 0xB ∷ 0xC ∷ 0x58535902 ∷ 0x8434A250 ∷ 0xFFFFFFDC ∷ []

-- with them a whole script
abbrev pub retrying : List ℕ
retrying = magic ∷ attempts ++ (0x58535906 ∷ 0x10800000 ∷ [])

-- a DM648's close names the load alone too: the retry took the fill back
abbrev pub image : Dialect → List ℕ
image Am17xx = words_bytes retrying
image Dm648 = words_bytes (retrying ++ (1 ∷ 12 ∷ []))

-- with three tries, one retry and Ping's count of two, on either line and in either dialect: the run counts one retry and enters, and so does the loader
pub record Worked (bus : Bus) (dialect : Dialect) : Type 0 where
  pub premises : Premises bus dialect 1 windows memory (image dialect) 3 1 2
  pub retried : (ran_from (opened_by dialect 1 windows (image dialect) 1) memory (image dialect)).answer.session.retries ≡ 1
  pub enters : (talk_after bus dialect 1 windows memory (image dialect) 3 1 2 (exchange_turns bus dialect 1 windows memory (image dialect) 3 1 2)).events
      ≡ Enter 0x10800000 ∷ []
  pub loads : bytes_at (talk_after bus dialect 1 windows memory (image dialect) 3 1 2 (exchange_turns bus dialect 1 windows memory (image dialect) 3 1 2)
      ).loader.memory 0x40 12 ≡ 10 ∷ 0 ∷ 0 ∷ 0 ∷ 11 ∷ 0 ∷ 0 ∷ 0 ∷ 12 ∷ 0 ∷ 0 ∷ 0 ∷ []

-- an image that enters at once, and its flash run
abbrev pub entering : List ℕ
entering = words_bytes (magic ∷ 0x58535906 ∷ 0x10800000 ∷ [])

abbrev pub FlashEntersIt : Type 0
FlashEntersIt = (ran_from (opened_by Am17xx 1 windows entering 0) memory entering).answer.event ≡ Enter 0x10800000

-- its exchange by bytes with so many tries and an empty Ping: after five turns the opcode of the close is out and acknowledged
abbrev pub begun : ℕ → Talk
begun tries = meeting Bytes Am17xx 1 windows memory entering tries 0 0

-- what goes out in a turn
abbrev pub going_out : Talk → List ℕ → List ℕ
going_out t lent = units_sent Bytes (turned t.host lent).sending lent

-- a turn of which the first unit is lost
abbrev pub losing : Talk → Talk
losing t = after (turned t.host entering) (drop 1 (going_out t entering)) t

-- a turn whose replies are not heard yet, and these heard later
abbrev pub unheard : Talk → Talk
unheard t =
    let next : Talk = onward t entering in
    record {
      host = (turned t.host entering).host;
      loader = next.loader;
      events = next.events;
      host_refused = next.host_refused;
      loader_refused = next.loader_refused;
    }

abbrev pub hearing_late : List ℕ → Talk → Talk
hearing_late bytes t =
    record { host = heard_all t.host bytes; loader = t.loader; events = t.events; host_refused = t.host_refused; loader_refused = t.loader_refused }

-- the replies to a turn
abbrev pub replies_to : Talk → List ℕ
replies_to t = replied (answers Bytes t.loader (going_out t entering))

-- the same image with another address in its close
abbrev pub another : List ℕ
another = words_bytes (magic ∷ 0x58535906 ∷ 0x10800004 ∷ [])

-- each premise is needed: without it the flash run enters 0x10800000, and the loader does not, however many turns follow
pub record Needed : Type 0 where
  pub flash : FlashEntersIt
  -- tries 0 and 1,001
  pub no_tries : (n : ℕ) → (talked n (begun 0) entering).events ≡ []
  pub too_many : (n : ℕ) → (talked n (begun 1001) entering).events ≡ []
  -- a byte of the address is lost
  pub lost : (n : ℕ) → (talked n (losing (talked 5 (begun 3) entering)) entering).events ≡ []
  -- the acknowledgement of the close comes after a silent look: the opcode goes out again, and the loader takes it for the address
  pub late : (n : ℕ)
      → (talked n (hearing_late (replies_to (talked 4 (begun 3) entering)) (onward (unheard (talked 4 (begun 3) entering)) entering)) entering).events
      ≡ []
  -- the image is another one from the sixth turn on
  pub changed : (n : ℕ) → (talked n (onward (talked 5 (begun 3) entering) another) another).events ≡ Enter 0x10800004 ∷ []

-- A host comes to its end, whatever it hears: each turn leaves fewer turns than before.
use Rattle.std.specs.Prelude.{ℕ, ◌+◌, ◌*◌, ◌≤◌, ◌<◌, true, List, [], ◌∷◌, ◌≡◌, length}
use Rattle.opcodes.specs.rules.Answers.{accepted}
use Rattle.opcodes.specs.declared.Dialect.{Dialect}
use Rattle.sent.specs.declared.Bus.{Bus}
use Rattle.host_answers.specs.rules.Ends.{most_turns}
use Rattle.host_answers.specs.rules.Hosts.{heard_all, opened_by}
use Rattle.host.specs.rules.Turn.{turned}
use Rattle.host_laws.specs.claims.Looks.{is_lent, is_turn}
use Rattle.host_laws.specs.claims.Outgoing.{Awaits}
use Rattle.host_answers.specs.declared.Host.{Host}
use Rattle.host_answers.specs.declared.Opened.{Opened}

-- some turns over one image, with what is heard before each of them
unfoldable pub turns_of : Host → List ℕ → List (List ℕ) → Host
turns_of h image [] = h
turns_of h image (bytes ∷ later) = turns_of (turned (heard_all h bytes) image).host image later

-- a turn leaves fewer turns, and hearing leaves them as they were
pub record Fewer (h : Host) (image : List ℕ) : Type 0 where
  pub turn : is_turn h image ≡ true → most_turns (turned h image).host < most_turns h
  pub hearing : (bytes : List ℕ) → most_turns (heard_all h bytes) ≡ most_turns h

abbrev pub EachTurnCounts : Type 0
EachTurnCounts = (h : Host) (image : List ℕ) → Fewer h image

-- after that many turns of an image of its length a host has ended
abbrev pub HostEnds : Type 0
HostEnds = (h : Host) (image : List ℕ) → is_lent h image ≡ true → (heard : List (List ℕ)) → most_turns h ≤ length heard
    → (turns_of h image heard).ended ≡ true

-- of an opened host: so many
abbrev pub turns_allowed : ℕ → ℕ → ℕ → ℕ → ℕ
turns_allowed length tries limit pings = (pings + length + limit * (length + 2)) * (tries + 2)

-- it ends within them, one that was refused too; and whatever it heard and however often it took its turn, an opcode that it waits for is that of a command of
-- the image that is sent
pub record Runs (image : List ℕ) (tries limit pings : ℕ) (o : Opened) : Type 0 where
  pub allowed : accepted o.refusal ≡ true → most_turns o.host ≡ turns_allowed (length image) tries limit pings
  pub ends : (heard : List (List ℕ)) → turns_allowed (length image) tries limit pings ≤ length heard → (turns_of o.host image heard).ended ≡ true
  pub awaits : (heard : List (List ℕ)) → Awaits (turns_of o.host image heard) image

abbrev pub OpenedHostEnds : Type 0
OpenedHostEnds = (bus : Bus) (dialect : Dialect) (image : List ℕ) (tries limit pings : ℕ)
    → Runs image tries limit pings (opened_by bus dialect image tries limit pings)

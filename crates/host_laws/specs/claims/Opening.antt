-- A host's opening: 3, then 4, then 20 exactly in their cases, nothing sent; a host that opens is at its first wait, and one that does not has ended.
use Rattle.std.specs.Prelude.{ℕ, Bool, true, false, not, ◌&&◌, List, ◌≡◌, leb, eqb, length}
use Rattle.words.specs.rules.Bytes.{word_at}
use Rattle.opcodes.specs.rules.Answers.{code_of, accepted}
use Rattle.opcodes.specs.declared.Dialect.{Dialect}
use Rattle.opcodes.specs.rules.Refusals as refusal
use Rattle.flash_session.specs.rules.Opening.{good_length, magic}
use Rattle.sent.specs.declared.Bus.{Bus}
use Rattle.host_answers.specs.rules.Hosts.{heard_all, opened_by}
use Rattle.host.specs.rules.Turn.{turned}
use Rattle.host_laws.specs.claims.Looks.{Fresh}
use Rattle.host_answers.specs.declared.Host.{Host}
use Rattle.host_answers.specs.declared.Opened.{Opened}
use Rattle.host_answers.specs.declared.Sending.TheVariants.{Nothing}
use Rattle.host_answers.specs.declared.Wait.TheVariants.{Greeting}

-- an image's first word is good; the tries are 1 to 1,000
abbrev pub has_magic : List ℕ → Bool
has_magic image = eqb (word_at image 0) magic

abbrev pub in_range : ℕ → Bool
in_range tries = leb 1 tries && leb tries 1000

-- 3, 4 and 20, and none of them
pub record OpeningCodes (image : List ℕ) (tries code : ℕ) : Type 0 where
  pub three : eqb code 3 ≡ not (good_length (length image))
  pub four : eqb code 4 ≡ (good_length (length image) && not (has_magic image))
  pub twenty : eqb code 20 ≡ (good_length (length image) && has_magic image && not (in_range tries))
  pub opens : eqb code 0 ≡ (good_length (length image) && has_magic image && in_range tries)

-- at the greeting, before the first command, as it was told
pub record AtGreeting (bus : Bus) (dialect : Dialect) (image : List ℕ) (tries limit pings : ℕ) (h : Host) : Type 0 where
  pub greeting : h.stage.wait ≡ Greeting
  pub offset : h.offset ≡ 4
  pub retries : h.retries ≡ 0
  pub fresh : Fresh h
  pub running : h.ended ≡ false
  pub same_bus : h.bus ≡ bus
  pub same_dialect : h.dialect ≡ dialect
  pub same_length : h.length ≡ length image
  pub same_tries : h.tries ≡ tries
  pub same_limit : h.limit ≡ limit
  pub same_pings : h.pings ≡ pings

-- whatever it hears and is lent, 14, nothing goes out, and it is as it was
pub record StaysEnded (h : Host) : Type 0 where
  pub ended : h.ended ≡ true
  pub ever : (bytes image : List ℕ) → turned (heard_all h bytes) image ≡ record { refusal = refusal.Ended; sending = Nothing; host = heard_all h bytes }

pub record Opening (bus : Bus) (dialect : Dialect) (image : List ℕ) (tries limit pings : ℕ) (o : Opened) : Type 0 where
  pub codes : OpeningCodes image tries (code_of o.refusal)
  pub opened : accepted o.refusal ≡ true → AtGreeting bus dialect image tries limit pings o.host
  pub refused : accepted o.refusal ≡ false → StaysEnded o.host

abbrev pub EveryOpening : Type 0
EveryOpening = (bus : Bus) (dialect : Dialect) (image : List ℕ) (tries limit pings : ℕ)
    → Opening bus dialect image tries limit pings (opened_by bus dialect image tries limit pings)

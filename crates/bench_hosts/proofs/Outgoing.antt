-- What goes out of an image is a part of it: only the words after an opcode do, and then the image is of the opening's length.
use Prim.Native.Nat.{ℕ, ◌+◌, ◌≤◌}
use mathlib.Core.List.{List}
use native.Mathlib.Omega.{arith}
use lib.ListN.{length}
use Rattle.words.proofs.Choice.{of_choice}
use Rattle.opcodes.specs.declared.Command.{Command}
use Rattle.flash_session.proofs.Lengths.{image_small}
use Rattle.host_laws.specs.claims.Looks.{repeated}
use Rattle.host_laws.specs.claims.Outgoing.{Begins, greeted, started, pinged, echoed, echoed_last, met, Words, Moves, passed, went, matched, sought}
use Rattle.host_laws.specs.claims.Outgoing.{Next, begins, moves, starts_over, closed, closes, done}
use Rattle.host_answers.specs.declared.Host.{Host}
use Rattle.host_answers.specs.declared.Sending.{Sending}
use Rattle.host_answers.specs.declared.Sending.TheVariants.{Stretch}
use Rattle.host_answers.specs.declared.Turned.{Turned}
use Rattle.host_answers.specs.declared.Wait.{Wait}
use Rattle.host_answers.specs.declared.Wait.TheVariants as wait
use Rattle.host_laws.proofs.TurnCases.{Looked, twenty, goes_on, goes, refuses, no_retry, no_seek, Way, over, another, looks, way}
use Rattle.bench_hosts.specs.claims.Outgoing.{InImage, EachInImage}

-- what a wait sends again is no stretch
repeated_in : (before : Wait) (h : Host) (image : List ℕ) → InImage (repeated before h image)
repeated_in wait.Greeting h image = tt
repeated_in wait.Start h image = tt
repeated_in wait.Ping h image = tt
repeated_in (wait.Echo k) h image = tt
repeated_in wait.Nothing h image = tt
repeated_in (wait.Opcode command end) h image = tt
repeated_in (wait.Over offset) h image = tt
repeated_in wait.Closing h image = tt

module _ {h : Host} {image : List ℕ} where
  begins_in : {before after : Wait} {out : Sending} → Begins h image before after out → InImage out
  begins_in greeted = tt
  begins_in started = tt
  begins_in pinged = tt
  begins_in (echoed more) = tt
  begins_in (echoed_last last) = tt
  begins_in (met stands sent) = tt

  words-in : {command : Command} {end : ℕ} → length image ≤ 65536 → Words h image command end → InImage (Stretch (h.offset + 4) end)
  words-in short words = (words.from, omega (arith, words.inside))

  moves_in : {before : Wait} {offset : ℕ} {out : Sending} → length image ≤ 65536 → Moves h image before offset out → InImage out
  moves_in short (passed stands skipped) = tt
  moves_in short (went words more) = words-in short words
  moves_in short (matched asks same) = tt
  moves_in short sought = tt

  next_in : {before : Wait} {g : Host} {out : Sending} → length image ≤ 65536 → Next h image before g out → InImage out
  next_in short (begins row) = begins_in row
  next_in short (moves row) = moves_in short row
  next_in short (starts_over other left led) = tt
  next_in short (closed words shuts dialect) = words-in short words
  next_in short (closes words shuts dialect) = words-in short words
  next_in short done = tt

  looked_in : {before : Wait} {t : Turned} → length image ≤ 65536 → Looked h image before t → InImage t.sending
  looked_in short (twenty failed same) = tt
  looked_in short (goes_on wrong more same left) = of_choice InImage h.ear.fresh (λ e. tt) (λ e. repeated_in h.stage.wait h image)
  looked_in short (goes heard row) = next_in short row
  looked_in short (refuses heard same plain) = tt
  looked_in short (no_retry heard other none) = tt
  looked_in short (no_seek heard other left lost) = tt

  way_in : {t : Turned} → Way h image t → InImage t.sending
  way_in (over ended idle) = tt
  way_in (another running other idle) = tt
  way_in (looks running lent turn look) = looked_in (image_small (length image) h.length lent) look

pub each_in_image : EachInImage
each_in_image h image = way_in (way h image)

-- What goes out of an image is a part of it, and the image is no longer than the longest.
use Rattle.std.specs.Prelude.{ℕ, ◌≤◌, List}
use Rattle.flash_session.specs.rules.Opening.{longest}
use Rattle.host.specs.rules.Turn.{turned}
use Rattle.host_answers.specs.declared.Host.{Host}
use Rattle.host_answers.specs.declared.Sending.{Sending}
use Rattle.host_answers.specs.declared.Sending.TheVariants.{Nothing, Start, Word, Stretch}

-- a stretch ends where an image may end, and not before it begins
abbrev pub InImage : Sending → Type 0
InImage Nothing = Unit {0}
InImage Start = Unit {0}
InImage (Word word) = Unit {0}
InImage (Stretch from to) = (from ≤ to) × (to ≤ longest)

-- of every turn
abbrev pub EachInImage : Type 0
EachInImage = (h : Host) (image : List ℕ) → InImage (turned h image).sending

-- The story carried out: the commands that make a call urgent in release 2 and in release 3 meet the premises, on a board with one set window over the option
-- word; in flash mode right behind the first word of an image, and on the line as the first command. So one sets bit 6 of the word, the other bit 7.
use Rattle.std.specs.Prelude.{ℕ, false, List, [], ◌∷◌, ◌≡◌, length, get_or, replicate, Some}
use Rattle.words.specs.rules.Bytes.{words_bytes}
use Rattle.windows.specs.rules.Map.{zero_window}
use Rattle.windows.specs.rules.Window.{place_of}
use Rattle.windows.specs.declared.Window.{Window}
use Rattle.windows.specs.declared.Right.TheVariants.{Set}
use Rattle.opcodes.specs.declared.Dialect.TheVariants.{Am17xx}
use Rattle.ledger.specs.rules.Totals.{is_spent}
use Rattle.flash_session.specs.rules.Opening.{magic, begun}
use Rattle.flash_session.specs.declared.Session.{Session}
use Rattle.flash.specs.rules.Step.{step_of}
use Rattle.machine_answers.specs.declared.Core.{Core}
use Rattle.sent.specs.rules.Opening.{at_start}
use Rattle.sent.specs.declared.Bus.{Bus}
use Rattle.field_lines.specs.rules.Text.{bytes_of}
use Rattle.field_laws.specs.claims.Meanings.{address_in, Made}
use Rattle.field_laws.specs.claims.Story.{story}
use Rattle.field_commands.specs.claims.CarriedOut.{of_call, of_words, FieldSet, StandsAt, Awaits, sent_words, ByUnits}

-- one set window, and its memory cleared
abbrev pub board : List Window
board = record { first = 0x80000000; length = 32; rights = 2 } ∷ replicate 7 zero_window

abbrev pub cleared : List ℕ
cleared = replicate 32 0

-- urgent, in release 2 and in release 3
abbrev pub in_two : List ℕ
in_two = 0x58535907 ∷ 0x00060603 ∷ 0x80000010 ∷ 1 ∷ 0 ∷ []

abbrev pub in_three : List ℕ
in_three = 0x58535907 ∷ 0x00070703 ∷ 0x80000010 ∷ 1 ∷ 0 ∷ []

-- the image of a command, a flash session at it, and a sent one that awaits it
abbrev pub image_of : List ℕ → List ℕ
image_of words = words_bytes (magic ∷ words)

abbrev pub in_flash : List ℕ → Session
in_flash words = (begun Am17xx board (length (image_of words)) 0).session

abbrev pub on_line : Core
on_line = (at_start Am17xx board false).core

-- the premises, and what comes of them
pub record Urgent (release : ℕ) (words : List ℕ) (becomes : ℕ) : Type 0 where
  pub made : Made story (bytes_of "priority") release 1 words
  pub over : place_of board Set (address_in words) 4 ≡ Some 16
  pub stands : StandsAt (in_flash words) cleared (image_of words) words
  pub awaits : Awaits on_line cleared
  pub numbers : (is_spent (in_flash words).totals ≡ false) × (is_spent on_line.tally.totals ≡ false)
  pub called : FieldSet words 1 16 0 cleared (of_call (step_of (in_flash words) cleared (image_of words)))
  pub sent : FieldSet words 1 16 0 cleared (of_words (sent_words on_line cleared words))
  pub by_units : (bus : Bus) → ByUnits bus on_line cleared words 1
  -- the byte of the option word that has the bit
  pub option : get_or (step_of (in_flash words) cleared (image_of words)).memory 16 0 ≡ becomes

pub record StoryCarriedOut : Type 0 where
  pub before : Urgent 2 in_two 0x40
  pub after : Urgent 3 in_three 0x80

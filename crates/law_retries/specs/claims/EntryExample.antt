-- A worked instance on either line and in either dialect, and a counterexample: an option word is chosen, and an attempt sets two fields of it in the wrong
-- order.
use Rattle.std.specs.Prelude.{ℕ, true, List, [], ◌∷◌, ◌++◌, ◌≡◌, replicate}
use Rattle.opcodes.specs.declared.Dialect.{Dialect}
use Rattle.bit_stamps.specs.rules.Stamps.{entry_at}
use Rattle.sent.specs.rules.Bus.{all_units}
use Rattle.sent.specs.declared.Bus.{Bus}
use Rattle.law_retries.specs.claims.Example.{start}
use Rattle.law_retries.specs.claims.Pieces.{Piece, setting, all_words}
use Rattle.law_retries.specs.claims.Retries.{Begins, Attempt, attempt_words, Accepted, NotAlone, Retried}
use Rattle.bit_watch.specs.rules.Watched.{entries_after}
use Rattle.law_retries.specs.claims.Entries.{NoEntryLeft}

-- the first word is chosen, with no number yet
abbrev pub chosen : List ℕ
chosen = 0 ∷ []

abbrev pub none : List ℕ
none = replicate 64 0

-- the entry of a bit of it after some words, in a session that numbers its commands, the checksum on
abbrev pub entry_of : Bus → Dialect → List ℕ → ℕ → ℕ
entry_of bus dialect words k = entry_at (entries_after bus chosen none (start bus dialect) (all_units bus words)) 0 k

-- the attempt: bits 8 to 11, then bits 4 to 6
abbrev pub swapped : Attempt
swapped = record { pieces = setting 0x000B0803 0x80000000 0xF 0 ∷ setting 0x00060403 0x80000000 2 0 ∷ []; asked = true }

-- what was meant: bits 4 to 6, then bits 8 to 11; and the same without bit 6
abbrev pub settings_from : ℕ → List Piece
settings_from field = setting field 0x80000000 1 0 ∷ setting 0x000B0803 0x80000000 2 0 ∷ []

abbrev pub meant : List Piece
meant = settings_from 0x00060403

abbrev pub missing : List Piece
missing = settings_from 0x00050403

-- the premises are met; the attempt gives its numbers, and what was meant takes them for its own bits; a bit that is never written has none
pub record NumbersAgain (bus : Bus) (dialect : Dialect) : Type 0 where
  pub retried : Retried bus (start bus dialect) (attempt_words swapped) swapped.pieces meant
  pub no_entry : NoEntryLeft bus (start bus dialect) (attempt_words swapped) (all_words meant)
  pub attempt_low : entry_of bus dialect (attempt_words swapped) 6 ≡ 2
  pub attempt_high : entry_of bus dialect (attempt_words swapped) 8 ≡ 1
  pub low : entry_of bus dialect (attempt_words swapped ++ all_words meant) 6 ≡ 1
  pub high : entry_of bus dialect (attempt_words swapped ++ all_words meant) 8 ≡ 2
  pub unwritten : entry_of bus dialect (attempt_words swapped ++ all_words meant) 7 ≡ 0

-- bit 6 is written in the attempt only, and all else is met: it keeps the number of that command, which has gone to another since; never tried, it has none
pub record KeepsItsNumber (bus : Bus) (dialect : Dialect) : Type 0 where
  pub begins : Begins (start bus dialect)
  pub not_alone : NotAlone (start bus dialect) (attempt_words swapped)
  pub accepted : Accepted bus (start bus dialect) (attempt_words swapped) swapped.pieces missing
  pub kept : entry_of bus dialect (attempt_words swapped ++ all_words missing) 6 ≡ 2
  pub gone : entry_of bus dialect (attempt_words swapped ++ all_words missing) 8 ≡ 2
  pub never_tried : entry_of bus dialect (all_words missing) 6 ≡ 0
  pub never_gone : entry_of bus dialect (all_words missing) 8 ≡ 2
  pub trace : NoEntryLeft bus (start bus dialect) (attempt_words swapped) (all_words missing) → ⊥

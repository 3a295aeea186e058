-- An image of the survey: its outcome, the option word that its run leaves, and how many bits of it are one or unlike another's.
use Rattle.std.specs.Prelude.{ℕ, Bool, true, false, ◌&&◌, List, Result, Ok, Err, bit_xor, codes, count_ones}
use Rattle.words.specs.rules.Bytes.{word_at}
use Rattle.words.specs.rules.Choice.{pick}
use Rattle.opcodes.specs.declared.Dialect.TheVariants.{Am17xx}
use Rattle.opcodes.specs.declared.Refusal.{Refusal}
use Rattle.flash_runs.specs.rules.Run.{ran_from}
use Rattle.checking.specs.rules.Report.{cleared, opened, report_of}
use Rattle.survey.specs.declared.Image.{Image}
use Rattle.survey.specs.declared.Outcome.{Outcome}
use Rattle.survey.specs.declared.Outcome.TheVariants.{Entered, Refused, Absent}

-- what the check program's run of an image leaves of cleared memory; a refused opening runs nothing
unfoldable pub memory_left : List ℕ → List ℕ
memory_left image = (ran_from (opened Am17xx image) cleared image).memory

-- the word of an outcome, as it is written
abbrev pub word_of : Outcome → List ℕ
word_of Entered = codes "entered"
word_of Refused = codes "refused"
word_of Absent = codes "absent"

-- the outcome of an opened Am17xx image, by how its run ended
abbrev pub ended : Result ℕ Refusal → Outcome
ended (Ok entry) = Entered
ended (Err refusal) = Refused

-- an opened Am17xx image: it entered where the check program says so, and its option word is the one at 0x80000000, the window's first
unfoldable pub image_of : List ℕ → Image
image_of image = record { outcome = ended (report_of Am17xx image).end; word = word_at (memory_left image) 0 }

-- a name that can't be opened
abbrev pub absent : Image
absent = record { outcome = Absent; word = 0 }

-- was an image opened?
abbrev pub was_opened : Outcome → Bool
was_opened Entered = true
was_opened Refused = true
was_opened Absent = false

abbrev pub is_opened : Image → Bool
is_opened i = was_opened i.outcome

-- set: the one bits of its option word; 0 where it is absent
unfoldable pub set_of : Image → ℕ
set_of i = pick (is_opened i) (count_ones i.word) 0

-- differ: the bits of its option word unlike those of the last image opened; 0 where there is none, or it is absent itself
unfoldable pub unlike : Image → Image → ℕ
unlike last i = pick (is_opened last && is_opened i) (count_ones (bit_xor last.word i.word)) 0

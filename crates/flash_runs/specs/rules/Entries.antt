-- The entries beside a flash session: after each call those of the bits that it tells that it wrote have its number, all others are kept. So
-- have a second row of entries its offset in the image.
use Rattle.std.specs.Prelude.{ℕ, zero, suc, List}
use Rattle.words.specs.rules.Choice.{pick}
use Rattle.commands.specs.rules.Wrote.{renumbered}
use Rattle.commands.specs.declared.Wrote.{Wrote}
use Rattle.bit_stamps.specs.rules.Stamps.{stamped}
use Rattle.flash_session.specs.rules.Sessions.{CallOutcome}
use Rattle.flash.specs.rules.Step.{step_of}
use Rattle.flash_session.specs.declared.Called.{Called}
use Rattle.flash_session.specs.declared.Opened.{Opened}
use Rattle.flash_session.specs.declared.Session.{Session}
use Rattle.flash_runs.specs.rules.Run.{goes_on, enough, opens}

-- what a call wrote, by its number
abbrev pub number_wrote : Called → Wrote
number_wrote a = a.wrote

-- and by its offset in the image
abbrev pub offset_wrote : Called → Wrote
offset_wrote a = renumbered a.at a.wrote

-- the entries after a call of a session; what is stamped is told of its answer
abbrev pub call_stamps : (Called → Wrote) → List ℕ → List ℕ → Session → List ℕ → List ℕ → List ℕ
call_stamps tell places entries s m image = stamped entries places (tell (step_of s m image).answer)

-- after a call with this outcome, and at most n calls more while the session goes on
unfoldable pub stamps_on : (Called → Wrote) → ℕ → List ℕ → List ℕ → CallOutcome → List ℕ → List ℕ
stamps_on tell zero places entries o image = stamped entries places (tell o.answer)
stamps_on tell (suc n) places entries o image =
    pick (goes_on o.answer)
    (stamps_on tell n places (stamped entries places (tell o.answer)) (step_of o.answer.session o.memory image) image)
    (stamped entries places (tell o.answer))

-- after a run to the session's end
unfoldable pub run_stamps : (Called → Wrote) → List ℕ → List ℕ → Session → List ℕ → List ℕ → List ℕ
run_stamps tell places entries s m image = stamps_on tell (enough s) places entries (step_of s m image) image

-- after a run from an opening; a refused one leaves them as they were
unfoldable pub stamps_from : (Called → Wrote) → List ℕ → List ℕ → Opened → List ℕ → List ℕ → List ℕ
stamps_from tell places entries o m image = pick (opens o) (run_stamps tell places entries o.session m image) entries

-- the entries of numbers
abbrev pub call_entries : List ℕ → List ℕ → Session → List ℕ → List ℕ → List ℕ
call_entries = call_stamps number_wrote

abbrev pub run_entries : List ℕ → List ℕ → Session → List ℕ → List ℕ → List ℕ
run_entries = run_stamps number_wrote

abbrev pub entries_from : List ℕ → List ℕ → Opened → List ℕ → List ℕ → List ℕ
entries_from = stamps_from number_wrote

-- those of offsets
abbrev pub call_offsets : List ℕ → List ℕ → Session → List ℕ → List ℕ → List ℕ
call_offsets = call_stamps offset_wrote

abbrev pub run_offsets : List ℕ → List ℕ → Session → List ℕ → List ℕ → List ℕ
run_offsets = run_stamps offset_wrote

abbrev pub offsets_from : List ℕ → List ℕ → Opened → List ℕ → List ℕ → List ℕ
offsets_from = stamps_from offset_wrote

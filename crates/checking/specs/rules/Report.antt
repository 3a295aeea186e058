-- What the check program reports of an image: one window, memory of zeros, retry limit 0, waits skipped.
use Rattle.std.specs.Prelude.{ℕ, List, ◌∷◌, replicate, Some, None, Result, Ok, Err}
use Rattle.windows.specs.rules.Map.{zero_window}
use Rattle.windows.specs.declared.Window.{Window}
use Rattle.opcodes.specs.rules.Answers.{number_of, value_of}
use Rattle.opcodes.specs.declared.Dialect.{Dialect}
use Rattle.opcodes.specs.declared.Event.{Event}
use Rattle.opcodes.specs.declared.Refusal.{Refusal}
use Rattle.opcodes.specs.rules.Refusals.{Verdict}
use Rattle.flash_session.specs.rules.Opening.{opened_by}
use Rattle.flash_session.specs.declared.Called.{Called}
use Rattle.flash_session.specs.declared.Opened.{Opened}
use Rattle.flash_runs.specs.rules.Run.{ran_from}
use Rattle.checking.specs.declared.Report.{Report}

-- a map of one window that has all rights
abbrev pub one_window : ℕ → ℕ → List Window
one_window first size = record { first = first; length = size; rights = 7 } ∷ replicate 7 zero_window

-- the window 0x80000000, length 4,096, rights 7
abbrev pub windows : List Window
windows = one_window 0x80000000 4096

-- its memory, of zeros
abbrev pub cleared : List ℕ
cleared = replicate 4096 0

-- the opening of an image with this window, of one window, and retry limit 0
abbrev pub opened : Dialect → List ℕ → Opened
opened dialect image = opened_by dialect 1 windows image 0

-- how a run ended: at the entry where nothing is refused, else with the refusal
abbrev pub end_of : Verdict → Event → Result ℕ Refusal
end_of None event = Ok (value_of event)
end_of (Some q) event = Err q

-- the number of a report, 0 where it entered; and its entry, 0 where it is refused
abbrev pub code_of_end : Result ℕ Refusal → ℕ
code_of_end (Ok entry) = 0
code_of_end (Err q) = number_of q

abbrev pub entry_of_end : Result ℕ Refusal → ℕ
entry_of_end (Ok entry) = entry
entry_of_end (Err q) = 0

abbrev pub code_told : Report → ℕ
code_told r = code_of_end r.end

abbrev pub entry_told : Report → ℕ
entry_told r = entry_of_end r.end

-- what is reported of the last answer
abbrev pub reported : Called → Report
reported a = record { end = end_of a.refusal a.event; at = a.at; crc = a.session.checksum; retries = a.session.retries }

-- the last answer: of a run over memory of zeros, or of the refused opening
unfoldable pub last_answer : List ℕ → Opened → Called
last_answer image o = (ran_from o cleared image).answer

unfoldable pub report_of : Dialect → List ℕ → Report
report_of dialect image = reported (last_answer image (opened dialect image))

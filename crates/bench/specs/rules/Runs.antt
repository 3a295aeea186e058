-- One whole flash run for the bench: from the map's bytes to one number and the memory.
use Rattle.std.specs.Prelude.{ℕ, ◌+◌, ◌*◌, ◌/◌, ◌^◌, List}
use Rattle.opcodes.specs.rules.Answers.{code_of}
use Rattle.opcodes.specs.declared.Dialect.{Dialect}
use Rattle.flash_session.specs.rules.Opening.{opened_by}
use Rattle.flash_session.specs.rules.Sessions.{CallOutcome}
use Rattle.flash_session.specs.declared.Called.{Called}
use Rattle.flash_runs.specs.rules.Run.{ran_from}
use Rattle.bench_sessions.specs.rules.Map.{windows_of, count_of}

-- a run of an image in a dialect, on a map's bytes and the memory
abbrev pub flash_run : Dialect → List ℕ → List ℕ → List ℕ → ℕ → CallOutcome
flash_run dialect map memory image limit = ran_from (opened_by dialect (count_of map) (windows_of map) image limit) memory image

-- an answer in one number: refusal, retries, offset of the last command in words, checksum
unfoldable pub reported : Called → ℕ
reported a =
    code_of a.refusal * 2 ^ 56 + a.session.retries * 2 ^ 48 + a.at / 4 * 2 ^ 32 + a.session.checksum

-- the value that the bench gets
abbrev pub flash_value : Dialect → List ℕ → List ℕ → List ℕ → ℕ → ℕ
flash_value dialect map memory image limit = reported (flash_run dialect map memory image limit).answer

-- the memory that the run leaves
abbrev pub flash_memory : Dialect → List ℕ → List ℕ → List ℕ → ℕ → List ℕ
flash_memory dialect map memory image limit = (flash_run dialect map memory image limit).memory

-- The same whole flash run, asked for the words that it fetched: one number, and the memory that the run leaves.
use Rattle.std.specs.Prelude.{ℕ, ◌+◌, ◌*◌, ◌^◌, List}
use Rattle.opcodes.specs.rules.Answers.{code_of}
use Rattle.opcodes.specs.declared.Dialect.{Dialect}
use Rattle.flash_session.specs.declared.Called.{Called}
use Rattle.bench.specs.rules.Runs.{flash_run}

-- an answer in one number: refusal, words fetched since the opening
unfoldable pub fetched_report : Called → ℕ
fetched_report a = code_of a.refusal * 2 ^ 32 + a.session.fetched

-- the value that the bench gets
abbrev pub fetched_value : Dialect → List ℕ → List ℕ → List ℕ → ℕ → ℕ
fetched_value dialect map memory image limit = fetched_report (flash_run dialect map memory image limit).answer

-- What is told of the words that an image fetches, in the check program's window and from memory of zeros: how many, next to the most that it may.
use Rattle.std.specs.Prelude.{ℕ, ◌/◌, List, length}
use Rattle.words.specs.rules.Choice.{pick}
use Rattle.opcodes.specs.rules.Answers.{code_of}
use Rattle.opcodes.specs.declared.Dialect.TheVariants.{Am17xx}
use Rattle.flash_session.specs.rules.Opening.{good_length, opened_by}
use Rattle.flash_session.specs.declared.Called.{Called}
use Rattle.flash_runs.specs.claims.Ceiling.{ceiling}
use Rattle.checking.specs.rules.Report.{windows, last_answer}
use Rattle.checking.specs.declared.Counted.{Counted}

-- the ceiling for an image of so many bytes; what is no image fetches none
unfoldable pub most_of : ℕ → ℕ → ℕ
most_of n limit = pick (good_length n) (ceiling limit (n / 4)) 0

-- what is told of the last answer to an image of so many bytes
abbrev pub counted : ℕ → ℕ → Called → Counted
counted n limit a = record { code = code_of a.refusal; fetched = a.session.fetched; ceiling = most_of n limit }

unfoldable pub counted_of : List ℕ → ℕ → Counted
counted_of image limit = counted (length image) limit (last_answer image (opened_by Am17xx 1 windows image limit))

-- The most words that a boot fetches, for any calls after an opening, whatever is lent to each; and that an image meets it.
use Rattle.std.specs.Prelude.{ℕ, ◌+◌, ◌*◌, ◌/◌, ◌≤◌, true, false, List, [], ◌∷◌, ◌≡◌, length, replicate}
use Rattle.windows.specs.rules.Map.{zero_window}
use Rattle.opcodes.specs.declared.Dialect.TheVariants.{Am17xx}
use Rattle.flash_laws.specs.claims.Reached.{opened_to, Reached, opened, called}
use Rattle.flash.specs.rules.Step.{step_of}
use Rattle.flash_session.specs.declared.Session.{Session}
use Rattle.flash_runs.specs.rules.Run.{run_of}
use Rattle.flash_runs.specs.claims.Fetched.{limit_of}

-- the words of the image that was lent to the opening
unfoldable pub words_of : {s : Session} → Reached s → ℕ
words_of (opened numbers dialect count windows image limit) = length image / 4
words_of (called lent before) = words_of before

-- an image of so many words, with a retry limit
abbrev pub ceiling : ℕ → ℕ → ℕ
ceiling limit words = (limit + 1) * words

pub record Ceiling : Type 0 where
  -- while the session runs: the image once for each retry, and the words before the offset
  pub running : {s : Session} (reached : Reached s) → s.ended ≡ false → s.fetched ≤ s.retries * words_of reached + s.offset / 4
  -- always
  pub always : {s : Session} (reached : Reached s) → s.fetched ≤ ceiling (limit_of reached) (words_of reached)
  -- so also after a run of any one image
  pub run : {s : Session} (reached : Reached s) (m image : List ℕ)
      → (run_of s m image).answer.session.fetched ≤ ceiling (limit_of reached) (words_of reached)

-- an image of three words with no retry: the magic word, a Jump & Close, its address
abbrev pub three_words : List ℕ
three_words = 0x54 ∷ 0x49 ∷ 0x50 ∷ 0x41 ∷ 0x06 ∷ 0x59 ∷ 0x53 ∷ 0x58 ∷ 0 ∷ 0 ∷ 0 ∷ 0x80 ∷ []

-- it is opened on a window of four bytes, its commands numbered, and entered
abbrev pub at_opening : Session
at_opening = (opened_to true Am17xx 1 (record { first = 0x80000000; length = 4; rights = 7 } ∷ replicate 7 zero_window) three_words 0).session

abbrev pub at_end : Session
at_end = (step_of at_opening (replicate 4 0) three_words).answer.session

-- it fetches its three words, which is the ceiling
pub record CeilingMet : Type 0 where
  pub fetched : at_end.fetched ≡ 3
  pub most : ceiling 0 (length three_words / 4) ≡ 3

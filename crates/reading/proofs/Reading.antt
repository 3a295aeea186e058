-- How a command is read, by the facts that the tests ask: each law takes the tests of a definition one after the other.
use Prim.Native.Nat.{ℕ, ◌+◌, ◌*◌, ◌≤◌, ◌<◌}
use mathlib.Core.Bool.{true, false, not}
use mathlib.Core.List.{List}
use mathlib.Core.Path.{◌≡◌, refl, ap, subst, ◌∙◌}
use lib.ListN.{length}
use borrow.Author.Tests.{le-leb, lt-leb, leb-true, leb-false, not-true, not-false}
use Rattle.std.specs.declared.result.Result.{Result}
use Rattle.std.specs.declared.result.Result.TheVariants.{Ok, Err}
use Rattle.words.specs.rules.Bytes.{word_at}
use Rattle.words.proofs.Choice.{chosen, passed, of_choice}
use Rattle.opcodes.specs.rules.Opcodes.{looked_up, with_words}
use Rattle.opcodes.specs.declared.Command.{Command}
use Rattle.opcodes.specs.declared.Command.TheVariants.{Load, Fill, BootTable, Enable, Disable, Request, StartOver, JumpAndClose, Ping, SequentialRead}
use Rattle.opcodes.specs.declared.Dialect.{Dialect}
use Rattle.opcodes.specs.declared.Mode.TheVariants.{Flash}
use Rattle.opcodes.specs.declared.Refusal.TheVariants as refusal
use Rattle.opcodes.specs.declared.Known.{Known}
use Rattle.opcodes.specs.declared.Refusal.{Refusal}
use Rattle.opcodes.proofs.Looked.{Looked, of_row, of_none, of_retired, looked}
use Rattle.reading.specs.rules.Reading.{present, words_from, past_words, data_size, unread, read_as, read_at}
use Rattle.reading.specs.declared.Unread.{Unread}

module _ (image : List ℕ) where
  -- words that are there, and words that are not
  pub there : (at n : ℕ) → at + 4 * n ≤ length image → present image at n ≡ true
  unfolding present
  there at n h = le-leb _ _ h

  pub lacking : (at n : ℕ) → length image < at + 4 * n → present image at n ≡ false
  unfolding present
  lacking at n h = lt-leb _ _ h

  -- and what the test says of them
  pub are_there : (at n : ℕ) → present image at n ≡ true → at + 4 * n ≤ length image
  unfolding present
  are_there at n e = leb-true _ _ e

  pub are_lacking : (at n : ℕ) → present image at n ≡ false → length image < at + 4 * n
  unfolding present
  are_lacking at n e = leb-false _ _ e

  module _ (offset : ℕ) where
    -- a row whose argument words are cut short, and one whose words are there
    module _ {found : Result Known Refusal} {command : Command} {words : ℕ} (known : found ≡ Ok (with_words command words)) where
      pub row_short : length image < past_words offset words → read_as image offset found ≡ Err (unread refusal.Missing (words_from image offset))
      row_short h = ap (read_as image offset) known ∙ chosen _ _ _ (ap not (lacking offset (1 + words) h))

      pub row_whole : past_words offset words ≤ length image → read_as image offset found ≡ Ok (with_words command words)
      row_whole h = ap (read_as image offset) known ∙ passed _ _ _ (ap not (there offset (1 + words) h))

    module _ (dialect : Dialect) where
      -- no opcode, and one
      pub read_none : length image < offset + 4 → read_at image offset dialect ≡ Err (unread refusal.Missing 0)
      unfolding read_at
      read_none h = chosen _ _ _ (ap not (lacking offset 1 h))

      pub read_row : offset + 4 ≤ length image → read_at image offset dialect ≡ read_as image offset (looked_up (word_at image offset) Flash dialect)
      unfolding read_at
      read_row h = passed _ _ _ (ap not (there offset 1 h))

      -- the ways of reading
      pub data Reads : Result Known Unread → Type 0 where
        no_opcode : length image < offset + 4 → Reads (Err (unread refusal.Missing 0))
        unknown : offset + 4 ≤ length image → looked_up (word_at image offset) Flash dialect ≡ Err refusal.Opcode → Reads (Err (unread refusal.Opcode 1))
        retired : offset + 4 ≤ length image → looked_up (word_at image offset) Flash dialect ≡ Err refusal.Retired → Reads (Err (unread refusal.Retired 1))
        cut_short : {command : Command} {words : ℕ} → offset + 4 ≤ length image → looked_up (word_at image offset) Flash dialect ≡ Ok (with_words command words)
            → length image < past_words offset words → Reads (Err (unread refusal.Missing (words_from image offset)))
        whole : {command : Command} {words : ℕ} → looked_up (word_at image offset) Flash dialect ≡ Ok (with_words command words)
            → past_words offset words ≤ length image → Reads (Ok (with_words command words))

      by_row : {found : Result Known Refusal} → Looked found → looked_up (word_at image offset) Flash dialect ≡ found → offset + 4 ≤ length image
          → Reads (read_as image offset found)
      by_row of_none e here = unknown here e
      by_row of_retired e here = retired here e
      by_row (of_row known) e here =
          of_choice Reads _ (λ short. cut_short here e (are_lacking offset (1 + known.words) (not-true _ short)))
          (λ long. whole e (are_there offset (1 + known.words) (not-false _ long)))

      pub reads : Reads (read_at image offset dialect)
      unfolding read_at
      reads =
          of_choice Reads _ (λ none. no_opcode (are_lacking offset 1 (not-true _ none)))
          (λ some. by_row (looked (word_at image offset) Flash dialect) refl (are_there offset 1 (not-false _ some)))

      -- a command that is read has its words there
      abbrev Ends : Result Known Unread → Type 0
      Ends (Ok known) = past_words offset known.words ≤ length image
      Ends (Err said) = Unit {0}

      ends : {r : Result Known Unread} → Reads r → Ends r
      ends (no_opcode short) = tt
      ends (unknown here e) = tt
      ends (retired here e) = tt
      ends (cut_short here e short) = tt
      ends (whole e long) = long

      pub whole_there : {command : Command} {words : ℕ} → read_at image offset dialect ≡ Ok (with_words command words) → past_words offset words ≤ length image
      whole_there e = subst Ends e (ends reads)

-- a command that is no load has no data
pub no_load : (k : Command) (image : List ℕ) (offset : ℕ) → (k ≡ Load → ⊥)
    → 0 ≡ data_size k image offset
no_load Load image offset other = absurd (other refl)
no_load Fill image offset other = refl
no_load BootTable image offset other = refl
no_load Enable image offset other = refl
no_load Disable image offset other = refl
no_load Request image offset other = refl
no_load StartOver image offset other = refl
no_load JumpAndClose image offset other = refl
no_load Ping image offset other = refl
no_load SequentialRead image offset other = refl

-- What the totals of the word machine come to (02, request 5): with no retry they count the loads and fills that were accepted; a DM648 that enters was told
-- them, and says DONE.
use Rattle.std.specs.Prelude.{ℕ, ◌-◌, List, [], ◌∷◌, ◌++◌, ◌≢◌, ◌≡◌, eqb, Ok}
use Rattle.words.specs.rules.Choice.{pick}
use Rattle.opcodes.specs.rules.Opcodes.{by_writing, looked_up, with_words}
use Rattle.opcodes.specs.declared.Command.{Command}
use Rattle.opcodes.specs.declared.Command.TheVariants as command
use Rattle.opcodes.specs.declared.Dialect.TheVariants.{Am17xx, Dm648}
use Rattle.opcodes.specs.declared.Event.TheVariants.{Enter}
use Rattle.opcodes.specs.declared.Mode.TheVariants.{Sent}
use Rattle.opcodes.specs.rules.Refusals.{None}
use Rattle.ledger.specs.claims.Agreement.{plus}
use Rattle.ledger.specs.rules.Totals.{standing}
use Rattle.machine_answers.specs.rules.Answers.{quiet, ◌leaving◌}
use Rattle.machine_commands.specs.rules.Performed.{none_kept}
use Rattle.machine.specs.rules.Machine.{word_step}
use Rattle.machine_answers.specs.rules.Replies.{farewell, sent_bytes}
use Rattle.machine.specs.claims.Words.{after_words}
use Rattle.machine_answers.specs.declared.Core.{Core}
use Rattle.machine_answers.specs.declared.Kept.{Kept}
use Rattle.machine_answers.specs.declared.Phase.{Phase}
use Rattle.machine_answers.specs.declared.Phase.TheVariants as phase

-- the size that a command counts for: that of a load or a fill
abbrev pub size_of : Command → Kept → ℕ → List ℕ
size_of command kept word = by_writing command (word ∷ []) (kept.second ∷ []) [] []

-- the words that were kept of a command, and the size that it counts for at its last argument word
abbrev pub kept_before : Phase → Kept
kept_before phase.Opcode = none_kept
kept_before (phase.Argument command left kept) = kept
kept_before (phase.Data end left) = none_kept
kept_before (phase.Echo n) = none_kept

abbrev pub sizes_at : Phase → ℕ → List ℕ
sizes_at phase.Opcode word = []
sizes_at (phase.Argument command left kept) word = pick (eqb (left - 1) 0) (size_of command kept word) []
sizes_at (phase.Data end left) word = []
sizes_at (phase.Echo n) word = []

-- no word is refused, and none is taken as Start-Over
unfoldable pub NoRetry : Core → List ℕ → List ℕ → Type 0
NoRetry k m [] = Unit {0}
NoRetry k m (word ∷ words) =
    ((word_step k m word).answer.refusal ≡ None)
    × (k.stage.phase ≡ phase.Opcode → looked_up word Sent k.dialect ≢ Ok (with_words command.StartOver 0))
    × NoRetry (word_step k m word).answer.core (word_step k m word).memory words

-- the sizes of the loads and fills among some words
unfoldable pub sizes_of : Core → List ℕ → List ℕ → List ℕ
sizes_of k m [] = []
sizes_of k m (word ∷ words) = sizes_at k.stage.phase word ++ sizes_of (word_step k m word).answer.core (word_step k m word).memory words

-- a word that enters is the last of a Jump & Close: in DM648 the two words were the totals, and DONE is said; in AM17xx nothing is
pub record Entering (k : Core) (m : List ℕ) (word : ℕ) : Type 0 where
  pub told : k.dialect ≡ Dm648 → k.tally.totals.now ≡ standing (kept_before k.stage.phase).third word
  pub reply : (word_step k m word).answer.reply ≡ farewell k.dialect

pub record WordsCount : Type 0 where
  -- with no retry the totals of a DM648 are those before, and a section with its size for each load and fill
  pub counts : (k : Core) (m words : List ℕ) → k.dialect ≡ Dm648 → NoRetry k m words
      → (after_words (quiet k leaving m) words).answer.core.tally.totals.now ≡ plus k.tally.totals.now (sizes_of k m words)
  pub enters : (k : Core) (m : List ℕ) (word entry : ℕ) → (word_step k m word).answer.event ≡ Enter entry → Entering k m word
  -- DONE is said by a DM648, and by no other
  pub says : (sent_bytes (farewell Dm648) ≡ 0x44 ∷ 0x4F ∷ 0x4E ∷ 0x45 ∷ []) × (sent_bytes (farewell Am17xx) ≡ [])

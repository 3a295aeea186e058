-- Whole words, one after the other, and what the opcode table makes of them: the words of a command do what the command does.
use Rattle.std.specs.Prelude.{ℕ, suc, ◌+◌, List, [], ◌∷◌, ◌≡◌, length, Ok}
use Rattle.opcodes.specs.rules.Opcodes.{looked_up, with_words}
use Rattle.opcodes.specs.declared.Command.{Command}
use Rattle.opcodes.specs.declared.Mode.TheVariants.{Sent}
use Rattle.machine_answers.specs.rules.Answers.{WordOutcome, await}
use Rattle.machine_commands.specs.rules.Performed.{none_kept, performed}
use Rattle.machine.specs.rules.Machine.{keeping, begun, opening, word_step}
use Rattle.machine_answers.specs.declared.Core.{Core}
use Rattle.machine_answers.specs.declared.Kept.{Kept}
use Rattle.machine_answers.specs.declared.Phase.TheVariants.{Opcode, Argument}

-- some more words after an outcome: that of the last of them
unfoldable pub after_words : WordOutcome → List ℕ → WordOutcome
after_words o [] = o
after_words o (w ∷ ws) = after_words (word_step o.answer.core o.memory w) ws

-- the words kept once some have come
unfoldable pub kept_after : Kept → List ℕ → Kept
kept_after kept [] = kept
kept_after kept (w ∷ ws) = kept_after (keeping kept w) ws

-- a core that awaits so many argument words of a command
abbrev pub asking : Core → Command → ℕ → Kept → Core
asking k command left kept = await k k.tally (Argument command left kept)

-- a command with its argument words, done at the last of them
unfoldable pub done_at_last : Command → Core → List ℕ → Kept → ℕ → List ℕ → WordOutcome
done_at_last command k m kept word [] = performed command (asking k command 1 kept) m kept word
done_at_last command k m kept word (next ∷ rest) = done_at_last command k m (keeping kept word) next rest

-- a command with all its words: one that has none is done at its opcode
abbrev pub done_with : ℕ → Command → Core → List ℕ → List ℕ → WordOutcome
done_with opcode command k m [] = opening opcode (performed command k m none_kept 0)
done_with opcode command k m (word ∷ rest) = done_at_last command k m none_kept word rest

-- from a core that awaits an opcode, an opcode that sent mode allows and some of the words that its row has
pub record ByTheTable : Type 0 where
  -- all of them: what the command does
  pub done : (k : Core) (m : List ℕ) (opcode : ℕ) (command : Command) (words : ℕ) (arguments : List ℕ)
      → k.stage.phase ≡ Opcode → looked_up opcode Sent k.dialect ≡ Ok (with_words command words) → length arguments ≡ words
      → after_words (word_step k m opcode) arguments ≡ done_with opcode command (begun command k) m arguments
  -- fewer: nothing but that the others are awaited
  pub waits : (k : Core) (m : List ℕ) (opcode : ℕ) (command : Command) (words : ℕ) (arguments : List ℕ) (left : ℕ)
      → k.stage.phase ≡ Opcode → looked_up opcode Sent k.dialect ≡ Ok (with_words command words) → length arguments + suc left ≡ words
      → ((after_words (word_step k m opcode) arguments).answer.core ≡ asking (begun command k) command (suc left) (kept_after none_kept arguments))
      × ((after_words (word_step k m opcode) arguments).memory ≡ m)
  -- the three that came last are kept, in the order in which they came
  pub kept : (before : Kept) (first second third : ℕ)
      → kept_after before (first ∷ second ∷ third ∷ []) ≡ record { first = first; second = second; third = third }

-- The words of a command do what the command does, whatever the command: its opcode sets how many words are to come, each word but the last is kept and
-- counted down, and at the last the one definition is met. By induction over the words; no case goes by the command.
use Prim.Native.Nat.{ℕ, suc, ◌+◌, ◌-◌}
use mathlib.Core.List.{List, [], ◌∷◌, ◌++◌}
use mathlib.Core.Path.{◌≡◌, refl, sym, ap, subst, ◌∙◌}
use native.Mathlib.Omega.{arith}
use lib.ListN.{length}
use borrow.Author.Tests.{eq-eqb, ne_eqb}
use Rattle.std.specs.declared.result.Result.{Result}
use Rattle.std.specs.declared.result.Result.TheVariants.{Ok}
use Rattle.words.specs.rules.Choice.{pick}
use Rattle.words.proofs.Choice.{chosen, passed}
use Rattle.opcodes.specs.rules.Opcodes.{looked_up, with_words}
use Rattle.opcodes.specs.declared.Command.{Command}
use Rattle.opcodes.specs.declared.Mode.TheVariants.{Sent}
use Rattle.opcodes.specs.declared.Known.{Known}
use Rattle.opcodes.specs.declared.Refusal.{Refusal}
use Rattle.machine_answers.specs.rules.Answers.{WordOutcome, said, quiet, ◌leaving◌}
use Rattle.machine_commands.specs.rules.Performed.{none_kept, performed}
use Rattle.machine.specs.rules.Machine.{keeping, toward, begun, acknowledging, opening, at_opcode, in_phase, word_step}
use Rattle.machine_answers.specs.rules.Replies.{one_word, word_then, acknowledged}
use Rattle.machine.specs.claims.Words.{after_words, kept_after, asking, done_at_last, done_with, ByTheTable}
use Rattle.machine_answers.specs.declared.Core.{Core}
use Rattle.machine_answers.specs.declared.Kept.{Kept}
use Rattle.machine_answers.specs.declared.Phase.{Phase}
use Rattle.machine_answers.specs.declared.Phase.TheVariants.{Opcode}

-- a word with others to come, and the last
module _ (command : Command) (k : Core) (m : List ℕ) (kept : Kept) (word : ℕ) where
  toward_more : (left : ℕ) → toward command (suc left) k m kept word ≡ quiet (asking k command (suc left) (keeping kept word)) leaving m
  toward_more left = passed _ _ _ (ne_eqb (suc left) 0 (λ e. omega arith))

  pub word_kept : (left : ℕ) → word_step (asking k command (suc (suc left)) kept) m word ≡ quiet (asking k command (suc left) (keeping kept word)) leaving m
  unfolding word_step
  word_kept left =
      let one_less : suc (suc left) - 1 ≡ suc left = omega arith in
      ap (λ (n : ℕ). toward command n (asking k command (suc (suc left)) kept) m kept word) one_less
      ∙ passed _ _ _ (ne_eqb (suc left) 0 (λ e. omega arith))

  pub word_last : word_step (asking k command 1 kept) m word ≡ performed command (asking k command 1 kept) m kept word
  unfolding word_step
  word_last = chosen _ _ _ (eq-eqb (1 - 1) 0 refl)

-- all argument words that are left
arguments_done : (command : Command) (k : Core) (m : List ℕ) (kept : Kept) (word : ℕ) (rest : List ℕ)
    → after_words (word_step (asking k command (suc (length rest)) kept) m word) rest ≡ done_at_last command k m kept word rest
unfolding after_words done_at_last
arguments_done command k m kept word [] = word_last command k m kept word
arguments_done command k m kept word (next ∷ rest) =
    ap (λ (o : WordOutcome). after_words (word_step o.answer.core o.memory next) rest) (word_kept command k m kept word (length rest))
    ∙ arguments_done command k m (keeping kept word) next rest

-- some of them
record Waits (command : Command) (k : Core) (m : List ℕ) (left : ℕ) (kept : Kept) (o : WordOutcome) : Type 0 where
  core : o.answer.core ≡ asking k command (suc left) kept
  memory : o.memory ≡ m

arguments_wait : (command : Command) (k : Core) (m : List ℕ) (kept : Kept) (o : WordOutcome) (left : ℕ) (ws : List ℕ) (n : ℕ)
    → n ≡ length ws + left → Waits command k m n kept o → Waits command k m left (kept_after kept ws) (after_words o ws)
unfolding after_words kept_after
arguments_wait command k m kept o left [] n count w =
    let same : n ≡ left = omega arith in
    subst (λ (l : ℕ). Waits command k m l kept o) same w
arguments_wait command k m kept o left (word ∷ ws) n count w =
    let here : n ≡ suc (length ws + left) = omega arith in
    let step : word_step o.answer.core o.memory word ≡ quiet (asking k command (suc (length ws + left)) (keeping kept word)) leaving m =
    rw (w.core, w.memory, here) (word_kept command k m kept word (length ws + left)) in
    arguments_wait command k m (keeping kept word) _ left ws (length ws + left) refl
    (record { core = ap (λ (x : WordOutcome). x.answer.core) step; memory = ap (λ (x : WordOutcome). x.memory) step })

-- some words, and then some more
pub after_append : (o : WordOutcome) (ws vs : List ℕ) → after_words o (ws ++ vs) ≡ after_words (after_words o ws) vs
unfolding after_words
after_append o [] vs = refl
after_append o (w ∷ ws) vs = after_append (word_step o.answer.core o.memory w) ws vs

-- an opcode that the table has
module _ (k : Core) (m : List ℕ) (opcode : ℕ) {command : Command} {words : ℕ} (idle : k.stage.phase ≡ Opcode)
    (known : looked_up opcode Sent k.dialect ≡ Ok (with_words command words)) where
  pub opcode_step : word_step k m opcode ≡ opening opcode (toward command words (begun command k) m none_kept 0)
  unfolding word_step
  opcode_step = ap (λ (p : Phase). in_phase p k m opcode) idle ∙ ap (λ (f : Result Known Refusal). at_opcode k m opcode f) known

-- one that has words is acknowledged, and they are awaited
acknowledged_quiet : (opcode : ℕ) (k : Core) (m : List ℕ) → opening opcode (quiet k leaving m) ≡ said (one_word (acknowledged opcode)) k leaving m
unfolding acknowledging pick one_word word_then
acknowledged_quiet opcode k m = refl

module _ (k : Core) (m : List ℕ) (opcode : ℕ) {command : Command} where
  pub opcode_asks : (left : ℕ) → k.stage.phase ≡ Opcode → looked_up opcode Sent k.dialect ≡ Ok (with_words command (suc left))
      → word_step k m opcode ≡ said (one_word (acknowledged opcode)) (asking (begun command k) command (suc left) none_kept) leaving m
  opcode_asks left idle known =
      opcode_step k m opcode idle known ∙ ap (opening opcode) (toward_more command (begun command k) m none_kept 0 left)
      ∙ acknowledged_quiet opcode (asking (begun command k) command (suc left) (keeping none_kept 0)) m

  opcode_waits : (left : ℕ) → k.stage.phase ≡ Opcode → looked_up opcode Sent k.dialect ≡ Ok (with_words command (suc left))
      → Waits command (begun command k) m left none_kept (word_step k m opcode)
  opcode_waits left idle known =
      let step = opcode_asks left idle known in
      record {
        core = ap (λ (o : WordOutcome). o.answer.core) step;
        memory = ap (λ (o : WordOutcome). o.memory) step;
      }

  opcode_done : (arguments : List ℕ) → k.stage.phase ≡ Opcode → looked_up opcode Sent k.dialect ≡ Ok (with_words command (length arguments))
      → after_words (word_step k m opcode) arguments ≡ done_with opcode command (begun command k) m arguments
  unfolding after_words
  opcode_done [] idle known = opcode_step k m opcode idle known ∙ ap (opening opcode) (chosen _ _ _ (eq-eqb 0 0 refl))
  opcode_done (word ∷ rest) idle known =
      let waits = opcode_waits (length rest) idle known in
      rw (waits.core, waits.memory) (arguments_done command (begun command k) m none_kept word rest)

-- three words shift out all that was kept before them
last_kept : (before : Kept) (first second third : ℕ)
    → kept_after before (first ∷ second ∷ third ∷ []) ≡ record { first = first; second = second; third = third }
unfolding kept_after
last_kept before first second third = refl

pub by_the_table : ByTheTable
by_the_table =
    record {
      done = λ k m opcode command words arguments idle known count.
          opcode_done k m opcode arguments idle (known ∙ ap (λ (n : ℕ). Ok (with_words command n)) (sym count));
      waits = λ k m opcode command words arguments left idle known count.
          let all : suc (length arguments + left) ≡ length arguments + suc left = omega arith in
          let first = opcode_waits k m opcode (length arguments + left) idle (known ∙ ap (λ (n : ℕ). Ok (with_words command n)) (sym (all ∙ count))) in
          let last = arguments_wait _ _ m none_kept _ left arguments (length arguments + left) refl first in
          (last.core, last.memory);
      kept = last_kept;
    }

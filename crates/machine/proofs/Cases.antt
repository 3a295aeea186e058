-- A word taken for its purpose is the word in its phase.
use Prim.Native.Nat.{ℕ}
use mathlib.Core.List.{List}
use mathlib.Core.Path.{◌≡◌, refl, sym, ap, ◌∙◌}
use Rattle.std.specs.declared.result.Result.{Result}
use Rattle.std.specs.declared.result.Result.TheVariants.{Ok, Err}
use Rattle.words.specs.rules.Choice.{pick}
use Rattle.opcodes.specs.rules.Opcodes.{looked_up}
use Rattle.opcodes.specs.declared.Mode.TheVariants.{Sent}
use Rattle.opcodes.specs.declared.Known.{Known}
use Rattle.opcodes.specs.declared.Refusal.{Refusal}
use Rattle.machine_answers.specs.rules.Answers as machine
use Rattle.machine.specs.rules.Machine.{at_opcode, in_phase, word_step}
use Rattle.machine.specs.rules.Purpose.{opcode_purpose, purpose_of, answered}
use Rattle.machine_answers.specs.declared.Core.{Core}
use Rattle.machine_answers.specs.declared.Phase.{Phase}
use Rattle.machine_answers.specs.declared.Phase.TheVariants as phase
use Rattle.machine.specs.declared.Purpose.{Purpose}

-- a word taken for its purpose is the word in its phase
opcode_served : (k : Core) (m : List ℕ) (word : ℕ) (f : Result Known Refusal) → answered (opcode_purpose f) k m word ≡ at_opcode k m word f
unfolding pick
opcode_served k m word (Err q) = refl
opcode_served k m word (Ok f) = refl

pub purpose_served : (p : Phase) (k : Core) (m : List ℕ) (word : ℕ) → answered (purpose_of p k.dialect word) k m word ≡ in_phase p k m word
unfolding pick
purpose_served phase.Opcode k m word = opcode_served k m word (looked_up word Sent k.dialect)
purpose_served (phase.Argument command left kept) k m word = refl
purpose_served (phase.Data end left) k m word = refl
purpose_served (phase.Echo n) k m word = refl

module _ (k : Core) (m : List ℕ) (word : ℕ) {p : Result Purpose Refusal} (known : purpose_of k.stage.phase k.dialect word ≡ p) where
  served_word : answered p k m word ≡ word_step k m word
  unfolding word_step
  served_word = sym (ap (λ (x : Result Purpose Refusal). answered x k m word) known) ∙ purpose_served k.stage.phase k m word

  pub served_answer : (answered p k m word).answer ≡ (word_step k m word).answer
  served_answer = ap (λ (o : machine.WordOutcome). o.answer) served_word

  pub served_memory : (answered p k m word).memory ≡ (word_step k m word).memory
  served_memory = ap (λ (o : machine.WordOutcome). o.memory) served_word

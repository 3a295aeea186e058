-- What every word does, whatever awaits it.
use Rattle.std.specs.Prelude.{ℕ, ◌%◌, ◌≤◌, true, false, List, ◌≢◌, ◌≡◌, length}
use Rattle.opcodes.specs.rules.Answers.{code_of}
use Rattle.words.specs.rules.Bytes.{AreBytes}
use Rattle.machine_answers.specs.rules.Answers.{WordOutcome, stop}
use Rattle.machine_answers.specs.declared.Core.{Core}
use Rattle.machine_answers.specs.declared.Phase.TheVariants.{Opcode}

-- what every word does, whatever awaits it
pub record EveryWord (k : Core) (m : List ℕ) (o : WordOutcome) : Type 0 where
  pub windows : o.answer.core.windows ≡ k.windows
  pub dialect : o.answer.core.dialect ≡ k.dialect
  -- an opcode that has been acknowledged stays so; where one is awaited, a word that is none leaves the core as it was, ended
  pub begun : k.begun ≡ true → o.answer.core.begun ≡ true
  pub unbegun : k.stage.phase ≡ Opcode → o.answer.core.begun ≡ false → o.answer.core ≡ stop k
  -- the memory keeps its length and stays bytes
  pub same_length : length o.memory ≡ length m
  pub bytes : AreBytes m → AreBytes o.memory
  -- the reply is none, one or two words
  pub words : o.answer.reply.count % 4 ≡ 0
  pub most : o.answer.reply.count ≤ 8
  pub room : length o.answer.reply.bytes ≡ 8
  -- refused: no reply, the session ended, the memory as it was
  pub silenced : code_of o.answer.refusal ≢ 0 → o.answer.reply.count ≡ 0
  pub ended : code_of o.answer.refusal ≢ 0 → o.answer.core.ended ≡ true
  pub untouched : code_of o.answer.refusal ≢ 0 → o.memory ≡ m

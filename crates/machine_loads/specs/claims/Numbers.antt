-- A load by line takes its number at its size word, and all its data are told by it (02, request 6).
use Rattle.std.specs.Prelude.{ℕ, ◌<◌, List, ◌≡◌}
use Rattle.opcodes.specs.rules.Refusals.{None}
use Rattle.machine_loads.specs.rules.Loads.{load_taken, data_taken}
use Rattle.machine_answers.specs.declared.Core.{Core}

pub record DataByTheLoad : Type 0 where
  -- a load that is accepted where numbers are kept: a data word after it is told by the number that came next before it
  pub first : (k : Core) (m : List ℕ) (address size : ℕ) → 0 < k.tally.totals.next → (load_taken k m address size).answer.refusal ≡ None
      → (lent : List ℕ) (end left word : ℕ)
      → (data_taken (load_taken k m address size).answer.core lent end left word).answer.wrote.number ≡ k.tally.totals.next
  -- so is each later one: a data word leaves the numbers, and the totals
  pub later : (k : Core) (m : List ℕ) (end left word : ℕ) → (data_taken k m end left word).answer.core.tally.totals ≡ k.tally.totals

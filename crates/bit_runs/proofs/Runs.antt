-- What a run of an image comes to, by whether its words are taken: each case settles the test of the definition.
use Prim.Native.Nat.{ℕ}
use mathlib.Core.List.{List}
use mathlib.Core.Logic.{◌≢◌}
use mathlib.Core.Path.{◌≡◌}
use borrow.Author.Tests.{eq-eqb, ne_eqb}
use Rattle.words.proofs.Choice.{chosen, passed}
use Rattle.std.specs.Prelude.{Result, Err}
use Rattle.opcodes.specs.rules.Answers.{code_of}
use Rattle.opcodes.specs.declared.Refusal.{Refusal}
use Rattle.opcodes.specs.declared.Refusal.TheVariants as why
use Rattle.opcodes.specs.declared.Dialect.TheVariants.{Am17xx}
use Rattle.bit_choice.specs.rules.Chosen.{choice_of}
use Rattle.flash_session.specs.rules.Opening.{numbering_from}
use Rattle.checking.specs.rules.Report.{windows, opened}
use Rattle.bit_runs.specs.rules.Runs.{Left, left_from, left_by}
use Rattle.bit_runs.specs.declared.Traced.{Traced}

-- these are what is left
abbrev pub Leaves : Left → Result Traced Refusal → List ℕ → List ℕ → List ℕ → Type 0
Leaves l traced memory numbers offsets =
    (traced ≡ l.traced) × ((memory ≡ l.memory) × ((numbers ≡ l.numbers) × (offsets ≡ l.offsets)))

module _ (list image m entries others : List ℕ) {traced : Result Traced Refusal} {memory numbers offsets : List ℕ} where
  pub words_refused : code_of (choice_of windows list).refusal ≢ 0
      → Leaves (record { traced = Err why.Chosen; memory = m; numbers = entries; offsets = others }) traced memory numbers offsets
      → Leaves (left_by list image m entries others) traced memory numbers offsets
  unfolding left_by
  words_refused e left = rw (passed _ _ _ (ne_eqb _ _ e)) left

  pub words_taken : code_of (choice_of windows list).refusal ≡ 0
      → Leaves (left_from (numbering_from (opened Am17xx image)) (choice_of windows list).chosen image m entries others) traced memory numbers offsets
      → Leaves (left_by list image m entries others) traced memory numbers offsets
  unfolding left_by
  words_taken e left = rw (chosen _ _ _ (eq-eqb _ _ e)) left

-- What a flash run with numbers comes to, by the facts that it asks.
use Prim.Native.Nat.{ℕ, ◌≤◌, ◌<◌}
use mathlib.Core.Bool.{not}
use mathlib.Core.List.{List}
use mathlib.Core.Logic.{◌≢◌}
use mathlib.Core.Path.{◌≡◌, ap}
use lib.ListN.{length}
use borrow.Author.Tests.{eq-eqb, ne_eqb, lt-ltb, le-ltb}
use Rattle.words.proofs.Choice.{chosen, passed}
use Rattle.windows.specs.rules.Window.{sum_of}
use Rattle.opcodes.specs.rules.Answers.{code_of}
use Rattle.opcodes.specs.rules.Refusals.{Verdict}
use Rattle.opcodes.specs.rules.Refusals as refusal
use Rattle.flash_session.specs.rules.Opening.{opened_by, numbering_from}
use Rattle.flash_session.specs.declared.Opened.{Opened}
use Rattle.flash_runs.specs.rules.Entries.{entries_from}
use Rattle.flash_runs.specs.rules.Run.{ran_from}
use Rattle.bit_choice.specs.rules.Chosen.{chosen_places}
use Rattle.bit_choice.specs.declared.Choice.{Choice}
use Rattle.bench_sessions.specs.rules.Map.{windows_of, count_of}
use Rattle.bench_sessions.specs.rules.Numbers.{cleared, choice_on, barred, dialect_of}
use Rattle.bench.specs.rules.Bits.{Noted, unrun, bits_from, bits_run}
use Rattle.bench.specs.rules.Runs.{reported}

-- what holds of one end holds of another that is the same
pub noted : {w v : Noted} {value : ℕ} {memory numbers : List ℕ} → w ≡ v → (value ≡ v.value) × ((memory ≡ v.memory) × (numbers ≡ v.numbers))
    → (value ≡ w.value) × ((memory ≡ w.memory) × (numbers ≡ w.numbers))
noted e f = rw e f

-- from an opening and a choice
module _ (o : Opened) (choice : Choice) (m numbers image : List ℕ) where
  abbrev why : Verdict
  why = barred o.refusal choice (length numbers) (length m) (sum_of o.session.windows)

  pub from_barred : code_of why ≢ 0 → bits_from o choice m numbers image ≡ unrun why m numbers
  unfolding bits_from
  from_barred e = chosen _ _ _ (ap not (ne_eqb _ _ e))

  pub from_run : code_of why ≡ 0 → bits_from o choice m numbers image
      ≡ record {
        value = reported (ran_from o m image).answer;
        memory = (ran_from o m image).memory;
        numbers = entries_from (chosen_places choice.chosen) (cleared numbers) o m image;
      }
  unfolding bits_from
  from_run e = passed _ _ _ (ap not (eq-eqb _ _ e))

-- in a dialect by number
module _ (dialect : ℕ) (map listed m numbers image : List ℕ) (limit : ℕ) where
  pub run_unknown : 1 < dialect → bits_run dialect map listed m numbers image limit ≡ unrun refusal.Call m numbers
  unfolding bits_run
  run_unknown e = chosen _ _ _ (lt-ltb _ _ e)

  pub run_known : dialect ≤ 1 → bits_run dialect map listed m numbers image limit
      ≡ bits_from (numbering_from (opened_by (dialect_of dialect) (count_of map) (windows_of map) image limit)) (choice_on map listed) m numbers image
  unfolding bits_run
  run_known e = passed _ _ _ (le-ltb _ _ e)

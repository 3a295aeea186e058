-- One whole flash run with the numbers of chosen words beside it (02, request 6): one number, the memory and the numbers.
use Rattle.std.specs.Prelude.{ℕ, ◌*◌, ◌^◌, not, List, ltb, length}
use Rattle.words.specs.rules.Choice.{pick}
use Rattle.windows.specs.rules.Window.{sum_of}
use Rattle.opcodes.specs.rules.Answers.{accepted, code_of}
use Rattle.opcodes.specs.rules.Refusals.{Verdict}
use Rattle.opcodes.specs.rules.Refusals as refusal
use Rattle.flash_session.specs.rules.Opening.{opened_by, numbering_from}
use Rattle.flash_session.specs.declared.Opened.{Opened}
use Rattle.flash_runs.specs.rules.Entries.{entries_from}
use Rattle.flash_runs.specs.rules.Run.{ran_from}
use Rattle.bit_choice.specs.rules.Chosen.{chosen_places}
use Rattle.bit_choice.specs.declared.Choice.{Choice}
use Rattle.bench_sessions.specs.rules.Map.{windows_of, count_of}
use Rattle.bench_sessions.specs.rules.Numbers.{cleared, choice_on, barred, dialect_of}
use Rattle.bench.specs.rules.Runs.{reported}

-- what a run with numbers comes to
pub record Noted : Type 0 where
  pub value : ℕ
  pub memory : List ℕ
  pub numbers : List ℕ

-- refused before the first command, nothing is touched
abbrev pub unrun : Verdict → List ℕ → List ℕ → Noted
unrun q memory numbers = record { value = code_of q * 2 ^ 56; memory = memory; numbers = numbers }

-- a run from its opening and its choice: 1, 24, 3, 4, 2, else the image is run, the numbers cleared before it
unfoldable pub bits_from : Opened → Choice → List ℕ → List ℕ → List ℕ → Noted
bits_from o choice memory numbers image =
    let q = barred o.refusal choice (length numbers) (length memory) (sum_of o.session.windows) in
    pick (not (accepted q)) (unrun q memory numbers)
    (record {
      value = reported (ran_from o memory image).answer;
      memory = (ran_from o memory image).memory;
      numbers = entries_from (chosen_places choice.chosen) (cleared numbers) o memory image;
    })

-- in a dialect by number, on a map's bytes: 19 for another dialect than 0 and 1 before anything else is judged
unfoldable pub bits_run : ℕ → List ℕ → List ℕ → List ℕ → List ℕ → List ℕ → ℕ → Noted
bits_run dialect map chosen memory numbers image limit =
    pick (ltb 1 dialect) (unrun refusal.Call memory numbers)
    (bits_from (numbering_from (opened_by (dialect_of dialect) (count_of map) (windows_of map) image limit)) (choice_on map chosen) memory numbers image)

-- The run that the bits program tells of: the check program's window, no retry, and beside the chosen words the numbers and the offsets of the
-- commands that wrote their bits last.
use Rattle.std.specs.Prelude.{ℕ, List, Result, Ok, Err}
use Rattle.words.specs.rules.Choice.{pick}
use Rattle.opcodes.specs.rules.Answers.{accepted}
use Rattle.opcodes.specs.declared.Refusal.{Refusal}
use Rattle.opcodes.specs.declared.Refusal.TheVariants as why
use Rattle.opcodes.specs.declared.Dialect.TheVariants.{Am17xx}
use Rattle.bit_choice.specs.rules.Chosen.{choice_of, chosen_places}
use Rattle.bit_choice.specs.declared.Chosen.{Chosen}
use Rattle.flash_session.specs.rules.Opening.{numbering_from}
use Rattle.flash_session.specs.declared.Called.{Called}
use Rattle.flash_session.specs.declared.Opened.{Opened}
use Rattle.flash_runs.specs.rules.Entries.{entries_from, offsets_from}
use Rattle.flash_runs.specs.rules.Run.{ran_from}
use Rattle.checking.specs.rules.Report.{windows, opened}
use Rattle.bit_runs.specs.declared.Traced.{Traced}

-- what is left of a run: how it ended, the memory, the numbers and the offsets
pub record Left : Type 0 where
  pub traced : Result Traced Refusal
  pub memory : List ℕ
  pub numbers : List ℕ
  pub offsets : List ℕ

-- a run that ended with an answer; a refused opening's is at offset 0
abbrev pub ended : Called → Chosen → Traced
ended a c = record { refusal = a.refusal; at = a.at; chosen = c }

-- a run from an opening, with these words chosen
abbrev pub left_from : Opened → Chosen → List ℕ → List ℕ → List ℕ → List ℕ → Left
left_from o c image memory numbers offsets =
    record {
      traced = Ok (ended (ran_from o memory image).answer c);
      memory = (ran_from o memory image).memory;
      numbers = entries_from (chosen_places c) numbers o memory image;
      offsets = offsets_from (chosen_places c) offsets o memory image;
    }

-- a run of an image, its commands numbered, with the words of a list chosen; where these are refused, with 24, nothing is run
unfoldable pub left_by : List ℕ → List ℕ → List ℕ → List ℕ → List ℕ → Left
left_by list image memory numbers offsets =
    let choice = choice_of windows list in
    pick (accepted choice.refusal) (left_from (numbering_from (opened Am17xx image)) choice.chosen image memory numbers offsets)
    (record { traced = Err why.Chosen; memory = memory; numbers = numbers; offsets = offsets })

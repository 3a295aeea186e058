-- `bit_runs::run` meets its contract: words that are refused leave all as it is; else the image is opened, and the run is that of its opening.
use mathlib.Core.Path.{refl, sym, ap, ◌∙◌}
use Rattle.std.specs.Prelude.{Result, Ok}
use Rattle.opcodes.specs.declared.Refusal.{Refusal}
use Rattle.bit_runs.specs.declared.Traced.{Traced}
use Rattle.opcodes.proofs.Verdicts.{some_number, none_number}
use Rattle.bit_choice.specs.declared.Choice.{Choice}
use Rattle.flash_session.specs.declared.Called.{Called}
use Rattle.bit_runs.specs.rules.Runs.{ended}
use Rattle.bit_runs.proofs.Runs.{words_refused, words_taken}
use Rattle.bit_runs.proofs.run.Goals as goal

pub returns-then-is_some : goal.returns-then-is_some
returns-then-is_some c =
    let tests = rw (c.choose-choice.ensures, c.windows-windows.ensures) at c.is_some.ensures in
    let parts = words_refused _ _ _ _ _ (some_number _ tests c.if-is_some.true) (refl, (refl, (refl, refl))) in
    record { value = parts.0; memory_after = parts.1.0; numbers_after = parts.1.1.0; offsets_after = parts.1.1.1 }

pub returns : goal.returns
returns c =
    let tests = rw (c.choose-choice.ensures, c.windows-windows.ensures) at c.is_some.ensures in
    let opened = c.open_numbering-opened.ensures in
    let run = c.run_from-ran.ensures in
    let choice = rw c.windows-windows.ensures at c.choose-choice.ensures in
    let parts = words_taken _ _ _ _ _ (none_number _ tests c.if-is_some.false) (
      rw (opened, c.choose-choice.ensures, c.windows-windows.ensures) at
          (ap {B = Result Traced Refusal} (λ (x : Called). Ok (ended x c.choose-choice.result.chosen)) run.called_value),
      (
        rw (opened, c.windows-windows.ensures) at run.memory_after,
        (
          rw (opened, c.choose-choice.ensures, c.windows-windows.ensures) at run.numbers_after,
          rw (opened, c.choose-choice.ensures, c.windows-windows.ensures) at run.offsets_after,
        ),
      ),
    ) in
    record {
      value = ap {B = Result Traced Refusal} (λ (x : Choice). Ok (ended c.run_from-ran.result.called x.chosen)) choice ∙ parts.0;
      memory_after = parts.1.0;
      numbers_after = parts.1.1.0;
      offsets_after = parts.1.1.1;
    }

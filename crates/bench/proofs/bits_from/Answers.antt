-- `bench::bits_from` meets its contract: barred, nothing is touched; else it is the run, with the numbers cleared before it.
use Prim.Native.Nat.{ℕ, ◌*◌, ◌^◌}
use mathlib.Core.List.{List}
use mathlib.Core.Path.{◌≡◌, refl, sym, ap, ◌∙◌}
use lib.ListN.{length}
use Rattle.windows.specs.rules.Window.{sum_of}
use Rattle.opcodes.specs.rules.Answers.{code_of}
use Rattle.opcodes.specs.rules.Refusals.{Verdict}
use Rattle.opcodes.proofs.Verdicts.{some_of, none_of}
use Rattle.bit_choice.specs.rules.Chosen.{chosen_places}
use Rattle.flash_runs.specs.rules.Entries.{entries_from}
use Rattle.bench_sessions.specs.rules.Numbers.{barred}
use Rattle.bench.specs.rules.Runs.{reported}
use Rattle.bench.proofs.BitRuns.{noted, from_barred, from_run}
use Rattle.bench.proofs.RunOffsets.{ran_at}
use Rattle.bench.proofs.bits_from.Goals as goal

pub returns-in-Some : goal.returns-in-Some
returns-in-Some c =
    let a = c.args in
    let barred-by : c.bar-barred.result
    ≡ barred a.opened.refusal a.choice (length a.numbers.now) (length a.memory.now) (sum_of a.opened.session.windows) =
    c.bar-barred.ensures ∙ ap (barred _ _ _ _) c.sum.ensures in
    let done =
    noted
    (from_barred a.opened a.choice a.memory.now a.numbers.now a.image.now
    (λ e. some_of _ c.in-Some.is (ap (λ (q : Verdict). code_of q) barred-by ∙ e)))
    (c.only_refusal.ensures ∙ ap (λ (q : Verdict). code_of q * 2 ^ 56) (sym c.in-Some.is ∙ barred-by), (refl, refl)) in
    record { value = done.0; memory_after = done.1.0; numbers_after = done.1.1 }

pub report-requires : goal.report-requires
report-requires c =
    rw c.run_from-ran.ensures.called_value (ran_at _ _ _ c.requires)

pub returns : goal.returns
returns c =
    let a = c.args in
    let barred-by : c.bar-barred.result
    ≡ barred a.opened.refusal a.choice (length a.numbers.now) (length a.memory.now) (sum_of a.opened.session.windows) =
    c.bar-barred.ensures ∙ ap (barred _ _ _ _) c.sum.ensures in
    let run = c.run_from-ran.ensures in
    let done =
    noted
    (from_run a.opened a.choice a.memory.now a.numbers.now a.image.now
    (sym (ap (λ (q : Verdict). code_of q) barred-by) ∙ none_of _ c.in_default.not-Some)) (
      c.report.ensures ∙ ap reported run.called_value,
      (
        run.memory_after,
        run.numbers_after
            ∙ ap (λ (numbers : List ℕ). entries_from (chosen_places a.choice.chosen) numbers a.opened a.memory.now a.image.now)
            c.clear.ensures,
      ),
    ) in
    record { value = done.0; memory_after = done.1.0; numbers_after = done.1.1 }

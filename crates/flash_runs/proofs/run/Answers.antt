-- `flash_runs::run` meets its contract: the calls that are left lead to the same outcome, the same numbers and offsets and the same room as all of them.
use mathlib.Core.Path.{sym, ◌∙◌}
use borrow.Author.Rules.{rules}
use Rattle.flash_runs.specs.rules.Entries.{run_stamps}
use Rattle.flash_runs.specs.rules.Events.{run_events}
use Rattle.flash_runs.specs.rules.Run.{run_of}
use Rattle.flash_runs.proofs.Running.{Last, spent, stops, leads_on, leads_last}
use Rattle.flash_runs.proofs.run.Goals as goal
use Rattle.flash_runs.proofs.run.Goals.{then-left-eq0-via-then-left-eq0, then-left-eq0-via-else-left-eq0+then-not-goes_on}

pub returns-then-left-eq0 : goal.returns-then-left-eq0
unfolding run_of run_stamps run_events
returns-then-left-eq0 c =
    let call = c.call-called.ensures in
    let loop = c.loop-left in
    let ended : Last loop.left c.call-called.result = elim c.then-left-eq0.branch [
      | then-left-eq0-via-then-left-eq0 w ↦ spent w.if-left-eq0.true
      | then-left-eq0-via-else-left-eq0+then-not-goes_on w ↦ stops (sym w.goes_on.ensures ∙ w.if-not-goes_on.true)
    ] in
    let parts = leads_last _ _ loop.live loop.memory call.value call.memory_after loop.left _
    (call.numbers_after, call.offsets_after) (c.tell-place.ensures.value, c.tell-place.ensures.room_after) loop.invariant.4
    ended in
    record {
      called_value = parts.0;
      memory_after = parts.1.0;
      numbers_after = parts.1.1.0;
      offsets_after = parts.1.1.1.0;
      told_value = parts.1.1.1.1.0;
      room_after = parts.1.1.1.1.1;
    }

pub loop-left-preserved : goal.loop-left-preserved
loop-left-preserved c =
    let call = c.call-called.ensures in
    let loop = c.loop-left in
    let more = sym c.goes_on.ensures ∙ c.if-not-goes_on.false in (
      search rules,
      search rules,
      search rules,
      search rules,
      leads_on _ _ loop.live loop.memory call.value call.memory_after loop.left _ (call.numbers_after, call.offsets_after)
          (c.tell-place.ensures.value, c.tell-place.ensures.room_after) loop.invariant.4 c.if-left-eq0.false more,
    )

-- `flash_runs::run_from` meets its contract: each way is one side of the choice.
use mathlib.Core.List.{List}
use mathlib.Core.Path.{sym, ap, ◌∙◌}
use lib.ListN.{length}
use Rattle.words.proofs.Choice.{chosen, passed}
use Rattle.opcodes.proofs.Verdicts.{accepted_by}
use Rattle.opcodes.specs.declared.Event.{Event}
use Rattle.event_room.specs.rules.Room.{place_after, room_after}
use Rattle.flash_session.specs.rules.Sessions.{CallOutcome}
use Rattle.flash_runs.specs.rules.Entries.{stamps_from}
use Rattle.flash_runs.specs.rules.Events.{events_from}
use Rattle.flash_runs.specs.rules.Run.{ran_from}
use Rattle.flash_runs.proofs.run_from.Goals as goal

pub returns-then-is_none : goal.returns-then-is_none
unfolding ran_from stamps_from events_from
returns-then-is_none c =
    let a = c.args in
    let opens = accepted_by _ c.is_none.ensures c.if-is_none.true in
    let whole = sym (chosen _ _ _ opens) in
    let events = sym (chosen _ _ _ opens) in
    let room = a.room.now in
    let run = c.run.ensures in
    record {
      called_value = run.called_value ∙ ap (λ (o : CallOutcome). o.answer) whole;
      memory_after = run.memory_after ∙ ap (λ (o : CallOutcome). o.memory) whole;
      numbers_after = run.numbers_after ∙ sym (chosen _ _ _ opens);
      offsets_after = run.offsets_after ∙ sym (chosen _ _ _ opens);
      told_value = run.told_value ∙ ap (λ (es : List Event). place_after (length room) 0 es) events;
      room_after = run.room_after ∙ ap (λ (es : List Event). room_after room 0 es) events;
    }

pub returns : goal.returns
unfolding ran_from stamps_from events_from place_after room_after
returns c =
    let room = c.args.room.now in
    let refused = accepted_by _ c.is_none.ensures c.if-is_none.false in
    let none = sym (passed _ _ _ refused) in
    let events = sym (passed _ _ _ refused) in
    record {
      called_value = rw c.wrote_none-wrote.ensures (ap (λ (o : CallOutcome). o.answer) none);
      memory_after = ap (λ (o : CallOutcome). o.memory) none;
      numbers_after = sym (passed _ _ _ refused);
      offsets_after = sym (passed _ _ _ refused);
      told_value = ap (λ (es : List Event). place_after (length room) 0 es) events;
      room_after = ap (λ (es : List Event). room_after room 0 es) events;
    }

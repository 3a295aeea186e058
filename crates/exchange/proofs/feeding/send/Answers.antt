-- `exchange::feeding::send` meets its contract: each arm is one case of what goes out.
use Prim.Native.Nat.{ℕ}
use mathlib.Core.List.{List}
use mathlib.Core.Path.{sym, ap, ◌∙◌}
use Rattle.sent.specs.rules.Bus.{units_fed}
use Rattle.host_answers.specs.rules.Sendings.{stretch_of}
use Rattle.host_answers.specs.declared.Sending.{Sending}
use Rattle.exchange.specs.rules.Exchange.{units_sent}
use Rattle.exchange.proofs.Hearing.{fed_as, none_fed}
use Rattle.exchange.proofs.feeding.send.Goals as goal

pub returns-in-Nothing : goal.returns-in-Nothing
returns-in-Nothing c =
    let a = c.args in let parts = fed_as a.bus a.standing a.memory.now a.room.now (sym (ap (λ (x : Sending). units_sent a.bus x a.image.now) c.in-Nothing.is))
    (none_fed a.bus a.standing a.memory.now a.room.now) in record { value = parts.0; memory_after = parts.1.0; room_after = parts.1.1 }

pub returns-in-Start : goal.returns-in-Start
returns-in-Start c =
    let a = c.args in
    let known = c.in-Start.is in let parts = fed_as a.bus a.standing a.memory.now a.room.now (sym (ap (λ (x : Sending). units_sent a.bus x a.image.now) known))
    (c.send_start.ensures.value, (c.send_start.ensures.memory_after, c.send_start.ensures.room_after)) in
    record { value = parts.0; memory_after = parts.1.0; room_after = parts.1.1 }

pub returns-in-Word : goal.returns-in-Word
returns-in-Word c =
    let a = c.args in
    let known = c.in-Word.is in let parts = fed_as a.bus a.standing a.memory.now a.room.now (sym (ap (λ (x : Sending). units_sent a.bus x a.image.now) known))
    (c.send_word.ensures.value, (c.send_word.ensures.memory_after, c.send_word.ensures.room_after)) in
    record { value = parts.0; memory_after = parts.1.0; room_after = parts.1.1 }

pub returns-in-Stretch : goal.returns-in-Stretch
returns-in-Stretch c =
    let a = c.args in
    let known = c.in-Stretch.is in
    let units = ap (λ (l : List ℕ). units_fed a.bus l) c.stretch.ensures
    ∙ ap (λ (x : Sending). units_fed a.bus (stretch_of x a.image.now)) known
    ∙ sym (ap (λ (x : Sending). units_sent a.bus x a.image.now) known) in
    let parts = fed_as a.bus a.standing a.memory.now a.room.now units (c.feed.ensures.value, (c.feed.ensures.memory_after, c.feed.ensures.room_after)) in
    record { value = parts.0; memory_after = parts.1.0; room_after = parts.1.1 }

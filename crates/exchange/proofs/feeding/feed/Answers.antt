-- `exchange::feeding::feed` meets its contract: what is left to feed leads to the same end from where the loop stands.
use Rattle.std.proofs.Common.{◌≡◌, ◌<◌, length, refl, sym, ◌∙◌, arith}
use Rattle.sent.specs.rules.Bus.{units_fed}
use Rattle.exchange.proofs.Hearing.{feeds, all_fed, all_laid, all_told}
use Rattle.exchange.proofs.feeding.feed.Goals as goal

pub loop-i-init : goal.loop-i-init
loop-i-init c = record { stands = refl; remembers = refl; tells = refl }

pub loop-i-preserved : goal.loop-i-preserved
loop-i-preserved c =
    let a = c.args in
    let units = units_fed a.bus a.fed.now in
    let loop = c.loop-i in
    let step = c.step_at-answer in
    let note = c.note-live in
    let inside : loop.i < length units = omega (arith, c.loop-i-test.true, c.units_in-i-end.ensures) in
    let same = feeds a.bus loop.live loop.memory loop.room units loop.i inside step.ensures.value step.ensures.memory_after
    (note.ensures.value, note.ensures.room_after) in
    record {
      stands = same.0 ∙ loop.invariant.stands;
      remembers = same.1.0 ∙ loop.invariant.remembers;
      tells = same.1.1 ∙ loop.invariant.tells;
    }

pub returns : goal.returns
returns c =
    let a = c.args in
    let units = units_fed a.bus a.fed.now in
    let loop = c.loop-i in
    let end : loop.i ≡ length units = omega (arith, c.loop-i-test.false, c.units_in-i-end.ensures) in
    record {
      value = sym (all_fed (length loop.room) a.bus loop.live loop.memory units loop.i end) ∙ loop.invariant.stands;
      memory_after = sym (all_laid a.bus loop.live loop.memory units loop.i end) ∙ loop.invariant.remembers;
      room_after = sym (all_told a.bus loop.live loop.memory loop.room units loop.i end) ∙ loop.invariant.tells;
    }

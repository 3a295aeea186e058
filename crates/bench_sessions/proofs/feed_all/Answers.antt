-- `bench_sessions::feed_all` meets its contract: what is left to feed, laid down from where the loop stands, gives the same end, and so do the numbers. The
-- room is long enough since each unit fed pays for its part of a reply, and what is gathered of a word is not yet spent.
use Prim.Native.Nat.{◌+◌, ◌*◌, ◌≤◌, ◌<◌}
use mathlib.Core.Path.{◌≡◌, refl, sym, ◌∙◌}
use native.Mathlib.Omega.{arith}
use lib.Dec.{lit≤}
use lib.ListN.{length, take, get_or}
use Rattle.machine_answers.specs.rules.Replies.{sent_bytes}
use Rattle.sent.specs.rules.Bus.{units_fed}
use Rattle.bench_sessions.specs.rules.Feeding.{unit_room}
use Rattle.bench_sessions.proofs.Fitting.{one_more, nothing_held, step_pays, room_left, room_small}
use Rattle.bench_sessions.proofs.Reaching.{fed_turn, delivers}
use Rattle.bench_sessions.proofs.SessionCases.{units_count}
use Rattle.bench_sessions.proofs.feed_all.Goals as goal

pub loop-i-init : goal.loop-i-init
loop-i-init c =
    let bus = c.args.bus in
    let short = c.requires.have_value.1 in
    let laid = c.put_reply-count.ensures.value in
    let held : unit_room bus * c.args.session.line.have ≡ 0 = rw c.requires.have_value.0 (nothing_held bus) in
    record {
      small = omega arith;
      few = omega (arith, laid, short, nothing_held bus, room_small bus 0 (lit≤ tt));
      paid = omega (arith, laid, short, held, nothing_held bus);
      led = refl;
    }

pub put_reply-count-requires-in-loop-i : goal.put_reply-count-requires-in-loop-i
put_reply-count-requires-in-loop-i c =
    let loop = c.loop-i in
    let bus = c.args.bus in
    let units = length (units_fed bus c.args.fed.now) in
    let count = c.units_in-i-end.ensures ∙ sym (units_count bus c.args.fed.now) in
    let left = room_left bus loop.i units (omega (arith, c.loop-i-test.true, count)) in
    omega (arith, loop.auto, loop.invariant.paid, left, c.put_reply-count.auto, c.requires.fed_in_bounds)

pub loop-i-preserved : goal.loop-i-preserved
loop-i-preserved c =
    let a = c.args in
    let bus = a.bus in
    let units = units_fed bus a.fed.now in
    let loop = c.loop-i in
    let step = c.step_at-answer in
    let laid = c.put_reply-count-in-loop-i in
    let first = c.first_of-first in
    let count = c.units_in-i-end.ensures ∙ sym (units_count bus a.fed.now) in
    let inside : loop.i < length units = omega (arith, c.loop-i-test.true, count) in
    let answered = step.ensures.value in
    let remembered = step.ensures.memory_after in
    let pays : length (sent_bytes step.result.reply) + unit_room bus * step.result.session.line.have
    ≤ unit_room bus * loop.live.line.have + unit_room bus =
    rw answered (step_pays bus loop.live loop.memory (get_or units loop.i 0)) in
    let more = one_more bus loop.i in
    let small = room_small bus (loop.i + 1) (omega (arith, inside, c.requires.fed_len_bound)) in
    record {
      small = omega (arith, first.type_inv);
      few = omega (arith, laid.ensures.value, pays, loop.invariant.paid, more, small);
      paid = omega (arith, laid.ensures.value, pays, loop.invariant.paid, more);
      led =
          fed_turn loop.room loop.count loop.first bus (take a.chosen a.places.now) loop.live loop.memory loop.numbers units loop.i
          inside answered remembered step.ensures.entries_after laid.ensures.room_after laid.ensures.value first.ensures ∙ loop.invariant.led;
    }

pub returns : goal.returns
returns c =
    let a = c.args in
    let bus = a.bus in
    let units = units_fed bus a.fed.now in
    let loop = c.loop-i in
    let laid = c.put_reply-count in
    let count = c.units_in-i-end.ensures ∙ sym (units_count bus a.fed.now) in
    let end : loop.i ≡ length units = omega (arith, c.loop-i-test.false, count) in
    delivers bus (take a.chosen a.places.now) a.room.now (record { session = a.session; memory = a.memory.now }) a.opening a.numbers.now
    units c.requires.have_value.0 c.requires.have_value.1 c.requires.fed_in_bounds (record { session = loop.live; memory = loop.memory }) loop.room loop.count
    loop.first
    loop.numbers loop.i end (loop.invariant.led ∙ rw (laid.ensures.room_after, laid.ensures.value)) (omega arith)

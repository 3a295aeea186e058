-- `bench_sessions::put_reply` meets its contract: what is left of the reply, stored from where the loop stands, gives the same room.
use Rattle.std.proofs.Common.{rules, ◌≡◌, ℕ, min, ◌+◌, List, length, take, drop, sym, ap, ◌∙◌, arith, add-zero}
use Rattle.std.proofs.lemmas.List.{take_min}
use Rattle.std.proofs.lemmas.List.Edits.{sets}
use Rattle.machine_answers.specs.rules.Replies.{sent_bytes}
use Rattle.bench_sessions.proofs.Reaching.{byte_turn, all_stored}
use Rattle.bench_sessions.proofs.put_reply.Goals as goal

pub loop-i-init : goal.loop-i-init
loop-i-init c = ap (λ (k : ℕ). sets c.args.room.now k (take c.min.result c.args.reply.bytes)) (add-zero c.args.at)

pub loop-i-preserved : goal.loop-i-preserved
loop-i-preserved c =
    let loop = c.loop-i in
    let said = take c.min.result c.args.reply.bytes in
    ap (λ (room : List ℕ). sets room (c.args.at + (loop.i + 1)) (drop (loop.i + 1) said)) c.put_byte.ensures
    ∙ byte_turn loop.room c.args.at said loop.i c.loop-i-test.true
    ∙ loop.invariant

pub returns : goal.returns
returns c =
    let loop = c.loop-i in
    let reply = c.args.reply in
    let said = take c.min.result reply.bytes in
    let end : loop.i ≡ length said = omega arith in
    let long : length reply.bytes ≡ 8 = search rules in
    let whole : said ≡ sent_bytes reply =
    ap (λ (n : ℕ). take n reply.bytes) (c.min.ensures ∙ ap (min reply.count) (sym long)) ∙ take_min reply.count reply.bytes in
    record {
      value = ap (λ (bytes : List ℕ). c.args.at + length bytes) whole;
      room_after =
          sym (all_stored loop.room (c.args.at + loop.i) loop.i said end) ∙ loop.invariant ∙ ap (sets c.args.room.now c.args.at) whole;
    }

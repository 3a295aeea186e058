-- `exchange::feeding::hear_all` meets its contract: what is left of the reply, heard from where the loop stands, gives the same host.
use Rattle.std.proofs.Common.{◌≡◌, ℕ, ◌+◌, length, take, drop, sym, ap, ◌∙◌, arith, rules, min}
use Rattle.std.proofs.lemmas.List.{take_min}
use Rattle.machine_answers.specs.rules.Replies.{sent_bytes}
use Rattle.host_answers.specs.rules.Hosts.{heard_all}
use Rattle.host_answers.specs.declared.Host.{Host}
use Rattle.exchange.proofs.Hearing.{byte_turn, all_heard}
use Rattle.exchange.proofs.feeding.hear_all.Goals as goal

pub loop-byte-preserved : goal.loop-byte-preserved
loop-byte-preserved c =
    let loop = c.loop-byte in
    let said = take c.min.result c.args.reply.bytes in
    ap (λ (h : Host). heard_all h (drop (loop.byte-index + 1) said)) c.hear-live.ensures
    ∙ byte_turn loop.live said loop.byte-index c.loop-byte-test.true
    ∙ loop.invariant

pub returns : goal.returns
returns c =
    let loop = c.loop-byte in
    let said = take c.min.result c.args.reply.bytes in
    let end : loop.byte-index ≡ length said = omega arith in
    let long : length c.args.reply.bytes ≡ 8 = search rules in
    let whole : said ≡ sent_bytes c.args.reply =
    ap (λ (n : ℕ). take n c.args.reply.bytes) (c.min.ensures ∙ ap (min c.args.reply.count) (sym long)) ∙ take_min c.args.reply.count c.args.reply.bytes in
    sym (all_heard loop.live loop.byte-index said end) ∙ loop.invariant ∙ ap (heard_all c.args.host) whole

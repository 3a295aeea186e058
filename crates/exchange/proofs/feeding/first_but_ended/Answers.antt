-- `exchange::feeding::first_but_ended` meets its contract: 14 and none leave the first as it is, any other refusal comes after it.
use mathlib.Core.Path.{sym, ap, ◌∙◌}
use Rattle.opcodes.specs.rules.Refusals.{Verdict}
use Rattle.std.specs.Option.{option_or}
use Rattle.exchange.specs.rules.Exchange.{but_ended}
use Rattle.exchange.proofs.Hearing.{first_none, counts, ended_counts, none_counts}
use Rattle.exchange.proofs.feeding.first_but_ended.Goals as goal

pub returns-in_default : goal.returns-in_default
returns-in_default c = none_counts _ _ c.in_default.not-Some

pub returns-then-eq : goal.returns-then-eq
returns-then-eq c =
    let a = c.args in
    let uncounted = ended_counts _ (sym c.eq.ensures ∙ c.if-eq.true) in
    sym (
    ap (λ (q : Verdict). option_or a.first (but_ended q)) c.in-Some.is
    ∙ ap (option_or a.first) uncounted
    ∙ first_none a.first
    )

pub returns : goal.returns
returns c =
    let a = c.args in
    let counted = counts _ (sym c.eq.ensures ∙ c.if-eq.false) in
    c.or.ensures
    ∙ sym (ap (λ (q : Verdict). option_or a.first (but_ended q)) c.in-Some.is ∙ ap (option_or a.first) counted)

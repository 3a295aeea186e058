-- `bench_sessions::bar` meets its contract: each way is one test of the chain, after those before it.
use mathlib.Core.Path.{sym, ◌∙◌}
use Rattle.opcodes.proofs.Verdicts.{some_number, none_number}
use Rattle.bench_sessions.proofs.Barring.{bar_map, bar_chosen, bar_opening, bar_numbers, bar_memory, bar_none}
use Rattle.bench_sessions.proofs.bar.Goals as goal

pub returns-then-number-eq1 : goal.returns-then-number-eq1
returns-then-number-eq1 c = sym (bar_map _ _ _ _ _ (sym c.code_of-number.ensures ∙ c.if-number-eq1.true))

pub returns-then-is_some : goal.returns-then-is_some
returns-then-is_some c =
    sym (bar_chosen _ _ _ _ _ (λ e. c.if-number-eq1.false (c.code_of-number.ensures ∙ e)) (some_number _ c.is_some.ensures c.if-is_some.true))

pub returns-then-is_some-2 : goal.returns-then-is_some-2
returns-then-is_some-2 c =
    sym (bar_opening _ _ _ _ _ (λ e. c.if-number-eq1.false (c.code_of-number.ensures ∙ e)) (none_number _ c.is_some.ensures c.if-is_some.false)
    (some_number _ c.is_some-2.ensures c.if-is_some-2.true))

pub returns-then-not-is_for : goal.returns-then-not-is_for
returns-then-not-is_for c =
    sym (bar_numbers _ _ _ _ _ (λ e. c.if-number-eq1.false (c.code_of-number.ensures ∙ e)) (none_number _ c.is_some.ensures c.if-is_some.false)
    (none_number _ c.is_some-2.ensures c.if-is_some-2.false) (sym c.is_for.ensures ∙ c.if-not-is_for.true))

pub returns-then-memory-sum : goal.returns-then-memory-sum
returns-then-memory-sum c =
    sym (bar_memory _ _ _ _ _ (λ e. c.if-number-eq1.false (c.code_of-number.ensures ∙ e)) (none_number _ c.is_some.ensures c.if-is_some.false)
    (none_number _ c.is_some-2.ensures c.if-is_some-2.false) (sym c.is_for.ensures ∙ c.if-not-is_for.false)
    c.if-memory-sum.true)

pub returns : goal.returns
returns c =
    sym (bar_none _ _ _ _ _ (λ e. c.if-number-eq1.false (c.code_of-number.ensures ∙ e)) (none_number _ c.is_some.ensures c.if-is_some.false)
    (none_number _ c.is_some-2.ensures c.if-is_some-2.false) (sym c.is_for.ensures ∙ c.if-not-is_for.false)
    c.if-memory-sum.false)

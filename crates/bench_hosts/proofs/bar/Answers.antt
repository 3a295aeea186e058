-- `bench_hosts::bar` meets its contract: each way is one case of the definition.
use mathlib.Core.Path.{sym, ap, ap₂, ◌∙◌}
use Rattle.windows.specs.rules.Map.{good_map, kept_of}
use Rattle.windows.specs.rules.Window.{sum_of}
use Rattle.bench_hosts.proofs.Calls.{barred_call, barred_map, barred_memory, barred_none}
use Rattle.bench_hosts.proofs.bar.Goals as goal

pub returns-then-not-are_named : goal.returns-then-not-are_named
returns-then-not-are_named c =
    let a = c.args in
    barred_call a.line a.dialect a.map.now a.lent (sym c.are_named.ensures ∙ c.if-not-are_named.true)

pub returns-then-not-is_good : goal.returns-then-not-is_good
returns-then-not-is_good c =
    let a = c.args in
    let named = sym c.are_named.ensures ∙ c.if-not-are_named.false in
    let good = c.is_good.ensures ∙ ap₂ good_map c.count_of-count.ensures c.windows_of-windows.ensures in
    barred_map a.line a.dialect a.map.now a.lent named (sym good ∙ c.if-not-is_good.true)

pub returns-then-lent-sum : goal.returns-then-lent-sum
returns-then-lent-sum c =
    let a = c.args in
    let named = sym c.are_named.ensures ∙ c.if-not-are_named.false in
    let count = c.count_of-count.ensures in
    let windows = c.windows_of-windows.ensures in
    let good = c.is_good.ensures ∙ ap₂ good_map count windows in
    let sum = c.sum.ensures ∙ ap sum_of (c.kept.ensures ∙ ap₂ kept_of count windows) in
    barred_memory a.line a.dialect a.map.now a.lent named (sym good ∙ c.if-not-is_good.false) (λ e. c.if-lent-sum.true (e ∙ sym sum))

pub returns : goal.returns
returns c =
    let a = c.args in
    let named = sym c.are_named.ensures ∙ c.if-not-are_named.false in
    let count = c.count_of-count.ensures in
    let windows = c.windows_of-windows.ensures in
    let good = c.is_good.ensures ∙ ap₂ good_map count windows in
    let sum = c.sum.ensures ∙ ap sum_of (c.kept.ensures ∙ ap₂ kept_of count windows) in
    barred_none a.line a.dialect a.map.now a.lent named (sym good ∙ c.if-not-is_good.false) (c.if-lent-sum.false ∙ sum)

-- `bit_report::first_field` meets its contract: the first that is found is the lowest.
use Rattle.std.proofs.Common.{◌≡◌, ℕ, true, false, ap, ◌∙◌, rules}
use Rattle.std.specs.Option.{unwrap_or}
use Rattle.std.proofs.lemmas.Iterator.{first_from_Range}
use borrow.Author.Tests.{tests}
use Rattle.bit_report.specs.rules.Fields.{has_field}
use Rattle.bit_report.proofs.Lowest.{lowest_of_first}
use Rattle.bit_report.proofs.first_field.Goals as goal

pub returns : goal.returns
returns c =
    let a = c.args in
    let first =
    first_from_Range _ _ _ _ (λ (k : ℕ). has_field a.names a.word k ≡ true) (λ (k : ℕ). has_field a.names a.word k ≡ false) c.find.ensures.ran
    (λ x q k. search (rules, tests)) (λ x q k. search (rules, tests)) in
    c.unwrap_or.ensures
    ∙ ap (unwrap_or c.find.result) c.max.ensures
    ∙ lowest_of_first (has_field a.names a.word) a.from a.to c.find.result first

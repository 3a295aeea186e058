-- `bit_choice::in_one_window` meets its contract: some window passes the test where one of the list does.
use mathlib.Core.Path.{◌∙◌}
use borrow.Author.Rules.{rules}
use Rattle.std.proofs.Common.{tests}
use Rattle.std.proofs.lemmas.Iterator.{YieldsList-from_slice}
use Rattle.std.proofs.lemmas.Iterator.Search.{any_from_yields_List}
use Rattle.windows.specs.rules.Window.{grants_range}
use Rattle.windows.specs.declared.Window.{Window}
use Rattle.windows.specs.declared.Right.TheVariants.{Set}
use Rattle.bit_choice.proofs.Choosing.{any_grants}
use Rattle.bit_choice.proofs.in_one_window.Goals as goal

pub returns : goal.returns
returns c =
    let a = c.args in
    any_from_yields_List (λ (w : Window). grants_range w Set a.address 4) _ _ _ c.any.ensures.ran (YieldsList-from_slice a.windows cc)
    (λ x b q k. search (rules, tests))
    ∙ any_grants a.windows a.address

-- `windows::sum_some` meets its contract: the sum of the lengths is that of the definition.
use mathlib.Core.Path.{◌≡◌, ◌∙◌}
use mathlib.Core.List.{map}
use borrow.Author.Rules.{rules}
use Rattle.std.specs.Prelude.{sum}
use Rattle.windows.specs.declared.Window.{Window}
use Rattle.windows.proofs.Left.{sum_lengths}
use Rattle.windows.proofs.sum_some.Goals as goal

pub returns : goal.returns
returns c =
    let lengths : c.sum.result ≡ sum (map (λ (w : Window). w.length) c.args.windows.now) = search rules in
    lengths ∙ sum_lengths c.args.windows.now

-- `field_lines::find` meets its contract: the place is looked for in what is left of the text, if it begins in the text.
use mathlib.Core.Path.{ap, ◌∙◌}
use native.Mathlib.Omega.{arith}
use Rattle.std.specs.Prelude.{◌==◌, position}
use Rattle.words.proofs.Numbers.{from_place}
use Rattle.field_lines.proofs.Values.{closed_past, closed_found, closed_none}
use Rattle.field_lines.proofs.find.Goals as goal

pub returns-then-text-from : goal.returns-then-text-from
returns-then-text-from c = closed_past _ _ _ (omega arith)

pub returns-in-Some : goal.returns-in-Some
returns-in-Some c =
    closed_found _ _ _ _ (c.in-Some.ensures.place ∙ ap (position (λ b. b == c.args.byte)) (from_place c.args.text.now c.args.from))

pub returns-in-None : goal.returns-in-None
returns-in-None c =
    closed_none _ _ _ c.if-text-from.false
    (c.in-None.ensures.place ∙ ap (position (λ b. b == c.args.byte)) (from_place c.args.text.now c.args.from))

-- `field_lines::is_name` meets its contract: of 1 to 16 bytes the letters decide.
use Prim.Native.Nat.{◌≤◌}
use mathlib.Core.Path.{◌∙◌}
use native.Mathlib.Omega.{arith}
use Rattle.std.proofs.lemmas.Grind.{common_steps}
use lib.ListN.{length}
use Rattle.field_lines.proofs.Names.{no-name, name_by_letters, tested}
use Rattle.field_lines.proofs.is_name.Goals as goal

pub returns-then-is_empty : goal.returns-then-is_empty
returns-then-is_empty c = no-name _ (λ range. grind (arith, common_steps))

pub returns : goal.returns
returns c =
    let some : 1 ≤ length c.args.s.now = grind (arith, common_steps) in
    tested c.args.s.now c.are_letters.result c.are_letters.ensures ∙ name_by_letters c.args.s.now some c.if-s-gt16.false

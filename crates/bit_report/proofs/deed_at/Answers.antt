-- `bit_report::deed_at` meets its contract: each arm is one case of what the table says of the opcode.
use mathlib.Core.Path.{ap, ◌∙◌}
use Prim.Native.Nat.{ℕ}
use Rattle.std.specs.declared.result.Result.{Result}
use Rattle.opcodes.specs.rules.Opcodes.{looked_up}
use Rattle.opcodes.specs.declared.Dialect.TheVariants.{Am17xx}
use Rattle.opcodes.specs.declared.Mode.TheVariants.{Flash}
use Rattle.opcodes.specs.declared.Known.{Known}
use Rattle.opcodes.specs.declared.Refusal.{Refusal}
use Rattle.bit_report.specs.rules.Deeds.{found_deed, deed_at}
use Rattle.bit_report.proofs.deed_at.Goals as goal

pub returns-in-Ok : goal.returns-in-Ok
unfolding deed_at
returns-in-Ok c =
    let a = c.args in
    let row = c.in-Ok.ensures ∙ ap (λ (o : ℕ). looked_up o Flash Am17xx) c.word_at-opcode.ensures in
    c.command_deed.ensures ∙ ap (λ (f : Result Known Refusal). found_deed f a.image.now a.at a.word) row

pub returns-in-Err : goal.returns-in-Err
unfolding deed_at
returns-in-Err c =
    let a = c.args in
    let row = c.in-Err.ensures ∙ ap (λ (o : ℕ). looked_up o Flash Am17xx) c.word_at-opcode.ensures in
    c.no_deed.ensures ∙ ap (λ (f : Result Known Refusal). found_deed f a.image.now a.at a.word) row

-- `opcodes::serves` meets its contract: the opcode is compared first, then the mode and the dialect decide.
use mathlib.Core.Bool.{Bool, ◌&&◌, true≢false}
use mathlib.Core.Path.{sym, ap, ap₂, ◌∙◌}
use borrow.Author.Tests.{eq-eqb, ne_eqb}
use Rattle.opcodes.specs.rules.Opcodes.{in_dialect, row_serves, allowed}
use Rattle.opcodes.proofs.serves.Goals as goal
use Rattle.opcodes.proofs.serves.Goals.{then-row-opcode, else-row-opcode}

pub returns-then-in_mode : goal.returns-then-in_mode
unfolding row_serves
returns-then-in_mode c =
    let a = c.args in
    elim c.if-row-opcode.branch [
      | then-row-opcode w ↦
          c.in_dialect.ensures
          ∙ sym (ap₂ (λ (t u : Bool). t && (u && in_dialect a.row a.dialect)) (eq-eqb _ _ w.if-row-opcode.true)
          (sym w.in_mode.ensures ∙ sym w.value-is ∙ c.if-in_mode.true))
      | else-row-opcode w ↦ absurd (true≢false (sym c.if-in_mode.true ∙ w.value-is ∙ ne_eqb _ _ w.if-row-opcode.false))
    ]

pub returns-else-in_mode : goal.returns-else-in_mode
unfolding row_serves
returns-else-in_mode c =
    let a = c.args in
    c.if-in_mode.false
    ∙ elim c.if-row-opcode.branch [
      | then-row-opcode w ↦
          sym (ap₂ (λ (t u : Bool). t && (u && in_dialect a.row a.dialect)) (eq-eqb _ _ w.if-row-opcode.true)
          (sym w.in_mode.ensures ∙ sym w.value-is ∙ c.if-in_mode.false))
      | else-row-opcode w ↦ ap (λ (t : Bool). t && allowed a.row a.mode a.dialect) (sym (ne_eqb _ _ w.if-row-opcode.false))
    ]

-- `reading::read_at` meets its contract: the opcode is looked for first, then in the table.
use mathlib.Core.Path.{sym, ap, ◌∙◌}
use Prim.Native.Nat.{ℕ}
use Rattle.opcodes.specs.rules.Opcodes.{looked_up}
use Rattle.opcodes.specs.declared.Mode.TheVariants.{Flash}
use Rattle.reading.specs.rules.Reading.{read_as}
use Rattle.reading.proofs.Reading.{read_none, read_row}
use Rattle.reading.proofs.read_at.Goals as goal

pub returns-then-image-at : goal.returns-then-image-at
returns-then-image-at c =
    let a = c.args in
    rw c.missing.ensures (sym (read_none a.image.now a.offset a.dialect c.if-image-at.true))

pub returns : goal.returns
returns c =
    let a = c.args in
    let row = c.look_up-found.ensures ∙ ap (λ (w : ℕ). looked_up w Flash a.dialect) c.word_at.ensures in
    c.read_row.ensures ∙ ap (read_as a.image.now a.offset) row
    ∙ sym (read_row a.image.now a.offset a.dialect c.if-image-at.false)

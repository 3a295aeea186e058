-- `opcodes::look_up` meets its contract: an opcode that is not retired is found in the rows, and those passed did not serve.
use mathlib.Core.Path.{◌≡◌, sym, ◌∙◌}
use Rattle.words.proofs.Choice.{chosen, passed}
use Rattle.opcodes.specs.rules.Opcodes.{rows, found_in, looked_up}
use borrow.Author.Tests.{eq-eqb, ne_eqb}
use native.Mathlib.Omega.{arith}
use Rattle.opcodes.proofs.Rows.{found_from}
use Rattle.opcodes.proofs.look_up.Goals as goal

pub returns-then-opcode-eq-RETIRED : goal.returns-then-opcode-eq-RETIRED
unfolding looked_up
returns-then-opcode-eq-RETIRED c = sym (chosen _ _ _ (eq-eqb _ _ c.if-opcode-eq-RETIRED.true))

pub returns-then-serves : goal.returns-then-serves
unfolding looked_up rows
returns-then-serves c =
    sym (passed _ _ _ (ne_eqb _ _ c.if-opcode-eq-RETIRED.false) ∙ c.loop-row.invariant ∙ found_from rows _ _ _ c.loop-row.row-index _ (omega arith)
    ∙ chosen _ _ _ (sym c.serves.ensures ∙ c.if-serves.true))

pub loop-row-preserved : goal.loop-row-preserved
unfolding rows
loop-row-preserved c =
    c.loop-row.invariant ∙ found_from rows _ _ _ c.loop-row.row-index _ (omega arith) ∙ passed _ _ _ (sym c.serves.ensures ∙ c.if-serves.false)

pub returns : goal.returns
unfolding looked_up rows found_in
returns c =
    let past : c.loop-row.row-index ≡ 12 = omega arith in
    sym (passed _ _ _ (ne_eqb _ _ c.if-opcode-eq-RETIRED.false) ∙ rw past at c.loop-row.invariant)

-- What the look-up answers, in three ways: what is found is the row of a command, 6 where the rows end, and 15 before they are asked.
use Prim.Native.Nat.{ℕ}
use mathlib.Core.List.{List, [], ◌∷◌}
use lib.Dec.{eqb}
use Rattle.std.specs.declared.result.Result.{Result}
use Rattle.std.specs.declared.result.Result.TheVariants.{Ok, Err}
use Rattle.words.proofs.Choice.{of_choice}
use Rattle.opcodes.specs.rules.Opcodes.{rows, retired, row_serves, found_in, looked_up}
use Rattle.opcodes.specs.declared.Dialect.{Dialect}
use Rattle.opcodes.specs.declared.Known.{Known}
use Rattle.opcodes.specs.declared.Mode.{Mode}
use Rattle.opcodes.specs.declared.Refusal.{Refusal}
use Rattle.opcodes.specs.declared.Refusal.TheVariants as refusal
use Rattle.opcodes.specs.declared.Row.{Row}

-- the ways of an answer
pub data Looked : Result Known Refusal → Type 0 where
  of_row : (known : Known) → Looked (Ok known)
  of_none : Looked (Err refusal.Opcode)
  of_retired : Looked (Err refusal.Retired)

looked_in : (table : List Row) (opcode : ℕ) (mode : Mode) (dialect : Dialect) → Looked (found_in table opcode mode dialect)
unfolding found_in
looked_in [] opcode mode dialect = of_none
looked_in (row ∷ rest) opcode mode dialect =
    of_choice Looked (row_serves row opcode mode dialect) (λ serves. of_row _) (λ other. looked_in rest opcode mode dialect)

pub looked : (opcode : ℕ) (mode : Mode) (dialect : Dialect) → Looked (looked_up opcode mode dialect)
unfolding looked_up
looked opcode mode dialect = of_choice Looked (eqb opcode retired) (λ gone. of_retired) (λ stands. looked_in rows opcode mode dialect)

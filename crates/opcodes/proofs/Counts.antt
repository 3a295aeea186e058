-- The argument words of each command in each mode and dialect: every row of the table has them, by computing, and so has the row that is found.
use Prim.Native.Nat.{ℕ}
use mathlib.Core.Bool.{Bool, true, false}
use mathlib.Core.Path.{◌≡◌, refl, sym, ◌∙◌}
use native.Mathlib.Omega.{arith}
use lib.Dec.{eqb}
use Rattle.std.specs.declared.result.Result.TheVariants.{Ok, Err}
use Rattle.std.specs.declared.result.Result.{Result}
use Rattle.words.proofs.Choice.{chosen, passed, by_test}
use Rattle.opcodes.specs.rules.Opcodes.{rows, retired, looked_up, with_words}
use Rattle.opcodes.specs.declared.Command.{Command}
use Rattle.opcodes.specs.declared.Command.TheVariants as command
use Rattle.opcodes.specs.declared.Dialect.{Dialect}
use Rattle.opcodes.specs.declared.Dialect.TheVariants.{Am17xx, Dm648}
use Rattle.opcodes.specs.declared.Mode.{Mode}
use Rattle.opcodes.specs.declared.Mode.TheVariants.{Sent, Flash}
use Rattle.opcodes.proofs.Rows.{every_row, found_passes}
use Rattle.opcodes.specs.declared.Known.{Known}
use Rattle.opcodes.specs.declared.Refusal.{Refusal}
use Rattle.opcodes.specs.declared.Refusal.TheVariants as refusal

-- the table's rows, by command: how many words; none of a command that the mode does not allow
unfoldable pub row_is : Mode → Dialect → Command → ℕ → Bool
row_is mode dialect command.Load n = eqb n 2
row_is mode dialect command.Fill n = eqb n 4
row_is mode dialect command.BootTable n = eqb n 4
row_is mode dialect command.Enable n = eqb n 0
row_is mode dialect command.Disable n = eqb n 0
row_is Flash dialect command.Request n = eqb n 2
row_is Sent dialect command.Request n = eqb n 0
row_is Flash dialect command.StartOver n = false
row_is Sent dialect command.StartOver n = eqb n 0
row_is mode Am17xx command.JumpAndClose n = eqb n 1
row_is mode Dm648 command.JumpAndClose n = eqb n 3
row_is Flash dialect command.Ping n = false
row_is Sent dialect command.Ping n = eqb n 1
row_is Flash dialect command.SequentialRead n = eqb n 0
row_is Sent dialect command.SequentialRead n = false

every-row : (mode : Mode) (dialect : Dialect) → every_row mode dialect (row_is mode dialect) rows ≡ true
unfolding every_row rows row_is
every-row Flash Am17xx = refl
every-row Flash Dm648 = refl
every-row Sent Am17xx = refl
every-row Sent Dm648 = refl

pub row-is : (mode : Mode) (dialect : Dialect) (opcode : ℕ) (c : Command) (words : ℕ) → looked_up opcode mode dialect ≡ Ok (with_words c words)
    → row_is mode dialect c words ≡ true
unfolding looked_up
row-is mode dialect opcode c words found =
    by_test (eqb opcode retired)
    (λ gone.
    let other : ◌≡◌ {A = Result Known Refusal} (Err refusal.Retired) (Ok (with_words c words)) = sym (chosen _ _ _ gone) ∙ found in
    let z : ◌≡◌ {A = ℕ} 0 1 = cc in
    absurd (omega arith))
    (λ stands. found_passes mode dialect (row_is mode dialect) rows opcode c words (every-row mode dialect) (sym (passed _ _ _ stands) ∙ found))

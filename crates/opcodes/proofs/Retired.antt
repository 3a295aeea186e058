-- Jump alone is retired: the look-up compares the opcode first, by computing, and a row that is found is never retired.
use Prim.Native.Nat.{ℕ}
use mathlib.Core.List.{List, [], ◌∷◌}
use mathlib.Core.Path.{◌≡◌, refl, sym, ◌∙◌}
use native.Mathlib.Omega.{arith}
use lib.Dec.{eqb}
use borrow.Author.Tests.{eqb-true}
use Rattle.std.specs.declared.result.Result.TheVariants.{Ok, Err}
use Rattle.std.specs.declared.result.Result.{Result}
use Rattle.words.specs.rules.Choice.{pick}
use Rattle.words.proofs.Choice.{chosen, passed, by_test}
use Rattle.opcodes.specs.rules.Opcodes.{rows, retired, row_serves, found_in, looked_up, with_words}
use Rattle.opcodes.specs.claims.Retired.{ExactlyJump}
use Rattle.opcodes.specs.declared.Dialect.{Dialect}
use Rattle.opcodes.specs.declared.Mode.{Mode}
use Rattle.opcodes.specs.declared.Row.{Row}
use Rattle.opcodes.specs.declared.Known.{Known}
use Rattle.opcodes.specs.declared.Refusal.{Refusal}
use Rattle.opcodes.specs.declared.Refusal.TheVariants as refusal

never_found : (table : List Row) (opcode : ℕ) (mode : Mode) (dialect : Dialect) → found_in table opcode mode dialect ≡ Err refusal.Retired → ⊥
unfolding found_in
never_found [] opcode mode dialect found = let z : ◌≡◌ {A = ℕ} 0 1 = cc in omega arith
never_found (row ∷ rest) opcode mode dialect found =
    by_test (row_serves row opcode mode dialect)
    (λ serves.
    let here : ◌≡◌ {A = Result Known Refusal} (Ok (with_words row.command row.words)) (Err refusal.Retired) = sym (chosen _ _ _ serves) ∙ found in
    let z : ◌≡◌ {A = ℕ} 0 1 = cc in
    omega arith)
    (λ other. never_found rest opcode mode dialect (sym (passed _ _ _ other) ∙ found))

pub exactly_jump : ExactlyJump
unfolding looked_up pick
exactly_jump =
    record {
      retired = λ mode dialect. refl;
      only = λ opcode mode dialect found.
          by_test (eqb opcode retired) (λ same. eqb-true _ _ same)
          (λ other. absurd (never_found rows opcode mode dialect (sym (passed _ _ _ other) ∙ found)));
    }

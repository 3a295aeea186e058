-- A search of the opcode table: what the rows from a place on answer, by the row at that place and the rows after it. What is found is one of the rows, so that
-- what a test says of each row holds of it.
use Prim.Native.Nat.{ℕ, ◌+◌, ◌<◌}
use mathlib.Core.Bool.{Bool, true, false, not, ◌&&◌, ◌||◌, false≢true}
use mathlib.Core.List.{List, [], ◌∷◌}
use mathlib.Core.Path.{◌≡◌, refl, sym, ap, ◌∙◌}
use native.Mathlib.Numerals.{add-one}
use native.Mathlib.Omega.{arith}
use lib.Dec.{eqb}
use lib.ListN.{length, get_or, drop}
use lib.Seq.{drop-cons}
use Rattle.std.specs.declared.result.Result.TheVariants.{Ok}
use Rattle.std.specs.declared.result.Result.{Result}
use Rattle.words.specs.rules.Choice.{pick}
use Rattle.words.proofs.Choice.{chosen, passed, by_test, both}
use Rattle.opcodes.specs.rules.Opcodes.{allowed, row_serves, found_in, with_words}
use Rattle.opcodes.specs.declared.Command.{Command}
use Rattle.opcodes.specs.declared.Dialect.{Dialect}
use Rattle.opcodes.specs.declared.Mode.{Mode}
use Rattle.opcodes.specs.declared.Row.{Row}
use Rattle.opcodes.specs.declared.Known.{Known}
use Rattle.opcodes.specs.declared.Refusal.{Refusal}

pub found_from : (rows : List Row) (opcode : ℕ) (mode : Mode) (dialect : Dialect) (i : ℕ) (other : Row) → i < length rows
    → found_in (drop i rows) opcode mode dialect
    ≡ pick (row_serves (get_or rows i other) opcode mode dialect) (Ok (with_words (get_or rows i other).command (get_or rows i other).words))
    (found_in (drop (i + 1) rows) opcode mode dialect)
unfolding found_in
found_from rows opcode mode dialect i other h = rw (drop-cons rows i other h, add-one) refl

-- what is found with its words is found one way
module _ {E : Type 0} {c d : Command} {n k : ℕ} (found : ◌≡◌ {A = Result Known E} (Ok (with_words c n)) (Ok (with_words d k))) where
  same_known : with_words c n ≡ with_words d k
  same_known = cc

  pub same_command : c ≡ d
  same_command = ap (λ (known : Known). known.command) same_known

  pub same_words : n ≡ k
  same_words = ap (λ (known : Known). known.words) same_known

-- a row that serves is one that mode and dialect allow
serves_allowed : (row : Row) (opcode : ℕ) (mode : Mode) (dialect : Dialect) → row_serves row opcode mode dialect ≡ true → allowed row mode dialect ≡ true
unfolding row_serves
serves_allowed row opcode mode dialect e = (both (eqb row.opcode opcode) (allowed row mode dialect) e).1

-- a test of every row that a mode and a dialect allow
unfoldable pub every_row : Mode → Dialect → (Command → ℕ → Bool) → List Row → Bool
every_row mode dialect test [] = true
every_row mode dialect test (row ∷ rest) = (not (allowed row mode dialect) || test row.command row.words) && every_row mode dialect test rest

-- what every row passes, a row that is found passes
pub found_passes : (mode : Mode) (dialect : Dialect) (test : Command → ℕ → Bool) (rows : List Row) (opcode : ℕ) (command : Command) (words : ℕ)
    → every_row mode dialect test rows ≡ true → found_in rows opcode mode dialect ≡ Ok (with_words command words) → test command words ≡ true
unfolding every_row found_in
found_passes mode dialect test [] opcode command words every found = let z : ◌≡◌ {A = ℕ} 0 1 = cc in absurd (omega arith)
found_passes mode dialect test (row ∷ rest) opcode command words every found =
    let parts = both (not (allowed row mode dialect) || test row.command row.words) (every_row mode dialect test rest) every in
    by_test (row_serves row opcode mode dialect)
    (λ serves.
    let here : ◌≡◌ {A = Result Known Refusal} (Ok (with_words row.command row.words)) (Ok (with_words command words)) = sym (chosen _ _ _ serves) ∙ found in
    rw (← same_command here, ← same_words here) (allowed_passes (allowed row mode dialect) (test row.command row.words)
    (serves_allowed row opcode mode dialect serves) parts.0))
    (λ other. found_passes mode dialect test rest opcode command words parts.1 (sym (passed _ _ _ other) ∙ found))
  where
    allowed_passes : (a t : Bool) → a ≡ true → (not a || t) ≡ true → t ≡ true
    allowed_passes true t e h = h
    allowed_passes false t e h = absurd (false≢true e)

-- An opcode's row in flash mode gives its row in sent mode: the table has one opcode for each command, and the rows of both modes are there by computing.
use Prim.Native.Nat.{ℕ}
use mathlib.Core.Bool.{Bool, true, ◌&&◌, true≢false}
use mathlib.Core.List.{List, [], ◌∷◌}
use mathlib.Core.Logic.{◌≢◌}
use mathlib.Core.Path.{◌≡◌, refl, sym, ap, ◌∙◌}
use native.Mathlib.Omega.{arith}
use lib.Dec.{eqb}
use borrow.Author.Tests.{eqb-true}
use Rattle.std.specs.declared.result.Result.{Result}
use Rattle.std.specs.declared.result.Result.TheVariants.{Ok, Err}
use Rattle.words.specs.rules.Choice.{pick}
use Rattle.words.proofs.Choice.{chosen, passed, by_test, both}
use Rattle.opcodes.specs.rules.Opcodes.{rows, retired, allowed, row_serves, found_in, looked_up, with_words}
use Rattle.opcodes.specs.declared.Command.{Command}
use Rattle.opcodes.specs.declared.Command.TheVariants as command
use Rattle.opcodes.specs.declared.Dialect.{Dialect}
use Rattle.opcodes.specs.declared.Dialect.TheVariants.{Am17xx, Dm648}
use Rattle.opcodes.specs.declared.Mode.{Mode}
use Rattle.opcodes.specs.declared.Mode.TheVariants.{Flash, Sent}
use Rattle.opcodes.specs.declared.Row.{Row}
use Rattle.opcodes.proofs.Counts.{row_is, row-is}
use Rattle.opcodes.specs.declared.Known.{Known}
use Rattle.opcodes.proofs.Rows.{same_command}
use Rattle.opcodes.specs.declared.Refusal.{Refusal}
use Rattle.opcodes.specs.declared.Refusal.TheVariants as refusal
use Rattle.law_modes.proofs.Modes.{shared_rows}

-- a command's opcode
unfoldable pub opcode_of : Command → ℕ
opcode_of command.Load = 0x58535901
opcode_of command.Fill = 0x5853590A
opcode_of command.BootTable = 0x58535907
opcode_of command.Enable = 0x58535903
opcode_of command.Disable = 0x58535904
opcode_of command.Request = 0x58535902
opcode_of command.StartOver = 0x58535908
opcode_of command.JumpAndClose = 0x58535906
opcode_of command.Ping = 0x5853590B
opcode_of command.SequentialRead = 0x58535963

-- every row has it
unfoldable every_opcode : List Row → Bool
every_opcode [] = true
every_opcode (row ∷ rest) = eqb row.opcode (opcode_of row.command) && every_opcode rest

all_opcodes : every_opcode rows ≡ true
unfolding every_opcode opcode_of rows
all_opcodes = refl

-- and so has the row that is found
found_opcode : (rows : List Row) (opcode : ℕ) (mode : Mode) (dialect : Dialect) (c : Command) (words : ℕ) → every_opcode rows ≡ true
    → found_in rows opcode mode dialect ≡ Ok (with_words c words) → opcode ≡ opcode_of c
unfolding every_opcode found_in row_serves
found_opcode [] opcode mode dialect c words every found = let z : ◌≡◌ {A = ℕ} 0 1 = cc in absurd (omega arith)
found_opcode (row ∷ rest) opcode mode dialect c words every found =
    let parts = both (eqb row.opcode (opcode_of row.command)) (every_opcode rest) every in
    by_test (row_serves row opcode mode dialect)
    (λ serves.
    let here : ◌≡◌ {A = Result Known Refusal} (Ok (with_words row.command row.words)) (Ok (with_words c words)) = sym (chosen _ _ _ serves) ∙ found in
    let same : row.command ≡ c = same_command here in
    sym (eqb-true _ _ (both (eqb row.opcode opcode) (allowed row mode dialect) serves).0) ∙ eqb-true _ _ parts.0 ∙ ap opcode_of same)
    (λ other. found_opcode rest opcode mode dialect c words parts.1 (sym (passed _ _ _ other) ∙ found))

known_opcode : (opcode : ℕ) (mode : Mode) (dialect : Dialect) (c : Command) (words : ℕ) → looked_up opcode mode dialect ≡ Ok (with_words c words)
    → opcode ≡ opcode_of c
unfolding looked_up
known_opcode opcode mode dialect c words known =
    by_test (eqb opcode retired)
    (λ gone.
    let other : ◌≡◌ {A = Result Known Refusal} (Err refusal.Retired) (Ok (with_words c words)) = sym (chosen _ _ _ gone) ∙ known in
    let z : ◌≡◌ {A = ℕ} 0 1 = cc in
    absurd (omega arith))
    (λ stands. found_opcode rows opcode mode dialect c words all_opcodes (sym (passed _ _ _ stands) ∙ known))

-- a row by its count of words
counted : {found : Result Known Refusal} {c : Command} {n words : ℕ} → found ≡ Ok (with_words c n) → eqb words n ≡ true → found ≡ Ok (with_words c words)
counted {found} {c} {n} {words} e row = e ∙ ap (λ (n : ℕ). Ok (with_words c n)) (sym (eqb-true words n row))

-- a command's opcode in sent mode, with the words that it has in flash mode
in_sent : (dialect : Dialect) (c : Command) (words : ℕ) → c ≢ command.Request → c ≢ command.SequentialRead → row_is Flash dialect c words ≡ true
    → looked_up (opcode_of c) Sent dialect ≡ Ok (with_words c words)
unfolding row_is opcode_of
in_sent dialect command.Load words no_request no_read row = counted (shared_rows.load dialect).in_sent row
in_sent dialect command.Fill words no_request no_read row = counted (shared_rows.fill dialect).in_sent row
in_sent dialect command.BootTable words no_request no_read row = counted (shared_rows.boot-table dialect).in_sent row
in_sent dialect command.Enable words no_request no_read row = counted (shared_rows.enable dialect).in_sent row
in_sent dialect command.Disable words no_request no_read row = counted (shared_rows.disable dialect).in_sent row
in_sent dialect command.Request words no_request no_read row = absurd (no_request refl)
in_sent dialect command.StartOver words no_request no_read row = absurd (true≢false (sym row))
in_sent Am17xx command.JumpAndClose words no_request no_read row = counted shared_rows.jump_and_close.in_sent row
in_sent Dm648 command.JumpAndClose words no_request no_read row = counted shared_rows.with-totals.in_sent row
in_sent dialect command.Ping words no_request no_read row = absurd (true≢false (sym row))
in_sent dialect command.SequentialRead words no_request no_read row = absurd (no_read refl)

pub sent_row : (dialect : Dialect) (opcode : ℕ) (c : Command) (words : ℕ) → c ≢ command.Request → c ≢ command.SequentialRead
    → looked_up opcode Flash dialect ≡ Ok (with_words c words) → looked_up opcode Sent dialect ≡ Ok (with_words c words)
sent_row dialect opcode c words no_request no_read known =
    ap (λ (o : ℕ). looked_up o Sent dialect) (known_opcode opcode Flash dialect c words known)
    ∙ in_sent dialect c words no_request no_read (row-is Flash dialect opcode c words known)

-- a Request has no words in sent mode
pub request_row : (dialect : Dialect) (opcode words : ℕ) → looked_up opcode Flash dialect ≡ Ok (with_words command.Request words)
    → looked_up opcode Sent dialect ≡ Ok (with_words command.Request 0)
unfolding opcode_of
request_row dialect opcode words known =
    ap (λ (o : ℕ). looked_up o Sent dialect) (known_opcode opcode Flash dialect command.Request words known) ∙ (shared_rows.request dialect).in_sent

-- Start-Over has none either
pub over_row : (dialect : Dialect) → looked_up 0x58535908 Sent dialect ≡ Ok (with_words command.StartOver 0)
unfolding looked_up found_in rows row_serves pick
over_row Am17xx = refl
over_row Dm648 = refl

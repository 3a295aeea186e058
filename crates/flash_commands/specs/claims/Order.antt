-- The order of the two numbers that a Jump & Close is refused with.
use Rattle.std.specs.Prelude.{ℕ, true, ◌≡◌}
use Rattle.opcodes.specs.rules.Answers.{code_of}
use Rattle.ledger.specs.rules.Totals.{standing, differs}
use Rattle.commands.specs.rules.Commands.{judged_code, entry_judged}
use Rattle.flash_session.specs.declared.Session.{Session}
use Rattle.flash_commands.specs.rules.Commands.{closed}

-- 17 after 10
pub record TotalsAfterEntry (s : Session) (next address sections bytes : ℕ) : Type 0 where
  -- an address that may not be entered is 10, whatever totals are named
  pub entry : judged_code (entry_judged s.windows address) ≡ 10 → code_of (closed s next address sections bytes).refusal ≡ 10
  -- one that may be is 17 where they differ
  pub totals : judged_code (entry_judged s.windows address) ≡ 0 → differs s.dialect s.totals (standing sections bytes) ≡ true
      → code_of (closed s next address sections bytes).refusal ≡ 17

-- for every session and every word
abbrev pub OrderOfAClose : Type 0
OrderOfAClose = (s : Session) (next address sections bytes : ℕ) → TotalsAfterEntry s next address sections bytes

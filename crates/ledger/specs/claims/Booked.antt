-- The totals and the next number of a session are those of the account of what it took: each opcode, each accepted command and each flash call goes on with it.
use Rattle.std.specs.Prelude.{◌≡◌, ℕ, ◌+◌, Bool, true, false, List, [], ◌∷◌, ◌++◌}
use Rattle.opcodes.specs.declared.Command.{Command}
use Rattle.opcodes.specs.declared.Command.TheVariants as command
use Rattle.opcodes.specs.declared.Dialect.{Dialect}
use Rattle.opcodes.specs.declared.Dialect.TheVariants.{Am17xx, Dm648}
use Rattle.ledger.specs.rules.Totals.{standing, nothing, would_pass, counted, is_spent, numbered, turned, in_flash}
use Rattle.ledger.specs.claims.Account.{Act, section, load, setting, enable, asked, matched, retry, other, Count, Account, account, numbers_told}
use Rattle.ledger.specs.declared.Happening.{Happening}
use Rattle.ledger.specs.declared.Happening.TheVariants as happening
use Rattle.ledger.specs.declared.Standing.{Standing}
use Rattle.ledger.specs.declared.Totals.{Totals}

-- the totals that stand of a count: none in AM17xx
abbrev pub standing_of : Dialect → Count → Standing
standing_of Am17xx c = nothing
standing_of Dm648 c = standing c.sections c.bytes

-- the next number once so many are given, where numbers are kept
abbrev pub next_of : Bool → ℕ → ℕ
next_of false given = 0
next_of true given = given + 1

-- the totals of a session with such an account, a Request by line standing unsettled or not
abbrev pub totals_of : Dialect → Bool → Account → Bool → Totals
totals_of dialect numbering a asks =
    record {
      now = standing_of dialect a.now;
      mark = standing_of dialect a.mark;
      asked = asks;
      next = next_of numbering a.now.numbers;
      back = next_of numbering a.mark.numbers;
    }

-- the acts of a session from where a Request stands unsettled or not
abbrev pub since : Bool → List Act → List Act
since true acts = asked ∷ acts
since false acts = acts

-- from an account some acts lead to totals: to those of the account that they lead to, whatever acts come later; before and after them a Request stands
-- unsettled or not
pub record Leads (dialect : Dialect) (numbering : Bool) (a : Account) (before : Bool) (acts : List Act) (t : Totals) (after : Bool) : Type 0 where
  pub there : Account
  pub totals : t ≡ totals_of dialect numbering there after
  pub goes_on : (later : List Act) → account a (since before (acts ++ later)) ≡ account there (since after later)
  pub tells_on : (later : List Act) → numbers_told a (since before (acts ++ later)) ≡ numbers_told a acts ++ numbers_told there (since after later)

-- a choice by what a command is to the mark: an Enable, a Request, a Start-Over, or another
abbrev pub by_mark : {A : Type 0} → Command → A → A → A → A → A
by_mark command.Load enables requests starts_over rest = rest
by_mark command.Fill enables requests starts_over rest = rest
by_mark command.BootTable enables requests starts_over rest = rest
by_mark command.Enable enables requests starts_over rest = enables
by_mark command.Disable enables requests starts_over rest = rest
by_mark command.Request enables requests starts_over rest = requests
by_mark command.StartOver enables requests starts_over rest = starts_over
by_mark command.JumpAndClose enables requests starts_over rest = rest
by_mark command.Ping enables requests starts_over rest = rest
by_mark command.SequentialRead enables requests starts_over rest = rest

-- an opcode that is taken by line; a load, a fill or a setting is not accepted yet
abbrev pub opcode_act : Command → Act
opcode_act command = by_mark command enable asked retry other

-- what happened in a flash call that was accepted
abbrev pub happened_act : Happening → Act
happened_act (happening.Section size) = section size
happened_act happening.Setting = setting
happened_act happening.Enable = enable
happened_act happening.Passed = matched
happened_act happening.Retried = retry
happened_act happening.Other = other

-- 18 and 25 are not given: a section takes no total past the largest, and what takes a number finds one
abbrev pub Room : Dialect → Totals → Happening → Type 0
Room dialect t (happening.Section size) = (would_pass dialect t size ≡ false) × (is_spent t ≡ false)
Room dialect t happening.Setting = is_spent t ≡ false
Room dialect t happening.Enable = Unit {0}
Room dialect t happening.Passed = Unit {0}
Room dialect t happening.Retried = Unit {0}
Room dialect t happening.Other = Unit {0}

module _ (dialect : Dialect) (numbering : Bool) (a : Account) where
  -- the totals of the account; no Request stands unsettled
  abbrev pub totals : Totals
  totals = totals_of dialect numbering a false

  pub record TotalsBooked : Type 0 where
    -- an opcode that is taken by line
    pub opcode : (asks : Bool) (c : Command)
        → Leads dialect numbering a asks (opcode_act c ∷ []) (turned c (totals_of dialect numbering a asks)) (by_mark c false true false false)
    -- what happened in a flash call; a fill and a setting by line do the same
    pub happened : (h : Happening) → Room dialect totals h → Leads dialect numbering a false (happened_act h ∷ []) (in_flash dialect totals h) false
    -- a load by line counts as a section does
    pub begun : (size : ℕ) → Room dialect totals (happening.Section size)
        → Leads dialect numbering a false (load size ∷ []) (numbered (counted dialect totals size)) false

-- so in every dialect, with numbers and without, from every account
abbrev pub AllBooked : Type 0
AllBooked = (dialect : Dialect) (numbering : Bool) (a : Account) → TotalsBooked dialect numbering a

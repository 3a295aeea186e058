-- Flash and line agree on the totals and the next number, and what they come to in each dialect.
use Rattle.std.specs.Prelude.{◌≡◌, ℕ, ◌+◌, ◌<◌, ◌≤◌, false, ◌≢◌, List, [], ◌∷◌, length}
use Rattle.opcodes.specs.declared.Command.{Command}
use Rattle.opcodes.specs.declared.Command.TheVariants as command
use Rattle.opcodes.specs.declared.Dialect.{Dialect}
use Rattle.opcodes.specs.declared.Dialect.TheVariants.{Am17xx}
use Rattle.ledger.specs.rules.Totals.{standing, nothing, from_one, is_past, is_other, one_more, counted, first_spent, is_spent, numbered, settled, turned}
use Rattle.ledger.specs.rules.Totals.{in_flash}
use Rattle.ledger.specs.declared.Happening.{Happening}
use Rattle.ledger.specs.declared.Happening.TheVariants as happening
use Rattle.ledger.specs.declared.Standing.{Standing}
use Rattle.ledger.specs.declared.Totals.{Totals}

-- the same in sent mode, where each opcode that is taken turns them
abbrev pub on_line : Dialect → Totals → Happening → Totals
on_line dialect t (happening.Section size) = numbered (counted dialect (turned command.Load t) size)
on_line dialect t happening.Setting = numbered (turned command.BootTable t)
on_line dialect t happening.Enable = turned command.Enable t
on_line dialect t happening.Passed = turned command.Request t
on_line dialect t happening.Retried = turned command.StartOver (turned command.Request t)
on_line dialect t happening.Other = turned command.Disable t

-- several, one after the other
unfoldable pub all_of : (Totals → Happening → Totals) → Totals → List Happening → Totals
all_of step t [] = t
all_of step t (e ∷ es) = all_of step (step t e) es

-- the totals of a flash session, and its next number, are the settled ones of a sent session that did the same
abbrev pub FlashAndLine : Type 0
FlashAndLine =
    (dialect : Dialect) (t : Totals) (happenings : List Happening)
    → settled (all_of (on_line dialect) t happenings) ≡ all_of (in_flash dialect) (settled t) happenings

-- numbers added up
unfoldable pub added : List ℕ → ℕ
added [] = 0
added (n ∷ ns) = n + added ns

-- one more section for each of some sizes, and the sizes as bytes
abbrev pub plus : Standing → List ℕ → Standing
plus now sizes = standing (now.sections.0 + length sizes) (now.bytes.0 + added sizes)

-- nothing stands, now or at the mark
abbrev pub Zero : Totals → Type 0
Zero t = (t.now ≡ nothing) × (t.mark ≡ nothing)

-- in AM17xx it stays so, whatever opcode is taken, section loaded or number given
pub record StaysZero : Type 0 where
  pub counting : (t : Totals) (size : ℕ) → Zero t → Zero (counted Am17xx t size)
  pub numbering : (t : Totals) → Zero t → Zero (numbered t)
  pub turning : (t : Totals) (c : Command) → Zero t → Zero (turned c t)

-- no numbers are kept
abbrev pub KeepsNone : Totals → Type 0
KeepsNone t = (t.next ≡ 0) × (t.back ≡ 0)

-- a session that keeps none never does, and is never refused with 25
pub record NeverNumbers : Type 0 where
  pub counting : (dialect : Dialect) (t : Totals) (size : ℕ) → KeepsNone t → KeepsNone (counted dialect t size)
  pub numbering : (t : Totals) → KeepsNone t → numbered t ≡ t
  pub turning : (t : Totals) (c : Command) → KeepsNone t → KeepsNone (turned c t)
  pub passes : (t : Totals) → KeepsNone t → is_spent t ≡ false

-- a number that is one, or the first that no command gets
pub record IsNumber (n : ℕ) : Type 0 where
  pub some : 0 < n
  pub most : n ≤ first_spent

-- numbers are kept
abbrev pub HasNumbers : Totals → Type 0
HasNumbers t = IsNumber t.next × IsNumber t.back

-- a session that keeps them from its opening on goes on so
pub record NumbersStay : Type 0 where
  pub opening : (t : Totals) → HasNumbers (from_one t)
  pub counting : (dialect : Dialect) (t : Totals) (size : ℕ) → HasNumbers t → HasNumbers (counted dialect t size)
  pub numbering : (t : Totals) → HasNumbers t → HasNumbers (numbered t)
  pub turning : (t : Totals) (c : Command) → HasNumbers t → HasNumbers (turned c t)

-- where numbers are kept and not spent, each is one more than the one before, and below the first that no command gets
pub record NumbersOn : Type 0 where
  pub one_more : (t : Totals) → t.next ≢ 0 → is_spent t ≡ false → (numbered t).next ≡ t.next + 1
  pub below : (t : Totals) → is_spent t ≡ false → t.next < first_spent

-- where no total would pass the largest, one more section is counted in whole numbers
abbrev pub CountsOn : Type 0
CountsOn =
    (now : Standing) (size : ℕ) → is_past now size ≡ false → one_more now size ≡ standing (now.sections.0 + 1) (now.bytes.0 + size)

-- a close that 17 does not refuse names the totals
abbrev pub NamesThem : Type 0
NamesThem = (now named : Standing) → is_other now named ≡ false → named ≡ now

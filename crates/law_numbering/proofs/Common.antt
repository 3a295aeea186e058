-- What both modes share: what leaving the numbers out does to totals and to what was written, and which refusals are neither 0 nor 25.
use Rattle.opcodes.specs.declared.Refusal.{Refusal}
use Rattle.std.specs.Prelude.{Some, None, Ok, Err}
use Prim.Native.Nat.{ℕ}
use mathlib.Core.Bool.{Bool, true, false}
use mathlib.Core.Logic.{◌≢◌}
use mathlib.Core.Path.{◌≡◌, refl, sym, ap}
use lib.Dec.{eqb}
use borrow.Author.Tests.{eqb-false}
use Rattle.words.specs.rules.Choice.{pick}
use Rattle.opcodes.specs.rules.Answers.{code_of}
use Rattle.opcodes.specs.declared.Command.{Command}
use Rattle.opcodes.specs.declared.Command.TheVariants as command
use Rattle.opcodes.specs.declared.Dialect.{Dialect}
use Rattle.opcodes.specs.declared.Dialect.TheVariants.{Am17xx, Dm648}
use Rattle.opcodes.specs.rules.Refusals.{Verdict}
use Rattle.opcodes.specs.rules.Refusals as refusal
use Rattle.ledger.specs.claims.Agreement.{KeepsNone}
use Rattle.ledger.specs.rules.Totals.{would_pass, differs, counted, following, numbered, marked, settled, asking, turned}
use Rattle.ledger.specs.declared.Standing.{Standing}
use Rattle.ledger.specs.declared.Totals.{Totals}
use Rattle.commands.specs.rules.Commands.{shape_of, Judged, Shape}
use Rattle.commands.specs.rules.Wrote.{bytes_wrote, shape_wrote, setting_wrote}
use Rattle.commands.proofs.Judging.{EachRefusal}
use Rattle.law_numbering.specs.claims.LeftOut.{unnumbered, by_any}

-- totals without numbers are those with the numbers left out
pub none_left : (t : Totals) → KeepsNone t → unnumbered t ≡ t
none_left t none = λ i. record { now = t.now; mark = t.mark; asked = t.asked; next = sym none.0 i; back = sym none.1 i }

-- 17 and 18 do not see the numbers
pub passes_alike : (d : Dialect) (t : Totals) (size : ℕ) → would_pass d t size ≡ would_pass d (unnumbered t) size
passes_alike Am17xx t size = refl
passes_alike Dm648 t size = refl

pub differs_alike : (d : Dialect) (t : Totals) (named : Standing) → differs d t named ≡ differs d (unnumbered t) named
differs_alike Am17xx t named = refl
differs_alike Dm648 t named = refl

-- one more section, its number taken; one more number
pub counted_alike : (d : Dialect) (t : Totals) (size : ℕ) → unnumbered (numbered (counted d t size)) ≡ numbered (counted d (unnumbered t) size)
unfolding following pick
counted_alike Am17xx t size = refl
counted_alike Dm648 t size = refl

pub numbered_alike : (t : Totals) → unnumbered (numbered t) ≡ numbered (unnumbered t)
unfolding following pick
numbered_alike t = refl

-- what was written, by its judgement
pub bytes_alike : (judged : Judged) (size number : ℕ) → by_any (bytes_wrote judged size number) ≡ bytes_wrote judged size 0
bytes_alike (Ok place) size number = refl
bytes_alike (Err q) size number = refl

shape_alike : (place : ℕ) (shape : Shape) (number : ℕ) → by_any (shape_wrote place shape number) ≡ shape_wrote place shape 0
shape_alike place None number = refl
shape_alike place (Some bits) number = refl

pub setting_alike : (judged : Judged) (word number : ℕ) → by_any (setting_wrote judged word number) ≡ setting_wrote judged word 0
setting_alike (Ok place) word number = shape_alike place (shape_of word) number
setting_alike (Err q) word number = refl

-- a refusal, and not 25
pub record Other (q : Verdict) : Type 0 where
  pub refuses : code_of q ≢ 0
  pub not_25 : code_of q ≢ 25

pub other : (q : Verdict) → eqb (code_of q) 0 ≡ false → eqb (code_of q) 25 ≡ false → Other q
other q e f = record { refuses = eqb-false _ _ e; not_25 = eqb-false _ _ f }

-- so of a refusal alone
abbrev pub OtherRefusal : Refusal → Type 0
OtherRefusal q = Other (Some q)

pub each_other : EachRefusal OtherRefusal
each_other =
    record {
      type-word = other refusal.TypeWord refl refl;
      too_wide = other refusal.TooWide refl refl;
      unaligned = other refusal.Unaligned refl refl;
      range = other refusal.Range refl refl;
      entry = other refusal.Entry refl refl;
    }

-- nor is what is accepted
pub none_not : code_of refusal.None ≢ 25
none_not = eqb-false _ _ refl

-- an opcode that is taken
unnumbered_choice : (asks : Bool) (t u : Totals) → unnumbered (pick asks t u) ≡ pick asks (unnumbered t) (unnumbered u)
unfolding pick
unnumbered_choice true t u = refl
unnumbered_choice false t u = refl

settled_alike : (t : Totals) → unnumbered (settled t) ≡ settled (unnumbered t)
settled_alike t = unnumbered_choice t.asked (marked t) t

pub turned_alike : (c : Command) (t : Totals) → unnumbered (turned c t) ≡ turned c (unnumbered t)
turned_alike command.Load t = settled_alike t
turned_alike command.Fill t = settled_alike t
turned_alike command.BootTable t = settled_alike t
turned_alike command.Enable t = refl
turned_alike command.Disable t = settled_alike t
turned_alike command.Request t = ap asking (settled_alike t)
turned_alike command.StartOver t = refl
turned_alike command.JumpAndClose t = settled_alike t
turned_alike command.Ping t = settled_alike t
turned_alike command.SequentialRead t = settled_alike t

-- Flash and line agree: what happens does to the settled totals of a line what it does to those of a flash session, one happening after the other.
use Rattle.std.proofs.Common.{◌≡◌, ℕ, eqb, leb, [], ◌∷◌, sym, refl, ap, ◌∙◌, arith, eqb-true, leb-false}
use Rattle.words.specs.rules.Choice.{pick}
use Rattle.words.proofs.Choice.{by_test, of_choice}
use Rattle.opcodes.specs.declared.Command.{Command}
use Rattle.opcodes.specs.declared.Command.TheVariants as command
use Rattle.opcodes.specs.declared.Dialect.{Dialect}
use Rattle.opcodes.specs.declared.Dialect.TheVariants.{Am17xx, Dm648}
use Rattle.ledger.specs.rules.Totals.{counted, first_spent, following, settled, turned, in_flash}
use Rattle.ledger.specs.claims.Agreement.{on_line, all_of, FlashAndLine, Zero, StaysZero, KeepsNone, NeverNumbers, IsNumber, HasNumbers, NumbersStay}
use Rattle.ledger.specs.declared.Happening.{Happening}
use Rattle.ledger.specs.declared.Happening.TheVariants as happening
use Rattle.ledger.specs.declared.Totals.{Totals}
use Rattle.ledger.proofs.Laws.{settles, stays, settled_asks_nothing, settled_once, marked_settled, settled_asking, counted_keeps}

one : (dialect : Dialect) (t : Totals) (h : Happening) → settled (on_line dialect t h) ≡ in_flash dialect (settled t) h
unfolding pick
one dialect t (happening.Section size) = stays _ ((counted_keeps dialect (settled t) size).1 ∙ settled_asks_nothing t)
one dialect t happening.Setting = stays _ (settled_asks_nothing t)
one dialect t happening.Enable = sym (marked_settled t)
one dialect t happening.Passed = settled_asking (settled t)
one dialect t happening.Retried = refl
one dialect t happening.Other = settled_once t

pub flash_and_line : FlashAndLine
unfolding all_of
flash_and_line dialect t [] = refl
flash_and_line dialect t (h ∷ hs) =
    flash_and_line dialect (on_line dialect t h) hs ∙ ap (λ (u : Totals). all_of (in_flash dialect) u hs) (one dialect t h)

zero_settled : (t : Totals) → Zero t → Zero (settled t)
zero_settled t zero = by_test t.asked (λ e. rw (settles t e) (zero.0, zero.0)) (λ e. rw (stays t e) zero)

turning : (t : Totals) (c : Command) → Zero t → Zero (turned c t)
turning t command.Load zero = zero_settled t zero
turning t command.Fill zero = zero_settled t zero
turning t command.BootTable zero = zero_settled t zero
turning t command.Enable zero = (zero.0, zero.0)
turning t command.Disable zero = zero_settled t zero
turning t command.Request zero = zero_settled t zero
turning t command.StartOver zero = (zero.1, zero.1)
turning t command.JumpAndClose zero = zero_settled t zero
turning t command.Ping zero = zero_settled t zero
turning t command.SequentialRead zero = zero_settled t zero

pub stays_zero : StaysZero
stays_zero = record { counting = λ t size zero. zero; numbering = λ t zero. zero; turning = turning }

none_settled : (t : Totals) → KeepsNone t → KeepsNone (settled t)
none_settled t none = by_test t.asked (λ e. rw (settles t e) (none.0, none.0)) (λ e. rw (stays t e) none)

none_turned : (t : Totals) (c : Command) → KeepsNone t → KeepsNone (turned c t)
none_turned t command.Load none = none_settled t none
none_turned t command.Fill none = none_settled t none
none_turned t command.BootTable none = none_settled t none
none_turned t command.Enable none = (none.0, none.0)
none_turned t command.Disable none = none_settled t none
none_turned t command.Request none = none_settled t none
none_turned t command.StartOver none = (none.1, none.1)
none_turned t command.JumpAndClose none = none_settled t none
none_turned t command.Ping none = none_settled t none
none_turned t command.SequentialRead none = none_settled t none

none_counted : (dialect : Dialect) (t : Totals) (size : ℕ) → KeepsNone t → KeepsNone (counted dialect t size)
none_counted Am17xx t size none = none
none_counted Dm648 t size none = none

pub never_numbers : NeverNumbers
unfolding pick following
never_numbers =
    record {
      counting = none_counted;
      numbering = λ t none. rw none.0;
      turning = none_turned;
      passes = λ t none. rw none.0;
    }

has_settled : (t : Totals) → HasNumbers t → HasNumbers (settled t)
has_settled t has = by_test t.asked (λ e. rw (settles t e) (has.0, has.0)) (λ e. rw (stays t e) has)

has_turned : (t : Totals) (c : Command) → HasNumbers t → HasNumbers (turned c t)
has_turned t command.Load has = has_settled t has
has_turned t command.Fill has = has_settled t has
has_turned t command.BootTable has = has_settled t has
has_turned t command.Enable has = (has.0, has.0)
has_turned t command.Disable has = has_settled t has
has_turned t command.Request has = has_settled t has
has_turned t command.StartOver has = (has.1, has.1)
has_turned t command.JumpAndClose has = has_settled t has
has_turned t command.Ping has = has_settled t has
has_turned t command.SequentialRead has = has_settled t has

has_counted : (dialect : Dialect) (t : Totals) (size : ℕ) → HasNumbers t → HasNumbers (counted dialect t size)
has_counted Am17xx t size has = has
has_counted Dm648 t size has = has

-- the number after a number is one: a spent one stays
has_following : (n : ℕ) → IsNumber n → IsNumber (following n)
unfolding following
has_following n is =
    of_choice IsNumber (eqb n 0) (λ none. absurd (omega (arith, is.some, eqb-true n 0 none)))
    (λ some. of_choice IsNumber (leb first_spent n) (λ spent. is)
    (λ left. record { some = omega arith; most = omega (arith, leb-false first_spent n left) }))

the_first : IsNumber 1
the_first = record { some = omega arith; most = omega arith }

pub numbers_stay : NumbersStay
numbers_stay =
    record {
      opening = λ t. (the_first, the_first);
      counting = has_counted;
      numbering = λ t has. (has_following t.next has.0, has.1);
      turning = has_turned;
    }

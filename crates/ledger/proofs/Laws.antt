-- The laws of the totals: each by whether a Request stands, or by computing.
use Rattle.std.proofs.Common.{◌≡◌, ℕ, ◌+◌, ◌%◌, ◌^◌, ◌≤◌, Bool, true, false, not, ◌&&◌, ◌||◌, eqb, ltb, List, [], ◌∷◌, ◌++◌, sym, refl, ap, ◌∙◌, ap₂}
use Rattle.std.proofs.Common.{true≢false, mod-eq_of_lt, arith, length-append, ltb-false, ne_eqb, eqb-true, leb-false}
use Rattle.words.specs.rules.Choice.{pick}
use Rattle.words.proofs.Choice.{chosen, passed, by_test, both}
use Rattle.opcodes.specs.declared.Command.{Command}
use Rattle.opcodes.specs.declared.Command.TheVariants as command
use Rattle.opcodes.specs.declared.Dialect.{Dialect}
use Rattle.opcodes.specs.declared.Dialect.TheVariants.{Am17xx, Dm648}
use Rattle.ledger.specs.rules.Totals.{standing, numbered_as, most, is_past, is_other, one_more, counted, following, numbered, marked, settled, asking}
use Rattle.ledger.specs.rules.Totals.{put_back, turned, would_pass}
use Rattle.ledger.specs.claims.Agreement.{CountsOn, NamesThem, NumbersOn, added, plus}
use Rattle.ledger.specs.declared.Standing.{Standing}
use Rattle.ledger.specs.declared.Totals.{Totals}

-- settling: what it does where a Request stands and where none does; once done it is done
pub settles : (t : Totals) → t.asked ≡ true → settled t ≡ marked t
settles t e = chosen _ _ _ e

pub stays : (t : Totals) → t.asked ≡ false → settled t ≡ t
stays t e = passed _ _ _ e

pub settled_asks_nothing : (t : Totals) → (settled t).asked ≡ false
settled_asks_nothing t =
    by_test t.asked (λ e. ap (λ (u : Totals). u.asked) (settles t e)) (λ e. ap (λ (u : Totals). u.asked) (stays t e) ∙ e)

pub settled_once : (t : Totals) → settled (settled t) ≡ settled t
settled_once t = stays (settled t) (settled_asks_nothing t)

-- what stands now is not settling's business
pub settled_now : (t : Totals) → (settled t).now ≡ t.now
settled_now t =
    by_test t.asked (λ e. ap (λ (u : Totals). u.now) (settles t e)) (λ e. ap (λ (u : Totals). u.now) (stays t e))

pub settled_next : (t : Totals) → (settled t).next ≡ t.next
settled_next t =
    by_test t.asked (λ e. ap (λ (u : Totals). u.next) (settles t e)) (λ e. ap (λ (u : Totals). u.next) (stays t e))

-- so a mark makes no difference between totals and settled totals
pub marked_settled : (t : Totals) → marked (settled t) ≡ marked t
marked_settled t =
    ap₂ (λ (now : Standing) (next : ℕ). record { now = now; mark = now; asked = false; next = next; back = next }) (settled_now t) (settled_next t)

-- a Request that stands and is settled is a mark
pub settled_asking : (t : Totals) → settled (asking t) ≡ marked t
unfolding pick
settled_asking t = refl

-- counting keeps the mark, and whether a Request stands
pub counted_keeps : (dialect : Dialect) (t : Totals) (size : ℕ) → ((counted dialect t size).mark ≡ t.mark) × ((counted dialect t size).asked ≡ t.asked)
counted_keeps Am17xx t size = (refl, refl)
counted_keeps Dm648 t size = (refl, refl)

-- put back: after a count, a number, a Request as before them; after a mark nothing changes
pub put_back_counted : (dialect : Dialect) (t : Totals) (size : ℕ) → put_back (counted dialect t size) ≡ put_back t
put_back_counted Am17xx t size = refl
put_back_counted Dm648 t size = refl

pub put_back_numbered : (t : Totals) → put_back (numbered t) ≡ put_back t
put_back_numbered t = refl

pub put_back_asking : (t : Totals) → put_back (asking t) ≡ put_back t
put_back_asking t = refl

-- what an opcode makes of the numbers goes by them alone
settled_numbers : (a by : Totals) → settled (numbered_as a by) ≡ numbered_as (settled (numbered_as a by)) (settled by)
settled_numbers a by =
    by_test by.asked
    (λ e. settles (numbered_as a by) e ∙ sym (ap₂ numbered_as (settles (numbered_as a by) e) (settles by e)))
    (λ e. stays (numbered_as a by) e ∙ sym (ap₂ numbered_as (stays (numbered_as a by) e) (stays by e)))

pub turned_numbers : (c : Command) (a by : Totals) → turned c (numbered_as a by) ≡ numbered_as (turned c (numbered_as a by)) (turned c by)
turned_numbers command.Load a by = settled_numbers a by
turned_numbers command.Fill a by = settled_numbers a by
turned_numbers command.BootTable a by = settled_numbers a by
turned_numbers command.Enable a by = refl
turned_numbers command.Disable a by = settled_numbers a by
turned_numbers command.Request a by = ap asking (settled_numbers a by)
turned_numbers command.StartOver a by = refl
turned_numbers command.JumpAndClose a by = settled_numbers a by
turned_numbers command.Ping a by = settled_numbers a by
turned_numbers command.SequentialRead a by = settled_numbers a by

-- one more section in whole numbers
pub counts_on : CountsOn
unfolding is_past
counts_on now size within = go (ltb most (now.sections.0 + 1)) (ltb most (now.bytes.0 + size)) refl refl within
  where
    fits : (n m : ℕ) → n ≤ most → m ≤ most → standing (n % 2 ^ 32) (m % 2 ^ 32) ≡ standing n m
    fits n m h l = ap₂ standing (mod-eq_of_lt (omega arith)) (mod-eq_of_lt (omega arith))

    go : (a b : Bool) → ltb most (now.sections.0 + 1) ≡ a → ltb most (now.bytes.0 + size) ≡ b → (a || b) ≡ false
        → one_more now size ≡ standing (now.sections.0 + 1) (now.bytes.0 + size)
    go true b e f h = absurd (true≢false h)
    go false b e f h = fits _ _ (ltb-false _ _ e) (ltb-false _ _ (f ∙ h))

-- a number that is one and is not spent is followed by the next
pub numbers_on : NumbersOn
unfolding following
numbers_on =
    record {
      one_more = λ t kept left. passed _ _ _ (ne_eqb _ _ kept) ∙ passed _ _ _ left;
      below = λ t left. leb-false _ _ left;
    }

-- both tests hold where the refusal does not
pub names_them : NamesThem
unfolding is_other
names_them now named same =
    let tests = both _ _ (turned_round (eqb now.sections.0 named.sections.0 && eqb now.bytes.0 named.bytes.0) same) in
    sym (ap₂ standing (eqb-true _ _ tests.0) (eqb-true _ _ tests.1))
  where
    turned_round : (t : Bool) → not t ≡ false → t ≡ true
    turned_round true e = refl
    turned_round false e = absurd (true≢false e)

-- adding up
added_append : (a b : List ℕ) → added (a ++ b) ≡ added a + added b
unfolding added
added_append [] b = omega arith
added_append (n ∷ a) b = omega (arith, added_append a b)

pub plus_none : (now : Standing) → now ≡ plus now []
unfolding added
plus_none now = ap₂ standing (omega arith) (omega arith)

pub plus_more : (now : Standing) (a b : List ℕ) → plus (plus now a) b ≡ plus now (a ++ b)
plus_more now a b = ap₂ standing (omega (arith, length-append a b)) (omega (arith, added_append a b))

pub plus_one : (d : Dialect) (t : Totals) (size : ℕ) → d ≡ Dm648 → would_pass d t size ≡ false → (counted d t size).now ≡ plus t.now (size ∷ [])
unfolding added
plus_one d t size dm fits =
    ap (λ (x : Dialect). (counted x t size).now) dm
    ∙ counts_on t.now size (sym (ap (λ (x : Dialect). would_pass x t size) dm) ∙ fits)
    ∙ ap₂ standing (omega arith) (omega arith)

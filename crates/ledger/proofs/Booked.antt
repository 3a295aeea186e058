-- The totals go on as the account does: an opcode as `Account.antt` has it; 18 and 25 keep the counts within their 32 bits and the numbers below the first
-- that no command gets.
use Rattle.std.proofs.Common.{◌≡◌, ℕ, ◌+◌, Bool, true, false, eqb, leb, [], ◌∷◌, sym, refl, ap, ◌∙◌, subst, ap₂, arith, ne_eqb}
use Rattle.words.specs.rules.Choice.{pick}
use Rattle.words.proofs.Choice.{passed}
use Rattle.opcodes.specs.declared.Command.{Command}
use Rattle.opcodes.specs.declared.Dialect.{Dialect}
use Rattle.opcodes.specs.declared.Dialect.TheVariants.{Am17xx, Dm648}
use Rattle.ledger.specs.rules.Totals.{would_pass, first_spent, is_spent, counted, following, numbered, turned, in_flash}
use Rattle.ledger.specs.claims.Account.{section, load, piece, setting, one_section, one_number, Account, account, numbers_told}
use Rattle.ledger.specs.claims.Booked.{standing_of, next_of, totals_of, Leads, by_mark, opcode_act, happened_act, Room, AllBooked}
use Rattle.ledger.specs.declared.Happening.{Happening}
use Rattle.ledger.specs.declared.Happening.TheVariants as happening
use Rattle.ledger.specs.declared.Standing.{Standing}
use Rattle.ledger.specs.declared.Totals.{Totals}
use Rattle.ledger.proofs.Account.{opcode_leads}
use Rattle.ledger.proofs.Laws.{counts_on}

module _ (dialect : Dialect) (numbering : Bool) (a : Account) where
  abbrev totals : Totals
  totals = totals_of dialect numbering a false

  -- the same totals with another standing, and another next number
  abbrev moved : Standing → ℕ → Totals
  moved now next = record { now = now; mark = totals.mark; asked = false; next = next; back = totals.back }

-- the next number, once one more is given
next_on : (numbering : Bool) (a : Account) → is_spent (totals_of Am17xx numbering a false) ≡ false
    → following (next_of numbering a.now.numbers) ≡ next_of numbering (a.now.numbers + 1)
unfolding following pick
next_on false a left = refl
next_on true a left =
    passed (eqb (a.now.numbers + 1) 0) 0 _ (ne_eqb (a.now.numbers + 1) 0 (λ e. omega (arith, e))) ∙ passed (leb first_spent (a.now.numbers + 1)) _ _ left

-- what stands, once one more section is counted
standing_on : (dialect : Dialect) (numbering : Bool) (a : Account) (size : ℕ) → would_pass dialect (totals_of dialect numbering a false) size ≡ false
    → (counted dialect (totals_of dialect numbering a false) size).now ≡ standing_of dialect (one_section size a.now)
standing_on Am17xx numbering a size fits = refl
standing_on Dm648 numbering a size fits = counts_on (standing_of Dm648 a.now) size fits

module _ (dialect : Dialect) (numbering : Bool) (a : Account) where
  -- one more section, and one more number
  section_totals : (size : ℕ) → Room dialect (totals dialect numbering a) (happening.Section size)
      → numbered (counted dialect (totals dialect numbering a) size)
      ≡ totals_of dialect numbering (record { now = one_section size a.now; mark = a.mark }) false
  section_totals size room =
      counted_moved dialect
      ∙ ap₂ (moved dialect numbering a) (standing_on dialect numbering a size room.0) (next_on numbering a room.1)
    where
      counted_moved : (d : Dialect) → numbered (counted d (totals dialect numbering a) size)
          ≡ moved dialect numbering a (counted d (totals dialect numbering a) size).now (following (next_of numbering a.now.numbers))
      counted_moved Am17xx = refl
      counted_moved Dm648 = refl

  setting-totals : Room dialect (totals dialect numbering a) happening.Setting
      → numbered (totals dialect numbering a) ≡ totals_of dialect numbering (record { now = one_number a.now; mark = a.mark }) false
  setting-totals room = same dialect
    where
      same : (d : Dialect) → numbered (totals d numbering a) ≡ totals_of d numbering (record { now = one_number a.now; mark = a.mark }) false
      same Am17xx = ap (moved Am17xx numbering a (standing_of Am17xx a.now)) (next_on numbering a room)
      same Dm648 = ap (moved Dm648 numbering a (standing_of Dm648 a.now)) (next_on numbering a room)

  section_leads : (size : ℕ) → Room dialect (totals dialect numbering a) (happening.Section size)
      → Leads dialect numbering a false (section size ∷ []) (numbered (counted dialect (totals dialect numbering a) size)) false
  unfolding account numbers_told pick
  section_leads size room = record { there = _; totals = section_totals size room; goes_on = λ later. refl; tells_on = λ later. refl }

  load_leads : (size : ℕ) → Room dialect (totals dialect numbering a) (happening.Section size)
      → Leads dialect numbering a false (load size ∷ []) (numbered (counted dialect (totals dialect numbering a) size)) false
  unfolding account numbers_told pick
  load_leads size room = record { there = _; totals = section_totals size room; goes_on = λ later. refl; tells_on = λ later. refl }

  setting_leads : Room dialect (totals dialect numbering a) happening.Setting
      → Leads dialect numbering a false (setting ∷ []) (numbered (totals dialect numbering a)) false
  unfolding account numbers_told pick
  setting_leads room = record { there = _; totals = setting-totals room; goes_on = λ later. refl; tells_on = λ later. refl }

  happened_leads : (h : Happening) → Room dialect (totals dialect numbering a) h
      → Leads dialect numbering a false (happened_act h ∷ []) (in_flash dialect (totals dialect numbering a) h) false
  unfolding account numbers_told pick
  happened_leads (happening.Section size) room = section_leads size room
  happened_leads happening.Setting room = setting_leads room
  happened_leads happening.Enable room =
      record { there = record { now = a.now; mark = a.now }; totals = refl; goes_on = λ later. refl; tells_on = λ later. refl }
  happened_leads happening.Passed room =
      record { there = record { now = a.now; mark = a.now }; totals = refl; goes_on = λ later. refl; tells_on = λ later. refl }
  happened_leads happening.Retried room =
      record { there = record { now = a.mark; mark = a.mark }; totals = refl; goes_on = λ later. refl; tells_on = λ later. refl }
  happened_leads happening.Other room = record { there = a; totals = refl; goes_on = λ later. refl; tells_on = λ later. refl }

pub all_booked : AllBooked
all_booked dialect numbering a =
    record {
      opcode = opcode_leads dialect numbering a;
      happened = happened_leads dialect numbering a;
      begun = load_leads dialect numbering a;
    }

-- where the totals of a session are those of an account
module _ {dialect : Dialect} {numbering : Bool} {a : Account} {t : Totals} where
  -- and no act is taken, they stay so
  pub none_booked : {asks : Bool} → t ≡ totals_of dialect numbering a asks → Leads dialect numbering a asks [] t asks
  unfolding numbers_told
  none_booked here = record { there = a; totals = here; goes_on = λ later. refl; tells_on = λ later. refl }

  pub opcode_booked : {asks : Bool} (c : Command) → t ≡ totals_of dialect numbering a asks
      → Leads dialect numbering a asks (opcode_act c ∷ []) (turned c t) (by_mark c false true false false)
  opcode_booked {asks} c here =
      subst (λ (u : Totals). Leads dialect numbering a asks (opcode_act c ∷ []) (turned c u) (by_mark c false true false false)) (sym here)
      (opcode_leads dialect numbering a asks c)

  pub happened_booked : (h : Happening) → t ≡ totals_of dialect numbering a false → Room dialect t h
      → Leads dialect numbering a false (happened_act h ∷ []) (in_flash dialect t h) false
  happened_booked h here =
      subst (λ (u : Totals). Room dialect u h → Leads dialect numbering a false (happened_act h ∷ []) (in_flash dialect u h) false) (sym here)
      (happened_leads dialect numbering a h)

  pub load_booked : (size : ℕ) → t ≡ totals_of dialect numbering a false → Room dialect t (happening.Section size)
      → Leads dialect numbering a false (load size ∷ []) (numbered (counted dialect t size)) false
  load_booked size here =
      subst
      (λ (u : Totals). Room dialect u (happening.Section size) → Leads dialect numbering a false (load size ∷ []) (numbered (counted dialect u size)) false)
      (sym here) (load_leads dialect numbering a size)

  -- a word of a load's data changes nothing
  pub piece_booked : t ≡ totals_of dialect numbering a false → Leads dialect numbering a false (piece ∷ []) t false
  unfolding account numbers_told pick
  piece_booked here = record { there = a; totals = here; goes_on = λ later. refl; tells_on = λ later. refl }

-- What a unit does to the totals of an AM17xx: what its word does, and nothing where it only gathers.
use Prim.Native.Nat.{ℕ, ◌-◌}
use mathlib.Core.Bool.{Bool, true, false, not, ◌&&◌, ◌||◌}
use mathlib.Core.List.{List, [], ◌∷◌}
use mathlib.Core.Path.{◌≡◌, refl, sym, ap, ap₂, subst, ◌∙◌}
use lib.Dec.{eqb, ltb}
use lib.ListN.{length}
use Rattle.words.specs.rules.Bytes.{byte}
use Rattle.words.specs.rules.Choice.{pick}
use Rattle.words.proofs.Choice.{of_choice}
use Rattle.windows.specs.rules.Window.{sum_of}
use Rattle.opcodes.specs.declared.Dialect.{Dialect}
use Rattle.opcodes.specs.declared.Dialect.TheVariants.{Am17xx}
use Rattle.opcodes.specs.rules.Refusals.{Verdict}
use Rattle.ledger.specs.claims.Agreement.{Zero}
use Rattle.ledger.specs.rules.Totals.{at_opening, numbered_as}
use Rattle.ledger.specs.declared.Totals.{Totals}
use Rattle.sent.specs.rules.Bus.{units_in_word, start_unit, pushed}
use Rattle.sent.specs.claims.Counting.{UnitsCount, with_totals, ButTotals}
use Rattle.sent.specs.rules.Feeding.{State, totals, next, fed, answers}
use Rattle.sent.specs.rules.Line as line
use Rattle.sent.specs.rules.Line.{plainly, gathered, carried, is_start, unit_step}
use Rattle.machine_answers.specs.rules.Answers.{WordOutcome}
use Rattle.machine.specs.rules.Machine.{word_step}
use Rattle.sent.specs.declared.Bus.{Bus}
use Rattle.machine_answers.specs.declared.Core.{Core}
use Rattle.sent.specs.declared.Line.{Line}
use Rattle.machine_answers.specs.declared.Reply.{Reply}
use Rattle.sent.specs.declared.Session.{Session}
use Rattle.machine.proofs.Every.{every_word}
use Rattle.machine.proofs.Counting.{having, bare, phase_zero, word_alike}

-- so of a unit, whichever of its tests decides
unit_dialect : (bus : Bus) (x : State) (u : ℕ) → (next bus x u).session.core.dialect ≡ x.session.core.dialect
unfolding unit_step carried
unit_dialect bus x u =
    let P : line.UnitOutcome → Type 0 = λ o. o.answer.session.core.dialect ≡ x.session.core.dialect in
    of_choice P _ (λ h. refl)
    (λ h. of_choice P _ (λ h. refl)
    (λ h. of_choice P _ (λ h. refl)
    (λ h. of_choice P _ (λ h. refl)
    (λ h. of_choice P _ (λ h. refl) (λ h. (every_word x.session.core x.memory _).dialect)))))

unit_zero : (bus : Bus) (x : State) (u : ℕ) → x.session.core.dialect ≡ Am17xx → Zero (totals x) → Zero (totals (next bus x u))
unfolding unit_step carried word_step
unit_zero bus x u am zero =
    let P : line.UnitOutcome → Type 0 = λ o. Zero o.answer.session.core.tally.totals in
    of_choice P _ (λ h. zero)
    (λ h. of_choice P _ (λ h. zero)
    (λ h. of_choice P _ (λ h. zero)
    (λ h. of_choice P _ (λ h. zero)
    (λ h. of_choice P _ (λ h. zero) (λ h. phase_zero x.session.core.stage.phase x.session.core x.memory _ am zero)))))

fed_zero : (bus : Bus) (units : List ℕ) (x : State) → x.session.core.dialect ≡ Am17xx → Zero (totals x) → Zero (totals (fed bus x units))
unfolding fed
fed_zero bus [] x am zero = zero
fed_zero bus (u ∷ us) x am zero = fed_zero bus us (next bus x u) (unit_dialect bus x u ∙ am) (unit_zero bus x u am zero)

-- so of a unit
unfoldable bare_line : line.UnitOutcome → line.UnitOutcome
bare_line o =
    record {
      answer = record {
        refusal = o.answer.refusal;
        reply = o.answer.reply;
        event = o.answer.event;
        session = record {
          core = having o.answer.session.core.dialect o.answer.session.core (numbered_as at_opening o.answer.session.core.tally.totals);
          line = o.answer.session.line;
        };
        wrote = o.answer.wrote;
      };
      memory = o.memory;
    }

same_line : (t : Bool) (x y z w : line.UnitOutcome) → bare_line x ≡ bare_line z → bare_line y ≡ bare_line w → bare_line (pick t x y) ≡ bare_line (pick t z w)
unfolding pick
same_line true x y z w e f = e
same_line false x y z w e f = f

carried_alike : (k h : Core) (l : Line) (o p : WordOutcome) → bare o ≡ bare p
    → bare_line (carried (record { core = k; line = l }) o) ≡ bare_line (carried (record { core = h; line = l }) p)
unfolding carried bare_line
carried_alike k h l o p e = ap (carried (record { core = k; line = l })) e

module _ (k : Core) (a b by : Totals) (l : Line) where
  abbrev first : Session
  first = record { core = having Am17xx k (numbered_as a by); line = l }

  abbrev second : Session
  second = record { core = having Am17xx k (numbered_as b by); line = l }

  plain_alike : (q : Verdict) (reply : Reply) (started : Bool) (have word : ℕ) (m : List ℕ)
      → bare_line (plainly q reply (gathered first started have word) m) ≡ bare_line (plainly q reply (gathered second started have word) m)
  unfolding bare_line
  plain_alike q reply started have word m = refl

  same_alike : (q : Verdict) (reply : Reply) (m : List ℕ) → bare_line (plainly q reply first m) ≡ bare_line (plainly q reply second m)
  unfolding bare_line
  same_alike q reply m = refl

  unit_alike : (bus : Bus) (m : List ℕ) (u : ℕ) → bare_line (unit_step bus first m u) ≡ bare_line (unit_step bus second m u)
  unfolding unit_step is_start
  unit_alike bus m u =
      same_line k.ended _ _ _ _ (same_alike _ _ m)
      (same_line (not (eqb (length m) (sum_of k.windows))) _ _ _ _ (same_alike _ _ m)
      (same_line (eqb u (start_unit bus) && (not l.started || (eqb l.have 0 && not k.begun))) _ _ _ _ (plain_alike _ _ _ _ _ m)
      (same_line (not l.started) _ _ _ _ (same_alike _ _ m)
      (same_line (ltb l.have (units_in_word bus - 1)) _ _ _ _ (plain_alike _ _ _ _ _ m)
      (carried_alike (having Am17xx k (numbered_as a by)) (having Am17xx k (numbered_as b by)) l _ _ (word_alike k a b by m (pushed bus l.word u)))))))

next_alike : (bus : Bus) (x : State) (t : Totals) (u : ℕ) → x.session.core.dialect ≡ Am17xx
    → bare_line (unit_step bus x.session x.memory u) ≡ bare_line (unit_step bus (with_totals t x).session x.memory u)
next_alike bus x t u am =
    subst
    (λ (d : Dialect). bare_line (unit_step bus (record { core = having d x.session.core (totals x); line = x.session.line }) x.memory u)
    ≡ bare_line (unit_step bus (record { core = having d x.session.core (numbered_as t (totals x)); line = x.session.line }) x.memory u))
    (sym am) (unit_alike x.session.core (totals x) t (totals x) x.session.line bus x.memory u)

fed_alike : (bus : Bus) (units : List ℕ) (x y : State) → x.session.core.dialect ≡ Am17xx → with_totals at_opening x ≡ with_totals at_opening y
    → ButTotals bus x y units
unfolding fed answers bare_line
fed_alike bus [] x y am e = record { same_answers = refl; same_rest = e }
fed_alike bus (u ∷ us) x y am e =
    let other : with_totals (totals y) x ≡ y = ap (with_totals (totals y)) e in
    let step =
    next_alike bus x (totals y) u am ∙ ap (λ (z : State). bare_line (unit_step bus z.session z.memory u)) other in
    let rest =
    fed_alike bus us (next bus x u) (next bus y u) (unit_dialect bus x u ∙ am)
    (ap (λ (o : line.UnitOutcome). record { session = o.answer.session; memory = o.memory }) step) in
    record {
      same_answers =
          ap₂ ◌∷◌ (ap (λ (o : line.UnitOutcome). record { refusal = o.answer.refusal; reply = o.answer.reply; event = o.answer.event }) step)
          rest.same_answers;
      same_rest = rest.same_rest;
    }

pub units_count : UnitsCount
unfolding byte
units_count =
    record {
      stays_zero = λ bus x units am zero. fed_zero bus units x am zero;
      unneeded = λ bus x t units am. fed_alike bus units (with_totals t x) x am refl;
      in_bytes = refl;
      in_halves = refl;
    }

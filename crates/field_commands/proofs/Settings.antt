-- The command that a register makes, by how it is judged: its windows alone decide before its number does. So in either mode there are three cases, and each
-- mode has only to say what it makes of a judgement.
use Rattle.std.specs.Prelude.{Option, Some, None, Ok, Err, ok_or}
use Prim.Native.Nat.{ℕ}
use mathlib.Core.List.{List, [], ◌∷◌}
use mathlib.Core.Path.{◌≡◌, refl, sym, ap, ap₂, subst, ◌∙◌}
use native.Mathlib.Omega.{arith}
use lib.Dec.{leb}
use lib.ListN.{length, get_or}
use Rattle.words.proofs.Choice.{chosen, passed}
use Rattle.windows.specs.rules.Window.{sum_of, place_of}
use Rattle.windows.specs.declared.Window.{Window}
use Rattle.windows.specs.declared.Right.TheVariants.{Set}
use Rattle.opcodes.specs.declared.Event.TheVariants.{Nothing, Wait}
use Rattle.opcodes.specs.declared.Refusal.TheVariants as why
use Rattle.opcodes.specs.rules.Refusals as refusal
use Rattle.ledger.specs.rules.Totals.{first_spent, is_spent}
use Rattle.ledger.specs.declared.Totals.{Totals}
use Rattle.commands.specs.rules.Commands.{barred, setting_judged, setting_memory, Judged, Shape}
use Rattle.commands.specs.rules.Wrote.{none_wrote, shape_wrote, setting_wrote}
use Rattle.law_effects.proofs.Fields.{named_shape}
use Rattle.law_effects.proofs.Wrote.{commands_tell}
use Rattle.field_laws.specs.claims.Meanings.{kind_in, address_in, line_named, Made, IsBootTable}
use Rattle.field_laws.proofs.Meanings.{does_what_it_says}
use Rattle.field_commands.specs.claims.CarriedOut.{Outcome, FieldSet, NotSet, CarriedOut}

-- five words, one by one
five_words : (ws : List ℕ) → length ws ≡ 5 → ws ≡ get_or ws 0 0 ∷ get_or ws 1 0 ∷ get_or ws 2 0 ∷ get_or ws 3 0 ∷ get_or ws 4 0 ∷ []
five_words [] e = absurd (omega arith)
five_words (a ∷ []) e = absurd (omega arith)
five_words (a ∷ b ∷ []) e = absurd (omega arith)
five_words (a ∷ b ∷ c ∷ []) e = absurd (omega arith)
five_words (a ∷ b ∷ c ∷ d ∷ []) e = absurd (omega arith)
five_words (a ∷ b ∷ c ∷ d ∷ f ∷ []) e = refl
five_words (a ∷ b ∷ c ∷ d ∷ f ∷ g ∷ rest) e = absurd (omega arith)

-- what a mode makes of a judgement
pub record Makes (word value number : ℕ) (m : List ℕ) (makes : Judged → Outcome) : Type 0 where
  pub granted : (place : ℕ) → makes (Ok place)
      ≡ record {
        refusal = refusal.None;
        event = Wait 0;
        wrote = setting_wrote (Ok place) word number;
        memory = setting_memory (Ok place) m word value;
      }
  pub out_of_range : makes (Err why.Range) ≡ record { refusal = refusal.Range; event = Nothing; wrote = none_wrote; memory = m }
  pub out-of-numbers : makes (Err why.Number) ≡ record { refusal = refusal.Number; event = Nothing; wrote = none_wrote; memory = m }

not_set : (q : _) (m : List ℕ) → NotSet q m (record { refusal = q; event = Nothing; wrote = none_wrote; memory = m })
not_set q m = record { refused = refl; no_event = refl; none_told = refl; kept = refl }

module _ (text name : List ℕ) (release value : ℕ) (words : List ℕ) (made : Made text name release value words) where
  pub boot : IsBootTable (line_named text name release) value words
  boot = does_what_it_says.boot-table text name release value words made

  pub words_are : words ≡ 0x58535907 ∷ kind_in words ∷ address_in words ∷ value ∷ 0 ∷ []
  words_are =
      five_words words boot.five
      ∙ ap (λ (w : ℕ). w ∷ kind_in words ∷ address_in words ∷ get_or words 3 0 ∷ get_or words 4 0 ∷ []) boot.opcode
      ∙ ap₂ (λ (v d : ℕ). 0x58535907 ∷ kind_in words ∷ address_in words ∷ v ∷ d ∷ []) boot.data_word boot.no_delay

  module _ (windows : List Window) (totals : Totals) (m : List ℕ) (lent : length m ≡ sum_of windows) (makes : Judged → Outcome)
      (mode : Makes (kind_in words) value totals.next m makes) where
    abbrev judged : Judged
    judged = barred (is_spent totals) why.Number (setting_judged windows (kind_in words) (address_in words) value)

    -- its judgement, by where the word has its place
    judged_at : (found : Option ℕ) → place_of windows Set (address_in words) 4 ≡ found
        → judged ≡ barred (is_spent totals) why.Number (ok_or found why.Range)
    judged_at found e =
        ap (λ (j : Judged). barred (is_spent totals) why.Number j)
        (does_what_it_says.by_window text name release value words made windows ∙ ap (λ (f : Option ℕ). ok_or f why.Range) e)

    field_set : (place : ℕ) → place_of windows Set (address_in words) 4 ≡ Some place
        → FieldSet words value place totals.next m
        (record {
          refusal = refusal.None;
          event = Wait 0;
          wrote = setting_wrote (Ok place) (kind_in words) totals.next;
          memory = setting_memory (Ok place) m (kind_in words) value;
        })
    field_set place over =
        let set = does_what_it_says.accepted text name release value words made windows m place lent over in
        record {
          accepted = refl;
          wait = refl;
          tells = ap (λ (s : Shape). shape_wrote place s totals.next) (named_shape windows (kind_in words) (address_in words) value boot.names_field);
          holds = set.1;
          same_length =
              (commands_tell.setting windows m lent (kind_in words) (address_in words) value place totals.next set.0).does.does.same_length;
        }

    pub carried_out : CarriedOut windows totals words value m (makes judged)
    carried_out =
        record {
          sets = λ place over unspent.
              let granted : judged ≡ Ok place = judged_at (Some place) over ∙ passed _ _ _ unspent in
              subst (FieldSet words value place totals.next m) (sym (ap makes granted ∙ mode.granted place)) (field_set place over);
          no_window = λ nowhere.
              let refused : judged ≡ Err why.Range = judged_at None nowhere in
              subst (NotSet refusal.Range m) (sym (ap makes refused ∙ mode.out_of_range)) (not_set refusal.Range m);
          no_number = λ place over spent.
              let refused : judged ≡ Err why.Number = judged_at (Some place) over ∙ chosen _ _ _ spent in
              subst (NotSet refusal.Number m) (sym (ap makes refused ∙ mode.out-of-numbers)) (not_set refusal.Number m);
        }

-- only the next number of the totals counts
pub by_next : (windows : List Window) (t u : Totals) (words : List ℕ) (value : ℕ) (m : List ℕ) (o : Outcome) → t.next ≡ u.next
    → CarriedOut windows t words value m o → CarriedOut windows u words value m o
by_next windows t u words value m o e c =
    record {
      sets = λ place over unspent. subst (λ (n : ℕ). FieldSet words value place n m o) e (c.sets place over (ap (leb first_spent) e ∙ unspent));
      no_window = c.no_window;
      no_number = λ place over spent. c.no_number place over (ap (leb first_spent) e ∙ spent);
    }

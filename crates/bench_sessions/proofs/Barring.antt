-- Why a session with numbers does not begin, by the facts that it asks, one after the other.
use Prim.Native.Nat.{ℕ, ◌*◌}
use mathlib.Core.Bool.{true, false, not}
use mathlib.Core.Logic.{◌≢◌}
use mathlib.Core.Path.{◌≡◌, sym, ap, ◌∙◌}
use lib.Dec.{eqb}
use borrow.Author.Tests.{eq-eqb, ne_eqb, eqb-true, eqb-false}
use Rattle.words.proofs.Choice.{chosen, passed, by_test}
use Rattle.opcodes.specs.rules.Answers.{code_of}
use Rattle.opcodes.specs.rules.Refusals.{Verdict}
use Rattle.opcodes.specs.rules.Refusals as refusal
use Rattle.bit_choice.specs.declared.Choice.{Choice}
use Rattle.bench_sessions.specs.rules.Numbers.{barred}

-- two tests of numbers that hold together
pub same_test : (a b x y : ℕ) → (a ≡ b → x ≡ y) → (x ≡ y → a ≡ b) → eqb a b ≡ eqb x y
same_test a b x y to back =
    by_test (eqb a b) (λ e. e ∙ sym (eq-eqb _ _ (to (eqb-true _ _ e)))) (λ e. e ∙ sym (ne_eqb _ _ (λ h. eqb-false _ _ e (back h))))

module _ (opening : Verdict) (choice : Choice) (numbers memory sum : ℕ) where
  pub bar_map : code_of opening ≡ 1 → barred opening choice numbers memory sum ≡ opening
  unfolding barred
  bar_map e = chosen _ _ _ (eq-eqb _ _ e)

  module _ (mapped : code_of opening ≢ 1) where
    pub bar_chosen : code_of choice.refusal ≢ 0 → barred opening choice numbers memory sum ≡ choice.refusal
    unfolding barred
    bar_chosen e = passed _ _ _ (ne_eqb _ _ mapped) ∙ chosen _ _ _ (ap not (ne_eqb _ _ e))

    module _ (listed : code_of choice.refusal ≡ 0) where
      pub bar_opening : code_of opening ≢ 0 → barred opening choice numbers memory sum ≡ opening
      unfolding barred
      bar_opening e =
          passed _ _ _ (ne_eqb _ _ mapped) ∙ passed _ _ _ (ap not (eq-eqb _ _ listed)) ∙ chosen _ _ _ (ap not (ne_eqb _ _ e))

      module _ (opened : code_of opening ≡ 0) where
        pub bar_numbers : eqb numbers (64 * choice.chosen.count) ≡ false → barred opening choice numbers memory sum ≡ refusal.Memory
        unfolding barred
        bar_numbers e =
            passed _ _ _ (ne_eqb _ _ mapped) ∙ passed _ _ _ (ap not (eq-eqb _ _ listed)) ∙ passed _ _ _ (ap not (eq-eqb _ _ opened))
            ∙ chosen _ _ _ (ap not e)

        module _ (lent : eqb numbers (64 * choice.chosen.count) ≡ true) where
          pub bar_memory : memory ≢ sum → barred opening choice numbers memory sum ≡ refusal.Memory
          unfolding barred
          bar_memory e =
              passed _ _ _ (ne_eqb _ _ mapped) ∙ passed _ _ _ (ap not (eq-eqb _ _ listed)) ∙ passed _ _ _ (ap not (eq-eqb _ _ opened))
              ∙ passed _ _ _ (ap not lent) ∙ chosen _ _ _ (ap not (ne_eqb _ _ e))

          pub bar_none : memory ≡ sum → barred opening choice numbers memory sum ≡ refusal.None
          unfolding barred
          bar_none e =
              passed _ _ _ (ne_eqb _ _ mapped) ∙ passed _ _ _ (ap not (eq-eqb _ _ listed)) ∙ passed _ _ _ (ap not (eq-eqb _ _ opened))
              ∙ passed _ _ _ (ap not lent) ∙ passed _ _ _ (ap not (eq-eqb _ _ e))

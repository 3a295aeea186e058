-- What a unit comes to, on either line, by the facts that its tests ask. Each law takes the tests of a definition one after the other.
use Prim.Native.Nat.{ℕ, ◌+◌, ◌-◌, ◌≤◌, ◌<◌}
use mathlib.Core.Bool.{Bool, true, false, not, ◌&&◌, ◌||◌}
use mathlib.Core.List.{List, []}
use mathlib.Core.Path.{◌≡◌, refl, ap, ap₂, ◌∙◌}
use lib.Dec.{eqb}
use lib.ListN.{length}
use borrow.Author.Tests.{lt-ltb, le-ltb, eq-eqb, ne_eqb}
use Rattle.words.proofs.Choice.{chosen, passed}
use Rattle.windows.specs.rules.Window.{sum_of}
use Rattle.opcodes.specs.rules.Refusals as refusal
use Rattle.sent.specs.rules.Bus.{units_in_word, start_unit, pushed}
use Rattle.sent.specs.rules.Line.{plainly, gathered, carried, is_start, unit_step}
use Rattle.machine_answers.specs.rules.Answers as machine
use Rattle.machine_answers.specs.rules.Answers.{◌leaving◌}
use Rattle.machine.specs.rules.Machine.{word_step}
use Rattle.machine_answers.specs.rules.Replies.{silence}
use Rattle.sent.specs.rules.Line.{start_answer}
use Rattle.sent.specs.declared.Bus.{Bus}
use Rattle.sent.specs.declared.Session.{Session}

-- the answer on the line needs only the word's answer, and the memory is the word's
module _ (s : Session) (o : machine.WordOutcome) where
  pub carried_answer : (carried s (o.answer leaving [])).answer ≡ (carried s o).answer
  unfolding carried
  carried_answer = refl

  pub carried_memory : o.memory ≡ (carried s o).memory
  unfolding carried
  carried_memory = refl

-- the start unit: no other; before the first; inside a word; again where a word would begin
module _ (bus : Bus) (s : Session) (u : ℕ) where
  pub start_other : (u ≡ start_unit bus → ⊥) → is_start bus s u ≡ false
  unfolding is_start
  start_other other = ap (λ (t : Bool). t && (not s.line.started || (eqb s.line.have 0 && not s.core.begun))) (ne_eqb _ _ other)

  module _ (same : u ≡ start_unit bus) where
    pub start_first : s.line.started ≡ false → is_start bus s u ≡ true
    unfolding is_start
    start_first before =
        ap₂ ◌&&◌ (eq-eqb _ _ same) (ap (λ (t : Bool). not t || (eqb s.line.have 0 && not s.core.begun)) before)

    pub start_inside : s.line.started ≡ true → (s.line.have ≡ 0 → ⊥) → is_start bus s u ≡ false
    unfolding is_start
    start_inside since have =
        ap₂ ◌&&◌ (eq-eqb _ _ same) (ap₂ (λ (t e : Bool). not t || (e && not s.core.begun)) since (ne_eqb _ _ have))

    pub start_again : s.line.started ≡ true → s.line.have ≡ 0 → is_start bus s u ≡ not s.core.begun
    unfolding is_start
    start_again since have =
        ap₂ ◌&&◌ (eq-eqb _ _ same) (ap₂ (λ (t e : Bool). not t || (e && not s.core.begun)) since (eq-eqb _ _ have))

-- a unit: each refusal in its case, then the line, then the whole word
module _ (bus : Bus) (s : Session) (m : List ℕ) (u : ℕ) where
  pub unit_ended : s.core.ended ≡ true → unit_step bus s m u ≡ plainly refusal.Ended silence s m
  unfolding unit_step
  unit_ended e = chosen _ _ _ e

  module _ (running : s.core.ended ≡ false) where
    pub unit_memory : (length m ≡ sum_of s.core.windows → ⊥) → unit_step bus s m u ≡ plainly refusal.Memory silence s m
    unfolding unit_step
    unit_memory e = passed _ _ _ running ∙ chosen _ _ _ (ap not (ne_eqb _ _ e))

    module _ (lent : length m ≡ sum_of s.core.windows) where
      pub unit_start : is_start bus s u ≡ true
          → unit_step bus s m u ≡ plainly refusal.None (start_answer bus) (gathered s true s.line.have s.line.word) m
      unfolding unit_step
      unit_start e = passed _ _ _ running ∙ passed _ _ _ (ap not (eq-eqb _ _ lent)) ∙ chosen _ _ _ e

      module _ (other : is_start bus s u ≡ false) where
        pub unit_dropped : s.line.started ≡ false → unit_step bus s m u ≡ plainly refusal.None silence s m
        unfolding unit_step
        unit_dropped e =
            passed _ _ _ running ∙ passed _ _ _ (ap not (eq-eqb _ _ lent)) ∙ passed _ _ _ other ∙ chosen _ _ _ (ap not e)

        module _ (since : s.line.started ≡ true) where
          pub unit_gathered : s.line.have < units_in_word bus - 1
              → unit_step bus s m u ≡ plainly refusal.None silence (gathered s true (s.line.have + 1) (pushed bus s.line.word u)) m
          unfolding unit_step
          unit_gathered h =
              passed _ _ _ running ∙ passed _ _ _ (ap not (eq-eqb _ _ lent)) ∙ passed _ _ _ other ∙ passed _ _ _ (ap not since)
              ∙ chosen _ _ _ (lt-ltb _ _ h)

          pub unit_whole : units_in_word bus - 1 ≤ s.line.have → unit_step bus s m u ≡ carried s (word_step s.core m (pushed bus s.line.word u))
          unfolding unit_step
          unit_whole h =
              passed _ _ _ running ∙ passed _ _ _ (ap not (eq-eqb _ _ lent)) ∙ passed _ _ _ other ∙ passed _ _ _ (ap not since)
              ∙ passed _ _ _ (le-ltb _ _ h)

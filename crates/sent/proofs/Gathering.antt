-- The units of a word on a line: none of them is taken for the start unit, and together they make the word again.
use Prim.Native.Nat.{ℕ, ◌+◌, ◌*◌, ◌/◌, ◌%◌, ◌^◌, ◌<◌}
use mathlib.Core.Bool.{Bool, true, false, not, ◌&&◌, and-false}
use mathlib.Core.List.{List}
use mathlib.Core.Logic.{◌≢◌}
use mathlib.Core.Path.{◌≡◌, ap, ◌∙◌}
use native.Mathlib.Omega.{arith}
use lib.Dec.{eqb}
use lib.ListN.{get_or}
use Rattle.words.specs.rules.Bytes.{byte}
use Rattle.words.proofs.Choice.{by_test}
use Rattle.sent.specs.rules.Bus.{start_unit, units_of, first_unit, pushed}
use Rattle.sent.specs.rules.Feeding.{State}
use Rattle.sent.specs.claims.Lift.{at_word}
use Rattle.sent.specs.rules.Line.{is_start}
use Rattle.sent.specs.declared.Bus.{Bus}
use Rattle.sent.specs.declared.Bus.TheVariants.{Bytes, Halves}
use Rattle.machine_answers.specs.declared.Core.{Core}
use Rattle.sent.proofs.Cases.{start_other}

-- a session with some units of a word gathered, and its memory
abbrev pub holding : Core → ℕ → ℕ → List ℕ → State
holding k have word m = record { session = record { core = k; line = record { started = true; have = have; word = word } }; memory = m }

-- the bytes of a word make it again
four_pushes : (a b c d : ℕ) → pushed Bytes (pushed Bytes (pushed Bytes (pushed Bytes 0 a) b) c) d ≡ a + 256 * b + 65536 * c + 16777216 * d
unfolding pushed
four_pushes a b c d =
    let first : pushed Bytes (pushed Bytes 0 a) b ≡ 65536 * a + 16777216 * b = omega arith in
    let second : pushed Bytes (65536 * a + 16777216 * b) c ≡ 256 * a + 65536 * b + 16777216 * c = omega arith in
    let third : pushed Bytes (256 * a + 65536 * b + 16777216 * c) d ≡ a + 256 * b + 65536 * c + 16777216 * d = omega arith in
    ap (λ (w : ℕ). pushed Bytes (pushed Bytes w c) d) first ∙ ap (λ (w : ℕ). pushed Bytes w d) second ∙ third

pub bytes_again : (w : ℕ) → w < 2 ^ 32 → pushed Bytes (pushed Bytes (pushed Bytes (pushed Bytes 0 (byte w 0)) (byte w 1)) (byte w 2)) (byte w 3) ≡ w
unfolding byte
bytes_again w h =
    let low : w / 256 ≡ 256 * (w / 65536) + w / 256 % 256 = omega arith in
    let middle : w / 65536 ≡ 256 * (w / 16777216) + w / 65536 % 256 = omega arith in
    let high : w / 16777216 % 256 ≡ w / 16777216 = omega arith in
    four_pushes _ _ _ _ ∙ omega arith

-- and so do its halves
pub halves_again : (w : ℕ) → pushed Halves (pushed Halves 0 (first_unit Halves w)) (get_or (units_of Halves w) 1 0) ≡ w
unfolding pushed
halves_again w = omega arith

-- a unit that begins a word is no start unit, nor is one inside it
module _ (bus : Bus) (k : Core) (m : List ℕ) where
  pub begins_word : (u : ℕ) → (k.begun ≡ false → u ≢ start_unit bus) → is_start bus (at_word k m).session u ≡ false
  unfolding is_start
  begins_word u plain =
      by_test k.begun (λ e. ap (λ (t : Bool). eqb u (start_unit bus) && not t) e ∙ and-false (eqb u (start_unit bus)))
      (λ e. start_other bus (at_word k m).session u (plain e))

  pub inside-word : (have part u : ℕ) → eqb have 0 ≡ false → is_start bus (holding k have part m).session u ≡ false
  unfolding is_start
  inside-word have part u some =
      ap (λ (t : Bool). eqb u (start_unit bus) && (t && not k.begun)) some ∙ and-false (eqb u (start_unit bus))

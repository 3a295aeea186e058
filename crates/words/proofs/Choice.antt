-- Tests and choices: which side of a choice counts, and what a test that holds says of its parts. Each goes by the cases of a test.
use mathlib.Core.Bool.{Bool, true, false, ◌&&◌, ◌||◌, true≢false}
use mathlib.Core.Path.{◌≡◌, refl, sym, ap}
use Rattle.words.specs.rules.Choice.{pick}

module _ {ℓ} {A : Type ℓ} where
  -- the first where the test is true
  pub chosen : (t : Bool) (a b : A) → t ≡ true → pick t a b ≡ a
  unfolding pick
  chosen t a b e = ap (λ (x : Bool). pick x a b) e

  -- the second where it is false
  pub passed : (t : Bool) (a b : A) → t ≡ false → pick t a b ≡ b
  unfolding pick
  passed t a b e = ap (λ (x : Bool). pick x a b) e

-- by whether a test holds
pub by_test {ℓ} : {P : Type ℓ} (t : Bool) → (t ≡ true → P) → (t ≡ false → P) → P
by_test true held failed = held refl
by_test false held failed = failed refl

-- both parts of a test that holds
pub both : (a b : Bool) → (a && b) ≡ true → (a ≡ true) × (b ≡ true)
both true b e = (refl, e)
both false b e = absurd (true≢false (sym e))

-- neither part of a test that fails holds
pub neither : (a b : Bool) → (a || b) ≡ false → (a ≡ false) × (b ≡ false)
neither true b e = absurd (true≢false e)
neither false b e = (refl, e)

-- a test that cannot hold
pub refuted : (t : Bool) → (t ≡ true → ⊥) → false ≡ t
refuted true never = absurd (never refl)
refuted false never = refl

-- what holds of both sides of a choice, each under its test, holds of the choice
pub of_choice {ℓ} : {A : Type 0} (P : A → Type ℓ) (t : Bool) {a b : A} → (t ≡ true → P a) → (t ≡ false → P b) → P (pick t a b)
unfolding pick
of_choice P true held failed = held refl
of_choice P false held failed = failed refl

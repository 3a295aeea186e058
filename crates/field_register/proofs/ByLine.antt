-- What is read at a place goes by whether a line stands there.
use mathlib.Core.Path.{◌≡◌, refl}
use Rattle.std.specs.Prelude.{Option, Some, None}
use Rattle.std.specs.Option.{option_map_or}

pub by_line {ℓ} : {A B : Type 0} (P : B → Type ℓ) (o : Option A) {next : A → B} (d : B) → (o ≡ None → P d) → ((x : A) → o ≡ Some x → P (next x))
    → P (option_map_or next o d)
by_line P None d none some = none refl
by_line P (Some x) d none some = some x refl

-- by whether there is an answer
pub by_answer {ℓ} : {A : Type 0} {P : Type ℓ} (o : Option A) → ((x : A) → o ≡ Some x → P) → (o ≡ None → P) → P
by_answer None some none = none refl
by_answer (Some x) some none = some x refl

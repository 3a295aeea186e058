-- What a conversion comes to, refused or not, and where a file's text ends: the two sides of each choice.
use Rattle.opcodes.specs.declared.Refusal.{Refusal}
use Rattle.std.proofs.Common.{◌≡◌, ℕ, ◌-◌, ◌≤◌, eqb, List, [], ◌∷◌, length, get_or, sym, refl, ap, ◌∙◌, arith, length-take-le, eq-eqb, ne_eqb}
use Rattle.words.proofs.Choice.{chosen, passed, of_choice}
use Rattle.std.specs.Prelude.{Some, Ok, Err}
use Rattle.std.specs.Prelude.{None as Nothing}
use Rattle.opcodes.specs.rules.Refusals.{Verdict, done_unless}
use Rattle.opcodes.specs.rules.Refusals as refusal
use Rattle.hex_text.specs.rules.Conversions.{IsPart, text_end}

-- where nothing is answered but that it is done, nothing is refused
pub nothing_refused : {x : Unit {0}} (q : Verdict) → Ok x ≡ done_unless q → q ≡ refusal.None
nothing_refused Nothing e = refl
nothing_refused (Some q) e = cc

-- and where a refusal is answered, it is that
pub refused_with : {why : Refusal} (q : Verdict) → Err why ≡ done_unless q → q ≡ Some why
refused_with Nothing e = cc
refused_with (Some q) e = cc

-- an empty file has no text
pub empty_end : (file : List ℕ) → length file ≡ 0 → text_end file ≡ 0
unfolding text_end
empty_end [] e = passed _ _ _ refl
empty_end (c ∷ file) e = absurd (omega arith)

-- a file's text ends in the file
pub end_within : (file : List ℕ) → text_end file ≤ length file
unfolding text_end
end_within file =
    of_choice (λ (n : ℕ). n ≤ length file) (eqb (get_or file (length file - 1) 0) 0x0A) (λ last. omega arith) (λ other. omega arith)

pub is-part : (n : ℕ) (room : List ℕ) → n ≤ length room → IsPart n room
is-part n room h = record { within = h; counted = length-take-le n room h }

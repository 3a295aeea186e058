-- What a verdict's number says: it is 0 where nothing is refused, and only there, since no refusal has the number 0.
use Rattle.std.specs.Prelude.{◌≡◌, ℕ, Bool, true, false, not, eqb, is_some, Some}
use Rattle.std.specs.Prelude.{None as Nothing}
use Rattle.std.proofs.Common.{refl, ap, sym, ◌∙◌}
use mathlib.Core.Bool.{true≢false}
use Rattle.opcodes.specs.declared.Refusal.{Refusal}
use Rattle.opcodes.specs.declared.Refusal.TheVariants as why
use Rattle.opcodes.specs.rules.Answers.{number_of, code_of, accepted}
use Rattle.opcodes.specs.rules.Refusals.{Verdict}

-- a refusal is not accepted
pub refused_not : (q : Refusal) → accepted (Some q) ≡ false
refused_not why.Map = refl
refused_not why.Memory = refl
refused_not why.Image = refl
refused_not why.Magic = refl
refused_not why.Missing = refl
refused_not why.Opcode = refl
refused_not why.Range = refl
refused_not why.TypeWord = refl
refused_not why.Unaligned = refl
refused_not why.Entry = refl
refused_not why.Checksum = refl
refused_not why.Seek = refl
refused_not why.Ended = refl
refused_not why.Retired = refl
refused_not why.TooWide = refl
refused_not why.Totals = refl
refused_not why.Overflow = refl
refused_not why.Call = refl
refused_not why.Tries = refl
refused_not why.Length = refl
refused_not why.Digit = refl
refused_not why.Room = refl
refused_not why.Chosen = refl
refused_not why.Number = refl

-- nothing is refused where the library's test for none says so, and only there
pub accepted_by : (q : Verdict) {answer truth : Bool} → is_some q ≡ not answer → answer ≡ truth → accepted q ≡ truth
accepted_by Nothing {answer = true} tests e = e
accepted_by Nothing {answer = false} tests e = absurd (true≢false (sym tests))
accepted_by (Some q) {answer = true} tests e = absurd (true≢false tests)
accepted_by (Some q) {answer = false} tests e = refused_not q ∙ e

pub none_code : (q : Verdict) → accepted q ≡ true → code_of q ≡ 0
none_code Nothing e = refl
none_code (Some q) e = absurd (true≢false (sym e ∙ refused_not q))

pub some_code : (q : Verdict) → accepted q ≡ false → code_of q ≡ 0 → ⊥
some_code Nothing e none = true≢false e
some_code (Some q) e none = true≢false (sym (ap (λ (n : ℕ). eqb n 0) none) ∙ e)

-- so its number, by the library's test for some
pub some_number : (q : Verdict) {answer : Bool} → answer ≡ is_some q → answer ≡ true → code_of q ≡ 0 → ⊥
some_number Nothing tests e none = true≢false (sym e ∙ tests)
some_number (Some q) tests e none = true≢false (sym (ap (λ (n : ℕ). eqb n 0) none) ∙ refused_not q)

pub none_number : (q : Verdict) {answer : Bool} → answer ≡ is_some q → answer ≡ false → code_of q ≡ 0
none_number Nothing tests e = refl
none_number (Some q) tests e = absurd (true≢false (sym tests ∙ e))

-- no refusal has the number 0
pub numbered : (q : Refusal) → number_of q ≡ 0 → ⊥
numbered q none = true≢false (sym (ap (λ (n : ℕ). eqb n 0) none) ∙ refused_not q)

-- so where it is told apart by its two forms
pub some_of : (q : Verdict) {r : Refusal} → q ≡ Some r → code_of q ≡ 0 → ⊥
some_of q {r = r} e none = numbered r (sym (ap (λ (v : Verdict). code_of v) e) ∙ none)

pub none_of : (q : Verdict) → ((r : Refusal) → q ≡ Some r → ⊥) → code_of q ≡ 0
none_of Nothing e = refl
none_of (Some r) e = absurd (e r refl)

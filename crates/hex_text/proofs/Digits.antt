-- Which characters are no digits: each goes by the three ranges that a digit may lie in.
use Rattle.std.proofs.Common.{◌≡◌, ℕ, min, arith, le-ltb}
use Rattle.words.specs.rules.Bits.{within}
use Rattle.words.specs.rules.Choice.{pick}
use Rattle.words.proofs.Choice.{chosen, passed}
use Rattle.words.proofs.Ranges.{inside}
use Rattle.digits.specs.rules.Digits.{digit_value, is_digit}
use Rattle.digits.proofs.Digits.{by_kind, known_digit}

-- outside all three ranges there is no digit
pub strange_by_ranges : (c : ℕ) →
    min (pick (within 0x30 10 c) 0 1) (min (pick (within 0x41 6 c) 0 1) (pick (within 0x61 6 c) 0 1)) ≡ pick (is_digit 16 c) 0 1
strange_by_ranges c =
    by_kind c
    (λ h l v.
    let in-it : pick {A = ℕ} (within 0x30 10 c) 0 1 ≡ 0 = chosen _ _ _ (inside 0x30 10 c h l) in
    let digit : pick {A = ℕ} (is_digit 16 c) 0 1 ≡ 0 = chosen _ _ _ (known_digit c _ v (omega arith)) in
    omega arith)
    (λ h l v.
    let in-it : pick {A = ℕ} (within 0x41 6 c) 0 1 ≡ 0 = chosen _ _ _ (inside 0x41 6 c h l) in
    let digit : pick {A = ℕ} (is_digit 16 c) 0 1 ≡ 0 = chosen _ _ _ (known_digit c _ v (omega arith)) in
    omega arith)
    (λ h l v.
    let in-it : pick {A = ℕ} (within 0x61 6 c) 0 1 ≡ 0 = chosen _ _ _ (inside 0x61 6 c h l) in
    let digit : pick {A = ℕ} (is_digit 16 c) 0 1 ≡ 0 = chosen _ _ _ (known_digit c _ v (omega arith)) in
    omega arith)
    (λ n k s v.
    let no_number : pick {A = ℕ} (within 0x30 10 c) 0 1 ≡ 1 = passed _ _ _ n in
    let no-capital : pick {A = ℕ} (within 0x41 6 c) 0 1 ≡ 1 = passed _ _ _ k in
    let no-small : pick {A = ℕ} (within 0x61 6 c) 0 1 ≡ 1 = passed _ _ _ s in
    let none : pick {A = ℕ} (is_digit 16 c) 0 1 ≡ 1 = passed _ _ _ (le-ltb (digit_value c) 16 (omega arith)) in
    omega arith)

-- Bytes loaded and then others just above them are one load: the law of adjacent writes, where each byte is that of the two lists joined. Bytes that were
-- loaded are found at their place, each by the law of a byte in the range.
use Prim.Native.Nat.{ℕ, ◌+◌, ◌≤◌}
use mathlib.Core.List.{List, ◌++◌}
use mathlib.Core.Path.{◌≡◌, sym, ap, ◌∙◌}
use native.Mathlib.Omega.{arith}
use lib.ListN.{length, get_or, take, drop, length-append, length-take, length-drop, get_or-append}
use lib.Seq.{ext_get_or, get_or-append-add, get_or-drop, get_or-take}
use Rattle.words.specs.rules.Bytes.{bytes_at, put}
use Rattle.words.proofs.Puts.{length_put, put_inside, put_same, put_append}
use Rattle.stores.specs.rules.Stores.{loaded}

pub loaded_append : (m : List ℕ) (place : ℕ) (xs ys : List ℕ) → loaded (loaded m place xs) (place + length xs) ys ≡ loaded m place (xs ++ ys)
unfolding loaded
loaded_append m place xs ys =
    let all : ℕ → ℕ = λ i. get_or (xs ++ ys) i 0 in
    ap (λ (l : List ℕ). put l (place + length xs) (length ys) (λ i. get_or ys i 0))
    (put_same m place (length xs) {g = all} (λ i h. sym (get_or-append xs ys 0 i h)))
    ∙ put_same _ (place + length xs) (length ys) {g = λ i. all (length xs + i)} (λ i h. sym (get_or-append-add xs ys i 0))
    ∙ put_append m place (length xs) (length ys) all
    ∙ ap (λ (n : ℕ). put m place n all) (sym (length-append xs ys))

pub loaded_there : (m : List ℕ) (place : ℕ) (xs : List ℕ) → place + length xs ≤ length m → bytes_at (loaded m place xs) place (length xs) ≡ xs
unfolding bytes_at loaded
loaded_there m place xs fit =
    let after : List ℕ = put m place (length xs) (λ i. get_or xs i 0) in
    let long : length (take (length xs) (drop place after)) ≡ length xs =
    omega (arith, length-take (length xs) (drop place after), length-drop place after, length_put m place (length xs) (λ i. get_or xs i 0)) in
    ext_get_or 0 _ xs long
    (λ i h.
    get_or-take (length xs) (drop place after) i 0 (omega arith)
    ∙ get_or-drop place after i 0
    ∙ put_inside m place (length xs) (λ i. get_or xs i 0) i (omega arith) (omega arith))

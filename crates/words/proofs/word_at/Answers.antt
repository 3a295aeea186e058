-- `words::word_at` meets its contract: what is left of the slice begins with those four bytes, and past the end there are none.
use mathlib.Core.Path.{sym, ap, ◌∙◌}
use lib.ListN.{take, drop_of_length-le}
use Rattle.words.specs.rules.Bytes.{number, bytes_at, word_at}
use mathlib.Core.List.{List}
use Prim.Native.Nat.{ℕ}
use Rattle.words.proofs.Numbers.{from_place}
use Rattle.words.proofs.word_at.Goals as goal

pub returns-then-at-s : goal.returns-then-at-s
unfolding word_at bytes_at
returns-then-at-s c =
    let a = c.args in
    c.number_of.ensures ∙ ap (λ (x : List ℕ). number (take 4 x)) (from_place a.s.now a.at)

pub returns-else-at-s : goal.returns-else-at-s
unfolding word_at bytes_at number
returns-else-at-s c =
    let a = c.args in
    sym (ap (λ (x : List ℕ). number (take 4 x)) (drop_of_length-le a.s.now c.if-at-s.false))

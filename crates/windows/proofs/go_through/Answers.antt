-- `windows::go_through` meets its contract: the search of the windows that are left, from the bytes passed on, finds what the whole
-- search finds.
use Prim.Native.Nat.{ℕ, ◌-◌, ◌≤◌}
use mathlib.Core.Path.{◌≡◌, sym, ap, ◌∙◌}
use mathlib.Core.Bool.{Bool}
use mathlib.Core.List.{List}
use lib.ListN.{length, take, drop}
use Rattle.std.proofs.lemmas.Slice.{between_to_end}
use borrow.Author.Rules.{rules}
use native.Mathlib.Omega.{arith}
use Rattle.windows.specs.declared.Window.{Window}
use Rattle.windows.specs.declared.Right.{Right}
use Rattle.windows.specs.rules.Window.{carries_on, place_of}
use Rattle.windows.proofs.Left.{place_none, place_not_held, place_within, place_carried, place_broken}
use Rattle.windows.proofs.Parts.{held}
use Rattle.windows.proofs.go_through.Goals as goal
use Rattle.windows.proofs.go_through.Goals.{then-holds+else-end-reached+else-carries_on, else-holds}

-- what the windows past an index are asked is asked of all that are left
of_the_rest : {t answer : Bool} (ws : List Window) (next : ℕ) (right : Right) (from end : ℕ) → length ws ≤ 8
    → answer ≡ carries_on (take (8 - next) (drop next ws)) right from end → answer ≡ t → carries_on (drop next ws) right from end ≡ t
of_the_rest ws next right from end eight says is =
    ap (λ (l : List Window). carries_on l right from end) (sym (between_to_end ws next 8 eight)) ∙ sym says ∙ is

pub loop-i-init : goal.loop-i-init
unfolding place_of
loop-i-init c = search rules

pub overflow_sub-place : goal.overflow_sub-place
overflow_sub-place c = (held _ _ _ (sym c.holds.ensures ∙ c.if-holds.true)).lies.from_first

pub returns-then-end-reached : goal.returns-then-end-reached
returns-then-end-reached c =
    let given = c.args in
    place_within given.windows c.loop-i.i (search rules) given.right given.address given.size c.loop-i.base _ c.end_of-reached.ensures
    (sym c.holds.ensures ∙ c.if-holds.true) (omega arith)
    ∙ c.loop-i.invariant.1

pub returns-then-carries_on : goal.returns-then-carries_on
returns-then-carries_on c =
    let given = c.args in
    place_carried given.windows c.loop-i.i (search rules) given.right given.address given.size c.loop-i.base _
    c.end_of-reached.ensures
    (sym c.holds.ensures ∙ c.if-holds.true)
    (of_the_rest given.windows _ _ _ _ (search rules) c.carries_on.ensures c.if-carries_on.true)
    ∙ c.loop-i.invariant.1

pub loop-i-preserved : goal.loop-i-preserved
loop-i-preserved c =
    let given = c.args in (
      search rules,
      elim c.if-holds.branch [
        | then-holds+else-end-reached+else-carries_on w ↦ place_broken given.windows c.loop-i.i (search rules) given.right given.address given.size
            c.loop-i.base _ w.end_of-reached.ensures
            (of_the_rest given.windows _ _ _ _ (search rules) w.carries_on.ensures w.if-carries_on.false)
        | else-holds w ↦ place_not_held given.windows c.loop-i.i (search rules) given.right given.address given.size c.loop-i.base
            (sym c.holds.ensures ∙ w.if-holds.false)
      ]
          ∙ c.loop-i.invariant.1,
    )

pub returns : goal.returns
returns c =
    place_none c.args.windows c.loop-i.i (search rules) _ _ _ _ ∙ c.loop-i.invariant.1

-- The laws of touching windows on a good map. Addresses rise with the windows, so an address has one window and what holds the address at a
-- window's end begins there; the lent memory has the windows' bytes in the same order, so a chain is one stretch of it.
use Rattle.std.specs.Prelude.{Option, Some, None, is_some}
use mathlib.Core.Path.{◌≡◌, refl, sym, ap, subst, ◌∙◌}
use mathlib.Core.Bool.{Bool, true, false, or-true, true≢false}
use mathlib.Core.List.{List, [], ◌∷◌, ◌++◌}
use Prim.Native.Nat.{ℕ, zero, suc, ◌+◌, ◌-◌, ◌≤◌, ◌<◌}
use native.Mathlib.Omega.{arith}
use lib.Dec.{leb, ltb, eqb}
use lib.ListN.{take, replicate}
use borrow.Author.Tests.{ltb-true, ltb-false, leb-true, leb-false, lt-ltb, le-leb, eq-eqb}
use Rattle.words.proofs.Choice.{chosen, passed, by_test, both, refuted}
use Rattle.windows.specs.declared.Window.{Window}
use Rattle.windows.specs.declared.Right.{Right}
use Rattle.windows.specs.rules.Map.{all_sound, rising, good_map, zero_window, kept_of}
use Rattle.windows.specs.claims.Touching.{held_by_some, one_grants, some_begins, OnTouching, TouchingWindows}
use Rattle.windows.specs.rules.Window.{has_right, end_of, inside, holds_address, grants_range, carries_on, chain_grants, place_from, place_of, sum_of, some}
use Rattle.windows.specs.rules.Window.{inside_some}
use Rattle.windows.proofs.Chains.{either, carries_here, by_next, chained, chain_here, chain_not_held}
use Rattle.windows.proofs.Parts.{within, held, held_by_right, granted, sound, good}

-- one of the windows passes a test: the first, one of the others, or one that stands among them
module _ (test : Window → Bool) where
  some_here : (w : Window) (ws : List Window) → test w ≡ true → some test (w ∷ ws) ≡ true
  unfolding some
  some_here w ws e = rw e refl

  some_later : (w : Window) (ws : List Window) → some test ws ≡ true → some test (w ∷ ws) ≡ true
  unfolding some
  some_later w ws e = rw (e, or-true) refl

  some_at : (before after : List Window) (w : Window) → test w ≡ true → some test (before ++ (w ∷ after)) ≡ true
  some_at [] after w e = some_here w after e
  some_at (v ∷ before) after w e = some_later v (before ++ (w ∷ after)) (some_at before after w e)

  by_some : {P : Type 0} (w : Window) (ws : List Window) → some test (w ∷ ws) ≡ true → (test w ≡ true → P) → (some test ws ≡ true → P) → P
  unfolding some
  by_some w ws e = either _ _ e

-- where each window that passes one test passes another
some_weaker : (p q : Window → Bool) → ((w : Window) → p w ≡ true → q w ≡ true) → (ws : List Window) → some p ws ≡ true → some q ws ≡ true
unfolding some
some_weaker p q weaker [] e = e
some_weaker p q weaker (w ∷ ws) e =
    by_some p w ws e (λ here. some_here q w ws (weaker w here)) (λ later. some_later q w ws (some_weaker p q weaker ws later))

-- a window with bytes has its first address inside
first_inside : (w : Window) → 0 < w.length → inside w w.first ≡ true
unfolding inside
first_inside w long = rw (le-leb w.first w.first (omega arith), lt-ltb w.first (end_of w) (omega arith)) refl

-- an address that a window holds is inside it
held_inside : (right : Right) (x : ℕ) (w : Window) → holds_address w right x ≡ true → inside w x ≡ true
held_inside right x w e = (both (has_right w right) (inside w x) e).1

some_inside : (ws : List Window) (right : Right) (x : ℕ) → held_by_some ws right x ≡ true → inside_some ws x ≡ true
some_inside ws right x = some_weaker (λ w. holds_address w right x) (λ w. inside w x) (held_inside right x) ws

-- windows whose addresses rise: one that others follow has bytes, and all that is inside the others is at or past its end
abbrev Rises : List Window → Type 0
Rises [] = Unit {0}
Rises (w ∷ ws) = ((x : ℕ) → inside_some ws x ≡ true → (0 < w.length) × (end_of w ≤ x)) × Rises ws

-- nothing is inside windows that are all zero
none_inside : (k x : ℕ) → inside_some (replicate k zero_window) x ≡ true → ⊥
unfolding some inside
none_inside zero x e = true≢false (sym e)
none_inside (suc k) x e =
    by_some (λ w. inside w x) zero_window (replicate k zero_window) e (λ here. omega (arith, within zero_window x here)) (none_inside k x)

-- the windows of a good map rise
zeros_rise : (k : ℕ) → Rises (replicate k zero_window)
zeros_rise zero = tt
zeros_rise (suc k) = (λ x e. absurd (none_inside k x e), zeros_rise k)

rising_above : (ws : List Window) (k from x : ℕ) → rising from ws ≡ true → inside_some (ws ++ replicate k zero_window) x ≡ true → from ≤ x
unfolding rising
rising_above [] k from x r e = absurd (none_inside k x e)
rising_above (w ∷ ws) k from x r e =
    let parts = both _ _ r in
    let after = leb-true from w.first parts.0 in
    by_some (λ v. inside v x) w (ws ++ replicate k zero_window) e (λ here. omega (arith, within w x here))
    (λ later. omega (arith, rising_above ws k (end_of w) x parts.1 later))

rises_from : (ws : List Window) (k from : ℕ) → all_sound ws ≡ true → rising from ws ≡ true → Rises (ws ++ replicate k zero_window)
unfolding all_sound rising
rises_from [] k from s r = zeros_rise k
rises_from (w ∷ ws) k from s r =
    let sounds = both _ _ s in
    let order = (both (leb from w.first) (rising (end_of w) ws) r).1 in
    (λ x e. ((sound w sounds.0).not_empty, rising_above ws k (end_of w) x order e), rises_from ws k (end_of w) sounds.1 order)

good_rises : (count : ℕ) (ws : List Window) → good_map count ws ≡ true → Rises (kept_of count ws)
unfolding kept_of
good_rises count ws e = let order = both _ _ (good count ws e).in_order in rises_from (take count ws) (8 - count) 0 order.0 order.1

-- windows that carry on hold each address on the way
carries_hold : (ws : List Window) (right : Right) (from end x : ℕ) → carries_on ws right from end ≡ true → from ≤ x → x < end
    → held_by_some ws right x ≡ true
carries_hold [] right from end x e above below = absurd (omega (arith, leb-true end from e))
carries_hold (w ∷ ws) right from end x e above below =
    by_next w ws right from end e (λ reached. absurd (omega arith))
    (λ on.
    by_test (ltb x (end_of w))
    (λ t. some_here (λ v. holds_address v right x) w ws (sym (held_by_right w right x (omega arith) (ltb-true x (end_of w) t)) ∙ on.right_held))
    (λ f.
    some_later (λ v. holds_address v right x) w ws (carries_hold ws right (end_of w) end x on.rest (ltb-false x (end_of w) f) below)))

-- each address of a range that has a place lies in a window with the right
placed_hold : (ws : List Window) (right : Right) (a n base p x : ℕ) → place_from base ws right a n ≡ Some p → a ≤ x → x < a + n
    → held_by_some ws right x ≡ true
unfolding place_from
placed_hold [] right a n base p x e above below = absurd (let z : ◌≡◌ {A = ℕ} 0 1 = cc in omega arith)
placed_hold (w ∷ ws) right a n base p x e above below =
    by_test (chain_grants w ws right a n)
    (λ t.
    let c = chained w ws right a n t in
    let h = c.address_held in
    by_test (ltb x (end_of w))
    (λ before.
    some_here (λ v. holds_address v right x) w ws (sym (held_by_right w right x (omega arith) (ltb-true x (end_of w) before)) ∙ h.right_held))
    (λ past.
    some_later (λ v. holds_address v right x) w ws (carries_hold ws right (end_of w) (a + n) x c.others (ltb-false x (end_of w) past) below)))
    (λ f.
    some_later (λ v. holds_address v right x) w ws
    (placed_hold ws right a n (base + w.length) p x (sym (passed (chain_grants w ws right a n) _ _ f) ∙ e) above below))

-- an address at or past a window's end is held by the others, if it is held at all
later_held : (w : Window) (ws : List Window) (right : Right) (x : ℕ) → end_of w ≤ x → held_by_some (w ∷ ws) right x ≡ true → held_by_some ws right x ≡ true
later_held w ws right x past e = by_some (λ v. holds_address v right x) w ws e (λ here. absurd (omega (arith, held w right x here))) (λ later. later)

-- where each address on the way lies in a window with the right, the windows carry on: what holds the first one begins there
carries_where_held : (ws : List Window) (right : Right) (from end : ℕ) → Rises ws → ((x : ℕ) → inside_some ws x ≡ true → from ≤ x)
    → ((x : ℕ) → from ≤ x → x < end → held_by_some ws right x ≡ true) → carries_on ws right from end ≡ true
unfolding some
carries_where_held [] right from end r above covered =
    by_test (leb end from) (λ t. t) (λ f. absurd (true≢false (sym (covered from (omega arith) (leb-false end from f)))))
carries_where_held (w ∷ ws) right from end r above covered =
    by_test (leb end from) (λ t. rw t refl)
    (λ f.
    let more = leb-false end from f in
    by_some (λ v. holds_address v right from) w ws (covered from (omega arith) more)
    (λ here.
    let h = held w right from here in
    let begins = above w.first (some_here (λ v. inside v w.first) w ws (first_inside w (omega arith))) in
    let rest =
    carries_where_held ws right (end_of w) end r.1 (λ x e. (r.0 x e).1)
    (λ x past below. later_held w ws right x past (covered x (omega arith) below))
    in
    rw (f, eq-eqb w.first from (omega arith), h.right_held, rest) refl)
    (λ later.
    let after = r.0 from (some_inside ws right from later) in
    let begins = above w.first (some_here (λ v. inside v w.first) w ws (first_inside w after.0)) in
    absurd (omega arith)))

-- so the range has a place
place_where_held : (ws : List Window) (right : Right) (a n base : ℕ) → Rises ws → 0 < n
    → ((x : ℕ) → a ≤ x → x < a + n → held_by_some ws right x ≡ true) → is_some (place_from base ws right a n) ≡ true
unfolding place_from some
place_where_held [] right a n base r some_byte covered = absurd (true≢false (sym (covered a (omega arith) (omega arith))))
place_where_held (w ∷ ws) right a n base r some_byte covered =
    by_test (chain_grants w ws right a n) (λ t. ap is_some (chosen _ _ _ t))
    (λ f.
    ap is_some (passed (chain_grants w ws right a n) _ _ f)
    ∙ by_some (λ v. holds_address v right a) w ws (covered a (omega arith) (omega arith))
    (λ here.
    let h = held w right a here in
    let rest =
    carries_where_held ws right (end_of w) (a + n) r.1 (λ x e. (r.0 x e).1)
    (λ x past below. later_held w ws right x past (covered x (omega arith) below))
    in
    absurd (true≢false (sym (chain_here w ws right a n here rest) ∙ f)))
    (λ later.
    let past = (r.0 a (some_inside ws right a later)).1 in
    place_where_held ws right a n (base + w.length) r.1 some_byte
    (λ x above below. later_held w ws right x (omega arith) (covered x above below))))

-- windows that carry on to an address lie without a gap up to the one that has it
carried_first : (before after : List Window) (w : Window) (right : Right) (from end x : ℕ) → Rises (before ++ (w ∷ after))
    → carries_on (before ++ (w ∷ after)) right from end ≡ true → from ≤ x → x < end → inside w x ≡ true → from + sum_of before ≡ w.first
unfolding sum_of
carried_first [] after w right from end x r e above below here =
    by_next w after right from end e (λ reached. absurd (omega arith)) (λ on. omega arith)
carried_first (v ∷ before) after w right from end x r e above below here =
    by_next v (before ++ (w ∷ after)) right from end e (λ reached. absurd (omega arith))
    (λ on.
    let past = (r.0 x (some_at (λ u. inside u x) before after w here)).1 in
    omega (arith, carried_first before after w right (end_of v) end x r.1 on.rest past below here))

-- each byte of a range that has a place lies where its window has it
placed_byte : (before after : List Window) (w : Window) (right : Right) (a n base p x : ℕ) → Rises (before ++ (w ∷ after))
    → place_from base (before ++ (w ∷ after)) right a n ≡ Some p → a ≤ x → x < a + n → inside w x ≡ true
    → p + (x - a) ≡ base + sum_of before + (x - w.first)
unfolding place_from sum_of
placed_byte [] after w right a n base p x r e above below here =
    let at = within w x here in
    by_test (chain_grants w after right a n)
    (λ t.
    let h = (chained w after right a n t).address_held in
    let found : Some (base + (a - w.first)) ≡ Some p = sym (chosen _ _ _ t) ∙ e in
    let place : base + (a - w.first) ≡ p = cc in
    omega arith)
    (λ f.
    let rest = placed_hold after right a n (base + w.length) p a (sym (passed (chain_grants w after right a n) _ _ f) ∙ e) (omega arith) (omega arith) in
    let past = (r.0 a (some_inside after right a rest)).1 in
    absurd (omega arith))
placed_byte (v ∷ before) after w right a n base p x r e above below here =
    let at = within w x here in
    let past = (r.0 x (some_at (λ u. inside u x) before after w here)).1 in
    by_test (chain_grants v (before ++ (w ∷ after)) right a n)
    (λ t.
    let c = chained v (before ++ (w ∷ after)) right a n t in
    let h = c.address_held in
    let first = carried_first before after w right (end_of v) (a + n) x r.1 c.others past below here in
    let found : Some (base + (a - v.first)) ≡ Some p = sym (chosen _ _ _ t) ∙ e in
    let place : base + (a - v.first) ≡ p = cc in
    omega arith)
    (λ f.
    omega (
      arith,
      placed_byte before after w right a n (base + v.length) p x r.1 (sym (passed (chain_grants v (before ++ (w ∷ after)) right a n) _ _ f) ∙ e) above
          below here,
    ))

-- size 0 asks one window
none_granted : (ws : List Window) (right : Right) (a base : ℕ) → is_some (place_from base ws right a 0) ≡ one_grants ws right a 0
unfolding place_from some grants_range
none_granted [] right a base = refl
none_granted (w ∷ ws) right a base =
    by_test (holds_address w right a)
    (λ t.
    let h = held w right a t in
    let on = carries_here ws right (end_of w) (a + 0) (omega arith) in
    ap is_some (chosen _ _ _ (chain_here w ws right a 0 t on)) ∙ rw (t, le-leb (a + 0) (end_of w) (omega arith)) refl)
    (λ f. ap is_some (passed (chain_grants w ws right a 0) _ _ (chain_not_held w ws right a 0 f)) ∙ none_granted ws right a (base + w.length) ∙ rw f refl)

-- where an address is inside some of the windows and none holds a lower one, a window begins there
begins_there : (ws : List Window) (e : ℕ) → ((x : ℕ) → inside_some ws x ≡ true → e ≤ x) → inside_some ws e ≡ true → some_begins ws e ≡ true
unfolding some
begins_there [] e above there = there
begins_there (w ∷ ws) e above there =
    by_some (λ v. inside v e) w ws there
    (λ here.
    let at = within w e here in
    let begins = above w.first (some_here (λ v. inside v w.first) w ws (first_inside w (omega arith))) in
    some_here (λ v. eqb v.first e) w ws (eq-eqb w.first e (omega arith)))
    (λ later.
    some_later (λ v. eqb v.first e) w ws
    (begins_there ws e (λ x i. above x (some_later (λ v. inside v x) w ws i)) later))

-- so what has the address at a window's end begins there
touching_begins : (before after : List Window) (w : Window) → Rises (before ++ (w ∷ after)) → 0 < w.length
    → inside_some (before ++ (w ∷ after)) (end_of w) ≡ true → some_begins (before ++ (w ∷ after)) (end_of w) ≡ true
touching_begins [] after w r long there =
    by_some (λ v. inside v (end_of w)) w after there (λ here. absurd (omega (arith, within w (end_of w) here)))
    (λ later. some_later (λ v. eqb v.first (end_of w)) w after (begins_there after (end_of w) (λ x i. (r.0 x i).1) later))
touching_begins (v ∷ before) after w r long there =
    by_some (λ u. inside u (end_of w)) v (before ++ (w ∷ after)) there
    (λ here.
    let first = (r.0 w.first (some_at (λ u. inside u w.first) before after w (first_inside w long))).1 in
    absurd (omega (arith, within v (end_of w) here)))
    (λ later. some_later (λ u. eqb u.first (end_of w)) v (before ++ (w ∷ after)) (touching_begins before after w r.1 long later))

-- a range that one window grants lies where that window has it
one_place : (before after : List Window) (w : Window) (right : Right) (a n base : ℕ) → Rises (before ++ (w ∷ after))
    → grants_range w right a n ≡ true → place_from base (before ++ (w ∷ after)) right a n ≡ Some (base + sum_of before + (a - w.first))
unfolding place_from sum_of
one_place [] after w right a n base r e =
    let g = granted w right a n e in
    let on = carries_here after right (end_of w) (a + n) g.to_end in
    chosen _ _ _ (chain_here w after right a n g.address_held on) ∙ ap Some (omega arith)
one_place (v ∷ before) after w right a n base r e =
    let there = (granted w right a n e).address_held in
    let past = (r.0 a (some_at (λ u. inside u a) before after w (held_inside right a w there))).1 in
    let not-here = sym (refuted (holds_address v right a) (λ h. omega (arith, held v right a h))) in
    passed (chain_grants v (before ++ (w ∷ after)) right a n) _ _ (chain_not_held v (before ++ (w ∷ after)) right a n not-here)
    ∙ one_place before after w right a n (base + v.length) r.1 e ∙ ap Some (omega arith)

-- a place that is there, and one that is not
place-of : (found : Option ℕ) → is_some found ≡ true → (p : ℕ) × (found ≡ Some p)
place-of (Some p) e = (p, refl)
place-of None e = absurd (true≢false (sym e))

no_place : (found : Option ℕ) → ((p : ℕ) → found ≡ Some p → ⊥) → found ≡ None
no_place (Some p) never = absurd (never p refl)
no_place None never = refl

on_rising : (ws : List Window) → Rises ws → OnTouching ws
unfolding place_of
on_rising ws r =
    record {
      only_where_held = λ right a n e i h.
          let found = place-of (place_of ws right a n) e in
          placed_hold ws right a n 0 found.0 (a + i) found.1 (omega arith) (omega arith);
      where_held = λ right a n some_byte covered.
          place_where_held ws right a n 0 r some_byte
          (λ x above below. subst (λ (y : ℕ). held_by_some ws right y ≡ true) (omega arith) (covered (x - a) (omega arith)));
      byte_by_byte = λ right a n place i e h before after w stands here.
          omega (
            arith,
            placed_byte before after w right a n 0 place (a + i) (subst Rises stands r)
                (subst (λ (l : List Window). place_from 0 l right a n ≡ Some place) stands e)
                (omega arith) (omega arith) here,
          );
      size_zero = λ right a. none_granted ws right a 0;
      nothing_touches = λ before after w stands untouched right a n here past.
          let at = within w a here in
          no_place (place_of ws right a n)
          (λ p e.
          let end-inside = some_inside ws right (end_of w) (placed_hold ws right a n 0 p (end_of w) e (omega arith) past) in
          let begins =
          touching_begins before after w (subst Rises stands r) (omega arith)
          (subst (λ (l : List Window). inside_some l (end_of w) ≡ true) stands end-inside)
          in
          true≢false (sym begins ∙ subst (λ (l : List Window). some_begins l (end_of w) ≡ false) stands untouched));
      one_window = λ before after w stands right a n e.
          ap (λ (l : List Window). place_from 0 l right a n) stands ∙ one_place before after w right a n 0 (subst Rises stands r) e ∙ ap Some (omega arith);
    }

pub touching_windows : TouchingWindows
touching_windows count ws e = on_rising (kept_of count ws) (good_rises count ws e)

-- A stretch of releases has one answer: a line that answers at its beginning is in force through it, and a line that began within one that has none would end
-- it.
use Prim.Native.Nat.{ℕ, zero, suc, ◌-◌, ◌≤◌, ◌<◌}
use mathlib.Core.Bool.{true, false, ◌&&◌, ◌||◌, and-false, true≢false}
use mathlib.Core.List.{List, [], ◌∷◌}
use mathlib.Core.Path.{◌≡◌, refl, sym, ap, ap₂, subst, ◌∙◌}
use native.Mathlib.Omega.{arith}
use borrow.Author.Tests.{leb-true, leb-false, le-leb, lt-ltb, ltb-true, ltb-false, eqb-false, ne_eqb}
use Rattle.std.specs.Prelude.{Option, Some, None}
use Rattle.std.specs.Option.{option_map_or}
use lib.Dec.{eqb, leb, ltb}
use lib.ListN.{length}
use Rattle.words.proofs.Choice.{chosen, passed, by_test, both, of_choice, neither}
use Rattle.field_lines.specs.rules.Clashes.{lasts, in_force}
use Rattle.field_lines.specs.declared.FieldLine.{FieldLine}
use Rattle.field_register.specs.rules.Questions.{is_about, answers, asked, sooner, soonest, last_before, stretch_from}
use Rattle.field_register.specs.declared.Subject.{Subject}
use Rattle.field_laws.specs.claims.Meanings.{register_of, lines_of, nth, StretchMeans}
use Rattle.field_register.proofs.ByLine.{by_answer}
use Rattle.field_laws.proofs.Answers.{where_found, none_at, the_answer_is}
use Rattle.field_laws.proofs.Clashing.{or_first, or_second, or_else, in-force, is_in_force, lasts_before}

module _ (s : Subject) (release : ℕ) where
  -- later than the release, and no later than another
  record Soon (n limit : ℕ) : Type 0 where
    pub later : release < n
    pub low : n ≤ limit

  -- 0, or later than the release
  abbrev Late : ℕ → Type 0
  Late n = (n ≡ 0 → ⊥) → release < n

  -- the sooner of two is no later than the best, and no later than the line's first release where the line counts
  sooner_best : (best limit : ℕ) (l : FieldLine) → Soon best limit → Soon (sooner s release best l) limit
  unfolding sooner
  sooner_best best limit l h =
      by_test (is_about s l && ltb release l.since && (eqb best 0 || ltb l.since best))
      (λ held.
      let parts = both (is_about s l && ltb release l.since) _ held in
      let later : release < l.since = ltb-true _ _ (both (is_about s l) _ parts.0).1 in
      let before : l.since < best = ltb-true _ _ (or_else (eqb best 0) (ltb l.since best) parts.1 (ne_eqb best 0 (λ none. omega (arith, h)))) in
      subst (λ (n : ℕ). Soon n limit) (sym (chosen _ _ _ held)) (record { later = later; low = omega (arith, h) }))
      (λ failed. subst (λ (n : ℕ). Soon n limit) (sym (passed _ _ _ failed)) h)

  sooner_line : (best : ℕ) (l : FieldLine) → Late best → is_about s l ≡ true → release < l.since → Soon (sooner s release best l) l.since
  unfolding sooner
  sooner_line best l late about later =
      by_test (eqb best 0 || ltb l.since best)
      (λ first.
      subst (λ (n : ℕ). Soon n l.since) (sym (chosen _ _ _ (ap₂ ◌&&◌ (ap₂ ◌&&◌ about (lt-ltb _ _ later)) first)))
      (record { later = later; low = omega arith }))
      (λ not_first.
      let rest = neither (eqb best 0) (ltb l.since best) not_first in
      let low : best ≤ l.since = ltb-false _ _ rest.1 in
      subst (λ (n : ℕ). Soon n l.since) (sym (passed _ _ _ (rw not_first (and-false (is_about s l && ltb release l.since)))))
      (record { later = late (eqb-false best 0 rest.0); low = low }))

  soonest_best : (best limit : ℕ) (ls : List FieldLine) → Soon best limit → Soon (soonest s release best ls) limit
  unfolding soonest
  soonest_best best limit [] h = h
  soonest_best best limit (l ∷ ls) h = soonest_best (sooner s release best l) limit ls (sooner_best best limit l h)

  sooner_late : (best : ℕ) (l : FieldLine) → Late best → Late (sooner s release best l)
  unfolding sooner
  sooner_late best l late =
      of_choice Late (is_about s l && ltb release l.since && (eqb best 0 || ltb l.since best))
      (λ held some. ltb-true _ _ (both (is_about s l) _ (both (is_about s l && ltb release l.since) _ held).0).1)
      (λ failed. late)

  soonest_line : (best : ℕ) (ls : List FieldLine) → Late best → (i : ℕ) → i < length ls → is_about s (nth ls i) ≡ true → release < (nth ls i).since
      → Soon (soonest s release best ls) (nth ls i).since
  unfolding soonest
  soonest_line best [] late i h about later = absurd (omega arith)
  soonest_line best (l ∷ ls) late zero h about later = soonest_best (sooner s release best l) l.since ls (sooner_line best l late about later)
  soonest_line best (l ∷ ls) late (suc i) h about later =
      soonest_line (sooner s release best l) ls (sooner_late best l late) i (omega arith) about later

module _ (text : List ℕ) (s : Subject) (release q : ℕ) (from : release ≤ q) where
  abbrev now : Option FieldLine
  now = asked (register_of text) s release

  answers_at : (l : FieldLine) → answers s release l ≡ true → (lasts l q ≡ true) → answers s q l ≡ true
  unfolding answers
  answers_at l e on =
      let parts = both (is_about s l) _ e in
      let f = in-force l release parts.1 in
      ap₂ ◌&&◌ parts.0 (is_in_force l q (omega arith) on)

  line_stays : (l : FieldLine) → now ≡ Some l → lasts l q ≡ true → asked (register_of text) s q ≡ now
  line_stays l some on =
      let w = where_found s release (lines_of text) l some in
      the_answer_is text s q w.number w.below (rw w.is (answers_at l w.answers_it on)) ∙ ap Some w.is ∙ sym some

  -- a line that answers later, and did not at the release, begins after it
  began : (l : FieldLine) → answers s release l ≡ false → answers s q l ≡ true → (is_about s l ≡ true) × (release < l.since)
  unfolding answers
  began l none e =
      let parts = both (is_about s l) _ e in
      let f = in-force l q parts.1 in
      by_test (leb l.since release)
      (λ early.
      let held : in_force l release ≡ true = is_in_force l release (leb-true _ _ early) (lasts_before l q release from f.on) in
      absurd (true≢false (sym (ap₂ ◌&&◌ parts.0 held) ∙ none)))
      (λ late. (parts.0, leb-false _ _ late))

  none_stays : 1 ≤ release → now ≡ None
      → ((last_before (soonest s release 0 (lines_of text)) ≡ 0 → ⊥) → q ≤ last_before (soonest s release 0 (lines_of text)))
      → asked (register_of text) s q ≡ now
  unfolding answers last_before
  none_stays first none until =
      by_answer (asked (register_of text) s q)
      (λ l some.
      let w = where_found s q (lines_of text) l some in
      let silent : answers s release l ≡ false =
      subst (λ (x : FieldLine). answers s release x ≡ false) w.is
      (none_at s release (lines_of text) none w.number w.below) in
      let b = began l silent w.answers_it in
      let soon = soonest_line s release 0 (lines_of text) (λ some-best. absurd (some-best refl)) w.number w.below
      (rw w.is b.0) (rw w.is b.1) in
      let next : ℕ = soonest s release 0 (lines_of text) in
      let up_to : last_before next ≡ next - 1 = passed _ _ _ (ne_eqb next 0 (λ zero-next. omega (arith, soon.later))) in
      let since-low : l.since ≤ q = (in-force l q (both (is_about s l) _ w.answers_it).1).since in
      let soon-low : next ≤ l.since = subst (λ (x : FieldLine). next ≤ x.since) w.is soon.low in
      let past : q ≤ last_before next = until (λ none_last. omega (arith, up_to, soon.later)) in
      absurd (omega (arith, up_to, soon.later)))
      (λ silent. silent ∙ sym none)

  -- the last release of an answer
  abbrev last_of : Option FieldLine → ℕ
  last_of f = option_map_or (λ (l : FieldLine). l.until) f (last_before (soonest s release 0 (lines_of text)))

  one_through : 1 ≤ release → (((stretch_from (register_of text) s release).last ≡ 0 → ⊥) → q ≤ (stretch_from (register_of text) s release).last)
      → asked (register_of text) s q ≡ (stretch_from (register_of text) s release).found
  unfolding stretch_from lasts
  one_through first until =
      by_answer now
      (λ l some.
      let last : (stretch_from (register_of text) s release).last ≡ l.until = ap last_of some in
      line_stays l some
      (by_test (eqb l.until 0) (λ endless. or_first (eqb l.until 0) _ endless)
      (λ ends.
      or_second (eqb l.until 0) _ (le-leb q l.until (rw last at (until (λ none_last. eqb-false l.until 0 ends (sym last ∙ none_last))))))))
      (λ none.
      let last : (stretch_from (register_of text) s release).last ≡ last_before (soonest s release 0 (lines_of text)) = ap last_of none in
      none_stays first none (λ some-last. rw last at (until (λ none_last. some-last (sym last ∙ none_last)))))

pub stretch_means : StretchMeans
stretch_means = record { one_answer_through = λ text s release q from first until. one_through text s release q from first until }

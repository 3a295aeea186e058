-- The laws of the retries: only a mismatch has any of the three ends, and its tests are taken one after the other; every row but one keeps the retries.
use Prim.Native.Nat.{ℕ}
use mathlib.Core.Bool.{Bool, true, false, ◌&&◌, true≢false, and-false}
use mathlib.Core.List.{List}
use mathlib.Core.Path.{◌≡◌, refl, sym, ap, ap₂, ◌∙◌}
use lib.Dec.{ltb, eqb}
use borrow.Author.Tests.{leb-true, leb-false, le-ltb, lt-ltb, lt-leb, eq-eqb}
use Rattle.words.proofs.Choice.{chosen, passed}
use Rattle.opcodes.specs.rules.Answers.{code_of}
use Rattle.host_answers.specs.rules.Answers.{sending}
use Rattle.host_laws.specs.claims.Looks.{is_turn}
use Rattle.host_laws.specs.claims.Outgoing.{Begins, Moves, Next, begins, moves, starts_over, closed, closes, done, greeted, started, pinged, echoed}
use Rattle.host_laws.specs.claims.Outgoing.{echoed_last, met, passed as passed_over, went, matched, sought}
use Rattle.host_laws.specs.claims.Retries.{mismatches, retried, Retrying, RetriesAreCounted}
use Rattle.host_answers.specs.declared.Host.{Host}
use Rattle.host_answers.specs.declared.Sending.{Sending}
use Rattle.host_answers.specs.declared.Turned.{Turned}
use Rattle.host_answers.specs.declared.Wait.{Wait}
use Rattle.host_laws.proofs.TurnCases.{Looked, twenty, goes_on, goes, refuses, no_retry, no_seek, Way, over, another, looks, way}

module _ {h : Host} {image : List ℕ} where
  -- a row for another than a mismatch
  begins_same : {before after : Wait} {out : Sending} → Begins h image before after out → mismatches before h image ≡ false
  begins_same greeted = refl
  begins_same started = refl
  begins_same pinged = refl
  begins_same (echoed more) = refl
  begins_same (echoed_last last) = refl
  begins_same (met stands sent) = refl

  moves_same : {before : Wait} {offset : ℕ} {out : Sending} → Moves h image before offset out → mismatches before h image ≡ false
  moves_same (passed_over stands stays) = refl
  moves_same (went words stays) = rw words.asks_nothing
  moves_same (matched asks e) = rw (asks, eq-eqb _ _ e, and-false)
  moves_same sought = refl

module _ (h : Host) (image : List ℕ) where
  -- no turn, or no mismatch: none of the three
  quiet : {t : Turned} → (is_turn h image && mismatches h.stage.wait h image) ≡ false → t.host.retries ≡ h.retries
      → eqb (code_of t.refusal) 11 ≡ false → eqb (code_of t.refusal) 12 ≡ false → Retrying h image t
  quiet none same not_11 not_12 =
      let off : retried h image ≡ false = rw none in
      record {
        counted = same ∙ sym (passed _ _ _ off);
        eleven = not_11 ∙ sym (rw none);
        twelve = not_12 ∙ sym (rw none);
        starts_over = λ on. absurd (true≢false (sym on ∙ off));
      }

  module _ (running : h.ended ≡ false) (turn : is_turn h image ≡ true) where
    -- the mismatch of the wait that the host is in
    of_wait : {before : Wait} (b : Bool) → before ≡ h.stage.wait → mismatches before h image ≡ b
        → (is_turn h image && mismatches h.stage.wait h image) ≡ b
    of_wait b here e = ap₂ ◌&&◌ turn (ap (λ (before : Wait). mismatches before h image) (sym here) ∙ e)

    next_retrying : {before : Wait} {g : Host} {out : Sending} → before ≡ h.stage.wait → Next h image before g out → Retrying h image (sending out g)
    next_retrying here (begins row) = quiet (of_wait false here (begins_same row)) refl refl refl
    next_retrying here (moves row) = quiet (of_wait false here (moves_same row)) refl refl refl
    next_retrying here (starts_over {offset = offset} other left led) =
        let mismatch = of_wait true here other in
        let some : ltb h.retries h.limit ≡ true = lt-ltb _ _ left in
        record {
          counted = sym (chosen _ _ _ (rw (mismatch, some, led)));
          eleven = sym (rw (mismatch, lt-leb h.limit h.retries left));
          twelve = sym (rw (mismatch, some, led));
          starts_over = λ on. record { offset = offset; led = led; sent = refl; waits = refl; same_offset = refl; running = running };
        }
    next_retrying here (closed words shuts dialect) = quiet (of_wait false here (rw words.asks_nothing)) refl refl refl
    next_retrying here (closes words shuts dialect) = quiet (of_wait false here (rw words.asks_nothing)) refl refl refl
    next_retrying here done = quiet (of_wait false here refl) refl refl refl

    looked_retrying : {before : Wait} {t : Turned} → before ≡ h.stage.wait → Looked h image before t → Retrying h image t
    looked_retrying here (twenty failed same) = quiet (of_wait false here same) refl refl refl
    looked_retrying here (goes_on wrong more same left) = quiet (of_wait false here same) refl refl refl
    looked_retrying here (goes heard row) = next_retrying here row
    looked_retrying here (refuses heard same plain) = quiet (of_wait false here same) refl plain.not_11 plain.not_12
    looked_retrying here (no_retry heard other none) =
        let mismatch = of_wait true here other in
        let off : retried h image ≡ false = rw (mismatch, le-ltb h.retries h.limit (leb-true _ _ none)) in
        record {
          counted = sym (passed _ _ _ off);
          eleven = sym (rw (mismatch, none));
          twelve = sym (rw (mismatch, le-ltb h.retries h.limit (leb-true _ _ none)));
          starts_over = λ on. absurd (true≢false (sym on ∙ off));
        }
    looked_retrying here (no_seek heard other left lost) =
        let mismatch = of_wait true here other in
        let some : ltb h.retries h.limit ≡ true = lt-ltb h.retries h.limit (leb-false _ _ left) in
        let off : retried h image ≡ false = rw (mismatch, some, lost) in
        record {
          counted = sym (passed _ _ _ off);
          eleven = sym (rw (mismatch, left));
          twelve = sym (rw (mismatch, some, lost));
          starts_over = λ on. absurd (true≢false (sym on ∙ off));
        }

  way_retrying : {t : Turned} → Way h image t → Retrying h image t
  way_retrying (over ended idle) = quiet (rw idle) refl refl refl
  way_retrying (another running other idle) = quiet (rw idle) refl refl refl
  way_retrying (looks running lent turn look) = looked_retrying running turn refl look

pub retries_are_counted : RetriesAreCounted
retries_are_counted h image = way_retrying h image (way h image)

-- The laws of the tries: of the ways of a turn only a look that fails is 20, one that goes on is the wait again, and the table begins every wait anew.
use Prim.Native.Nat.{ℕ}
use mathlib.Core.Bool.{true, false, ◌&&◌, true≢false}
use mathlib.Core.List.{List}
use mathlib.Core.Path.{◌≡◌, refl, sym, ◌∙◌}
use lib.Dec.{eqb}
use Rattle.opcodes.specs.rules.Answers.{code_of, accepted}
use Rattle.host_laws.specs.claims.Looks.{is_turn, right_answer, fails, TwentyExactly, Again, WhatIsRepeated, Fresh, EachWaitAnew}
use Rattle.host_laws.specs.claims.Outgoing.{Next, begins, moves, starts_over, closed, closes, done}
use Rattle.host_answers.specs.declared.Host.{Host}
use Rattle.host_answers.specs.declared.Sending.{Sending}
use Rattle.host_answers.specs.declared.Turned.{Turned}
use Rattle.host_answers.specs.declared.Wait.{Wait}
use Rattle.host_laws.proofs.OutLaws.{what_follows}
use Rattle.host_laws.proofs.TurnCases.{Looked, twenty, goes_on, goes, refuses, no_retry, no_seek, Way, over, another, looks, way}

module _ {h : Host} {image : List ℕ} where
  looked_tries : {before : Wait} {t : Turned} → Looked h image before t → eqb (code_of t.refusal) 20 ≡ fails before h image
  looked_tries (twenty failed same) = sym failed
  looked_tries (goes_on wrong fine same left) = sym fine
  looked_tries (goes right row) = sym right.fine
  looked_tries (refuses right same plain) = plain.not_20 ∙ sym right.fine
  looked_tries (no_retry right other none) = sym right.fine
  looked_tries (no_seek right other left lost) = sym right.fine

  way_tries : {t : Turned} → Way h image t → eqb (code_of t.refusal) 20 ≡ (is_turn h image && fails h.stage.wait h image)
  way_tries (over ended idle) = rw idle
  way_tries (another running other idle) = rw idle
  way_tries (looks running lent turn look) = rw turn (looked_tries look)

pub twenty_exactly : TwentyExactly
twenty_exactly h image = way_tries (way h image)

module _ {h : Host} {image : List ℕ} where
  looked_again : {t : Turned} → h.ended ≡ false → Looked h image h.stage.wait t → accepted t.refusal ≡ true
      → right_answer h.stage.wait h image ≡ false → Again h image t
  looked_again running (twenty failed same) fine wrong = absurd (true≢false (sym fine))
  looked_again running (goes_on no_answer more same left) fine wrong =
      record {
        sent = refl;
        spent = refl;
        same_wait = refl;
        same_offset = refl;
        same_retries = refl;
        heard = refl;
        running = running;
      }
  looked_again running (goes right row) fine wrong = absurd (true≢false (sym right.right ∙ wrong))
  looked_again running (refuses right same plain) fine wrong = absurd (true≢false (sym right.right ∙ wrong))
  looked_again running (no_retry right other none) fine wrong = absurd (true≢false (sym fine))
  looked_again running (no_seek right other left lost) fine wrong = absurd (true≢false (sym fine))

  way_again : {t : Turned} → Way h image t → accepted t.refusal ≡ true → right_answer h.stage.wait h image ≡ false → Again h image t
  way_again (over ended idle) fine wrong = absurd (true≢false (sym fine))
  way_again (another running other idle) fine wrong = absurd (true≢false (sym fine))
  way_again (looks running lent turn look) fine wrong = looked_again running look fine wrong

  next_anew : {before : Wait} {g : Host} {out : Sending} → Next h image before g out → g.ended ≡ false → Fresh g
  next_anew (begins row) running = record { untried = refl; silent = refl }
  next_anew (moves row) running = record { untried = refl; silent = refl }
  next_anew (starts_over other left led) running = record { untried = refl; silent = refl }
  next_anew (closed words shuts dialect) running = absurd (true≢false running)
  next_anew (closes words shuts dialect) running = record { untried = refl; silent = refl }
  next_anew done running = absurd (true≢false running)

pub what_is_repeated : WhatIsRepeated
what_is_repeated h image = way_again (way h image)

pub each_wait_anew : EachWaitAnew
each_wait_anew h image fine right = next_anew (what_follows h image fine right)

-- Each turn leaves fewer turns: a try more, the next wait, the next command and a retry each do, as a command is four bytes at least and takes two waits, and a
-- retry goes through the image once more at most.
use Prim.Native.Nat.{ℕ, ◌+◌, ◌-◌, ◌*◌, ◌≤◌, ◌<◌}
use mathlib.Core.Bool.{Bool, true, false, true≢false}
use mathlib.Core.List.{List, [], ◌∷◌}
use mathlib.Core.Path.{◌≡◌, refl, sym, ap, subst, ◌∙◌}
use native.Mathlib.Nat.{mul-le-mul_right, add-mul}
use native.Mathlib.Omega.{arith}
use lib.ListN.{length}
use borrow.Author.Tests.{eqb-true}
use Rattle.words.specs.rules.Choice.{pick}
use Rattle.words.proofs.Choice.{both, passed}
use Rattle.flash_session.specs.rules.Opening.{good_length}
use Rattle.host_answers.specs.rules.Ends.{wait_turns, command_turns, turns_in, most_turns}
use Rattle.host_answers.specs.rules.Hosts.{trying, heard, heard_all}
use Rattle.host_laws.specs.claims.Looks.{is_turn, right_answer}
use Rattle.host_laws.specs.claims.Outgoing.{Begins, Moves, Next, begins, moves, starts_over, closed, closes, done, greeted, started, pinged, echoed}
use Rattle.host_laws.specs.claims.Outgoing.{echoed_last, met, passed as passed_over, went, matched, sought, into, on_from}
use Rattle.host_laws.specs.claims.Turns.{EachTurnCounts}
use Rattle.host_answers.specs.declared.Host.{Host}
use Rattle.host_answers.specs.declared.Sending.{Sending}
use Rattle.host_answers.specs.declared.Turned.{Turned}
use Rattle.host_answers.specs.declared.Wait.{Wait}
use Rattle.host_answers.specs.declared.Wait.TheVariants as wait
use Rattle.host_laws.proofs.TurnCases.{Looked, twenty, goes_on, goes, refuses, no_retry, no_seek, Way, over, another, looks, way}

-- more by so many is so many times more
scaled : (less more n by : ℕ) → less + n ≤ more → less * by + n * by ≤ more * by
scaled less more n by h = subst (λ (x : ℕ). x ≤ more * by) (add-mul less n by) (mul-le-mul_right by h)

-- a host that has ended has no turns left
at_most : (ended : Bool) (turns more : ℕ) → turns < more → pick ended 0 turns < more
unfolding pick
at_most true turns more h = omega arith
at_most false turns more h = h

module _ (h : Host) (image : List ℕ) (lent : length image ≡ h.length) where
  -- from an offset to one that is so much further in the image
  further : (from to n : ℕ) → from + n ≤ to → to ≤ length image → command_turns h to + n * wait_turns h ≤ command_turns h from
  further from to n on inside =
      let again : ℕ = (h.limit - h.retries) * (h.length + 2) in
      scaled (again + (h.length - to)) (again + (h.length - from)) n (wait_turns h) (omega arith)

  -- a retry: wherever it leads, the whole image is less than what it takes away
  retried_fewer : (to end : ℕ) → h.retries < h.limit
      → ((h.limit - (h.retries + 1)) * (h.length + 2) + (h.length - to)) * wait_turns h + 2 * wait_turns h ≤ command_turns h end
  retried_fewer to end left =
      let once = scaled (h.limit - (h.retries + 1)) (h.limit - h.retries) 1 (h.length + 2) (omega arith) in
      scaled ((h.limit - (h.retries + 1)) * (h.length + 2) + (h.length - to)) ((h.limit - h.retries) * (h.length + 2) + (h.length - end)) 2
      (wait_turns h) (omega arith)

  begins_fewer : {before after : Wait} {out : Sending} → Begins h image before after out → turns_in after (into h after) < turns_in before h
  begins_fewer greeted = omega (arith, scaled (h.pings + 2) (h.pings + 3) 1 (wait_turns h) (omega arith))
  begins_fewer started = omega (arith, scaled (h.pings + 1) (h.pings + 2) 1 (wait_turns h) (omega arith))
  begins_fewer pinged = omega (arith, scaled (h.pings - 0) (h.pings + 1) 1 (wait_turns h) (omega arith))
  begins_fewer (echoed {k = k} more) = omega (arith, scaled (h.pings - (k + 1)) (h.pings - k) 1 (wait_turns h) (omega arith))
  begins_fewer (echoed_last last) = omega arith
  begins_fewer (met {end = end} stands sent) = omega (arith, further h.offset end 4 (omega arith) stands.inside)

  moves_fewer : {before : Wait} {offset : ℕ} {out : Sending} → Moves h image before offset out
      → turns_in wait.Nothing (on_from h offset) < turns_in before h
  moves_fewer (passed_over {end = end} stands stays) = omega (arith, further h.offset end 4 (omega arith) stands.inside)
  moves_fewer (went words stays) = omega arith
  moves_fewer (matched asks e) = omega arith
  moves_fewer sought = omega arith

  next_fewer : {before : Wait} {g : Host} {out : Sending} → Next h image before g out → most_turns g < turns_in before h
  unfolding most_turns pick
  next_fewer (begins row) = at_most h.ended _ _ (begins_fewer row)
  next_fewer (moves row) = at_most h.ended _ _ (moves_fewer row)
  next_fewer (starts_over {end = end} {offset = offset} other left led) = at_most h.ended _ _ (omega (arith, retried_fewer offset end left))
  next_fewer (closed words shuts dialect) = omega arith
  next_fewer (closes words shuts dialect) = at_most h.ended _ _ (omega arith)
  next_fewer done = omega arith

  -- one try more
  again_fewer : (before : Wait) → right_answer before h image ≡ false → h.spent + 1 < h.tries → turns_in before (trying h) < turns_in before h
  again_fewer wait.Greeting wrong left = omega arith
  again_fewer wait.Start wrong left = omega arith
  again_fewer wait.Ping wrong left = omega arith
  again_fewer (wait.Echo k) wrong left = omega arith
  again_fewer wait.Nothing wrong left = absurd (true≢false wrong)
  again_fewer (wait.Opcode command end) wrong left = omega arith
  again_fewer (wait.Over offset) wrong left = omega arith
  again_fewer wait.Closing wrong left = omega arith

-- a wait always has a turn left
pub some_left : (before : Wait) (h : Host) → 0 < turns_in before h
some_left wait.Greeting h = omega arith
some_left wait.Start h = omega arith
some_left wait.Ping h = omega arith
some_left (wait.Echo k) h = omega arith
some_left wait.Nothing h = omega arith
some_left (wait.Opcode command end) h = omega arith
some_left (wait.Over offset) h = omega arith
some_left wait.Closing h = omega arith

module _ (h : Host) (image : List ℕ) (lent : length image ≡ h.length) where
  looked_fewer : {before : Wait} {t : Turned} → before ≡ h.stage.wait → Looked h image before t → most_turns t.host < turns_in before h
  unfolding most_turns pick
  looked_fewer {before} here (twenty failed same) = some_left before h
  looked_fewer {before} here (goes_on wrong more same left) =
      at_most h.ended _ _ (subst (λ (w : Wait). turns_in w (trying h) < turns_in before h) here (again_fewer h image lent before wrong left))
  looked_fewer here (goes heard row) = next_fewer h image lent row
  looked_fewer {before} here (refuses heard same plain) = some_left before h
  looked_fewer {before} here (no_retry heard other none) = some_left before h
  looked_fewer {before} here (no_seek heard other left lost) = some_left before h

way_fewer : (h : Host) (image : List ℕ) {t : Turned} → Way h image t → is_turn h image ≡ true → most_turns t.host < most_turns h
unfolding most_turns
way_fewer h image (over ended idle) turn = absurd (true≢false (sym turn ∙ idle))
way_fewer h image (another running other idle) turn = absurd (true≢false (sym turn ∙ idle))
way_fewer h image (looks running lent now look) turn =
    let same : length image ≡ h.length = eqb-true _ _ (both (good_length (length image)) _ lent).1 in
    let all : most_turns h ≡ turns_in h.stage.wait h = passed _ _ _ running in
    let fewer = looked_fewer h image same refl look in
    omega arith

-- what is heard counts no turn
turns_heard : (before : Wait) (h : Host) (byte : ℕ) → turns_in before (heard h byte) ≡ turns_in before h
unfolding heard
turns_heard wait.Greeting h byte = refl
turns_heard wait.Start h byte = refl
turns_heard wait.Ping h byte = refl
turns_heard (wait.Echo k) h byte = refl
turns_heard wait.Nothing h byte = refl
turns_heard (wait.Opcode command end) h byte = refl
turns_heard (wait.Over offset) h byte = refl
turns_heard wait.Closing h byte = refl

pub heard_turns : (h : Host) (bytes : List ℕ) → most_turns (heard_all h bytes) ≡ most_turns h
unfolding heard_all heard most_turns
heard_turns h [] = refl
heard_turns h (byte ∷ bytes) = heard_turns (heard h byte) bytes ∙ ap (pick h.ended 0) (turns_heard h.stage.wait h byte)

pub each_turn_counts : EachTurnCounts
each_turn_counts h image = record { turn = way_fewer h image (way h image); hearing = heard_turns h }

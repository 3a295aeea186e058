-- Every run ends by itself: by the law of a call, each that goes on takes at least one from the words that are left to pass, and the bound counts
-- no fewer than those.
use Prim.Native.Nat.{ℕ, zero, suc, ◌+◌, ◌-◌, ◌*◌, ◌/◌, ◌≤◌, ◌<◌}
use mathlib.Core.Bool.{true, false, not}
use mathlib.Core.List.{List}
use mathlib.Core.Path.{◌≡◌, sym, ap, ap₂, subst, ◌∙◌}
use native.Mathlib.Omega.{arith}
use native.Mathlib.Nat.{mul-le-mul_right, add-mul}
use lib.Dec.{eqb}
use borrow.Author.Tests.{eqb-true, eqb-false}
use Rattle.words.proofs.Choice.{by_test}
use Rattle.opcodes.specs.rules.Answers.{code_of, kind_of, accepted}
use Rattle.opcodes.specs.rules.Refusals.{None, Ended as Over}
use Rattle.flash_commands.specs.claims.Ways.{Forward, Back, Way, forward, back, kept, Call}
use Rattle.flash_session.specs.rules.Sessions.{CallOutcome, unchanged}
use Rattle.flash.specs.rules.Step.{step_of}
use Rattle.flash_session.specs.declared.Called.{Called}
use Rattle.flash_session.specs.declared.Session.{Session}
use Rattle.flash_laws.proofs.Calls.{every_call}
use Rattle.flash.proofs.Cases.{call_ended}
use Rattle.flash_runs.specs.rules.Run.{goes_on, carried_on, enough, run_of}
use Rattle.flash_runs.specs.claims.Ends.{RunEnds, Ended, entering, refused}
use Rattle.flash_runs.proofs.Calls.{accepted_goes, refused_stops, stays, goes}

-- words still to pass: those of the image for each retry that is left, and those from the offset on
abbrev words_left : Session → ℕ
words_left s = (s.limit - s.retries) * (s.length / 4) + (s.length - s.offset) / 4

-- the bound is no less
left_bound : (s : Session) → words_left s ≤ enough s
left_bound s =
    let words = s.length / 4 in
    let spare : (s.limit - s.retries) * words ≤ s.limit * words = mul-le-mul_right words (omega arith) in
    omega (arith, add-mul s.limit 1 words)

-- a call that goes forward or back leaves fewer
module _ {s : Session} {image : List ℕ} {a : Called} (call : Call s image a) where
  same_words : a.session.length / 4 ≡ s.length / 4
  same_words = ap (λ (n : ℕ). n / 4) call.same_length

  forward_less : Forward s image a → words_left a.session < words_left s
  forward_less f =
      let spare : a.session.limit - a.session.retries ≡ s.limit - s.retries = omega arith in
      omega (arith, ap₂ (λ (n k : ℕ). n * k) spare same_words)

  back_less : Back s image a → words_left a.session < words_left s
  back_less b =
      let spare : a.session.limit - a.session.retries + 1 ≡ s.limit - s.retries = omega arith in
      omega (
        arith,
        ap₂ (λ (n k : ℕ). n * k) spare same_words,
        add-mul (a.session.limit - a.session.retries) 1 (a.session.length / 4),
      )

-- an end does not go on
end_stops : {a : Called} → Ended a → goes_on a ≡ false
end_stops {a} (entering e k over) = accepted_goes a e ∙ ap not over
end_stops {a} (refused r) = refused_stops a r.0

-- an answer with fewer than n words left to pass, or the last
data Within (n : ℕ) (a : Called) : Type 0 where
  fewer : goes_on a ≡ true → a.session.ended ≡ false → words_left a.session < n → Within n a
  final : Ended a → Within n a

-- a call of a session that is not ended
turned : {s : Session} {image : List ℕ} {a : Called} {n : ℕ} → s.ended ≡ false → words_left s ≤ n → Call s image a → Within n a
turned {s} {image} {a} {n} standing bound call = go call.way
  where
    onward : a.refusal ≡ None → a.session.ended ≡ false → words_left a.session < words_left s → Within n a
    onward accepted still less = fewer (accepted_goes a (ap code_of accepted) ∙ ap not still) still (omega arith)

    go : Way s image a → Within n a
    go (forward f) =
        by_test (eqb (kind_of a.event) 3)
        (λ enters. final (entering (ap code_of f.accepted) (eqb-true _ _ enters) (f.ended ∙ enters)))
        (λ none. onward f.accepted (f.ended ∙ none) (forward_less call f))
    go (back b) = onward b.accepted b.running (back_less call b)
    go (kept k) = final (refused (k.refused, eqb-false _ _ (call.over ∙ standing)))

-- a call of an ended session does not go on
ended_stops : (s : Session) (m image : List ℕ) → s.ended ≡ true → goes_on (step_of s m image).answer ≡ false
ended_stops s m image e =
    ap (λ (o : CallOutcome). goes_on o.answer) (call_ended s m image e) ∙ refused_stops (unchanged Over s) (λ z. omega arith)

module _ (image : List ℕ) where
  -- an end, or what more calls lead to
  arrives : (n : ℕ) (o : CallOutcome) → Within n o.answer
      → (goes_on o.answer ≡ true → o.answer.session.ended ≡ false → words_left o.answer.session < n → Ended (carried_on n o image).answer)
      → Ended (carried_on n o image).answer
  arrives n o (fewer e standing h) later = later e standing h
  arrives n o (final end) later = subst (λ (x : CallOutcome). Ended x.answer) (sym (stays image n o (end_stops end))) end

  -- as many calls as there are words left lead to an end
  reaches : (n : ℕ) (o : CallOutcome) → Within n o.answer → Ended (carried_on n o image).answer
  reaches zero o within = arrives zero o within (λ e standing h. absurd (omega arith))
  reaches (suc n) o within =
      arrives (suc n) o within
      (λ e standing h. subst (λ (x : CallOutcome). Ended x.answer) (sym (goes image n o e))
      (reaches n _ (turned standing (omega arith) (every_call o.answer.session o.memory image))))

  -- more calls than lead to an end lead to the same
  longer : (n k : ℕ) (o : CallOutcome) → n ≤ k → goes_on (carried_on n o image).answer ≡ false → carried_on k o image ≡ carried_on n o image
  unfolding carried_on
  longer zero k o h e = stays image k o e
  longer (suc n) zero o h e = absurd (omega arith)
  longer (suc n) (suc k) o h e =
      by_test (goes_on o.answer)
      (λ more.
      let next = goes image n o more in
      goes image k o more
      ∙ longer n k _ (omega arith) (sym (ap (λ (x : CallOutcome). goes_on x.answer) next) ∙ e)
      ∙ sym next)
      (λ none. stays image (suc k) o none ∙ sym (stays image (suc n) o none))

module _ (s : Session) (m image : List ℕ) where
  -- a run of any other ends by entering, or by a refusal that is not 14
  pub run_reaches_end : s.ended ≡ false → Ended (run_of s m image).answer
  unfolding run_of
  run_reaches_end standing = reaches image (enough s) _ (turned standing (left_bound s) (every_call s m image))

  -- no run stops while its session goes on
  pub run_ends : goes_on (run_of s m image).answer ≡ false
  unfolding run_of
  run_ends =
      by_test s.ended
      (λ e.
      let over = ended_stops s m image e in
      ap (λ (o : CallOutcome). goes_on o.answer) (stays image (enough s) (step_of s m image) over) ∙ over)
      (λ e. end_stops (run_reaches_end e))

  -- so a greater bound changes nothing
  pub more_is_same : (n : ℕ) → enough s ≤ n → carried_on n (step_of s m image) image ≡ run_of s m image
  unfolding run_of
  more_is_same n h = longer image (enough s) n (step_of s m image) h run_ends

pub every_run_ends : (s : Session) (m image : List ℕ) → RunEnds s m image
every_run_ends s m image =
    record { reaches_end = run_reaches_end s m image; ends = run_ends s m image; more_is_same = more_is_same s m image }

-- A host comes to its end: each turn leaves fewer, hearing leaves them as they were, and none is left only where it has ended.
use Prim.Native.Nat.{ℕ, suc, ◌+◌, ◌-◌, ◌*◌, ◌≤◌}
use mathlib.Core.Bool.{Bool, true, false, not, ◌&&◌, true≢false}
use mathlib.Core.List.{List, [], ◌∷◌}
use mathlib.Core.Path.{◌≡◌, refl, sym, ap, ap₂, ◌∙◌}
use native.Mathlib.Nat.{add-mul, sub-zero}
use native.Mathlib.Omega.{arith}
use lib.Dec.{leb, eqb}
use lib.ListN.{length}
use borrow.Author.Tests.{leb-true, eq-eqb, not-false}
use Rattle.words.specs.rules.Choice.{pick}
use Rattle.words.proofs.Choice.{both, by_test, chosen, passed, of_choice}
use Rattle.opcodes.specs.rules.Answers.{accepted}
use Rattle.opcodes.specs.declared.Dialect.{Dialect}
use Rattle.opcodes.specs.rules.Refusals.{Verdict}
use Rattle.opcodes.specs.rules.Refusals as refusal
use Rattle.sent.specs.declared.Bus.{Bus}
use Rattle.commands.specs.rules.Commands.{multiple}
use Rattle.flash_session.specs.rules.Opening.{good_length}
use Rattle.host_answers.specs.rules.Ends.{turns_in, most_turns}
use Rattle.host_answers.specs.rules.Hosts.{heard, heard_all, at_start, refused_by, opened_by}
use Rattle.host.specs.rules.Turn.{turned}
use Rattle.host_laws.specs.claims.Looks.{is_lent, is_turn}
use Rattle.host_laws.specs.claims.Outgoing.{Awaits}
use Rattle.host_laws.specs.claims.Turns.{turns_of, HostEnds, turns_allowed, Runs, OpenedHostEnds}
use Rattle.host_answers.specs.declared.Host.{Host}
use Rattle.host_answers.specs.declared.Opened.{Opened}
use Rattle.host_answers.specs.declared.Turned.{Turned}
use Rattle.host_laws.proofs.OpeningLaws.{heard_ended, stays_ended}
use Rattle.host_laws.proofs.OutLaws.{awaits_what_stands}
use Rattle.host_laws.proofs.RefusalLaws.{keeps_settings}
use Rattle.host_laws.proofs.FewerLaws.{some_left, heard_turns, each_turn_counts}

-- what is heard does not change the image's length
heard_length : (h : Host) (bytes : List ℕ) → (heard_all h bytes).length ≡ h.length
unfolding heard_all heard
heard_length h [] = refl
heard_length h (byte ∷ bytes) = heard_length (heard h byte) bytes

-- no turn is left for a host that has ended, and for no other
none_left : (h : Host) → h.ended ≡ true → most_turns h ≡ 0
unfolding most_turns
none_left h ended = chosen _ _ _ ended

ended_then : (h : Host) → most_turns h ≤ 0 → h.ended ≡ true
unfolding most_turns
ended_then h none =
    by_test h.ended (λ ended. ended)
    (λ running. let some = some_left h.stage.wait h in let all = passed h.ended 0 (turns_in h.stage.wait h) running in absurd (omega arith))

still_ended : (h : Host) (image bytes : List ℕ) → h.ended ≡ true → (turned (heard_all h bytes) image).host.ended ≡ true
still_ended h image bytes ended =
    ap (λ (t : Turned). t.host.ended) ((stays_ended h ended).ever bytes image) ∙ heard_ended h bytes ∙ ended

-- one turn of those that a host has, with what is heard before it
one_turn : (h : Host) (image bytes : List ℕ) (n : ℕ) → is_lent h image ≡ true → most_turns h ≤ suc n → most_turns (turned (heard_all h bytes) image).host ≤ n
one_turn h image bytes n lent most =
    let g : Host = heard_all h bytes in
    by_test h.ended
    (λ ended. omega (arith, none_left (turned g image).host (still_ended h image bytes ended)))
    (λ running.
    let turn : is_turn g image ≡ true =
    ap₂ (λ (e : Bool) (n : ℕ). not e && (good_length (length image) && eqb (length image) n)) (heard_ended h bytes ∙ running) (heard_length h bytes) ∙ lent in
    omega (arith, (each_turn_counts g image).turn turn, heard_turns h bytes))

pub host_ends : HostEnds
unfolding turns_of
host_ends h image lent [] most = ended_then h most
host_ends h image lent (bytes ∷ later) most =
    let g : Host = heard_all h bytes in
    let same : (turned g image).host.length ≡ h.length = (keeps_settings g image).length ∙ heard_length h bytes in
    host_ends (turned g image).host image (ap (λ (n : ℕ). good_length (length image) && eqb (length image) n) same ∙ lent) later
    (one_turn h image bytes (length later) lent most)

-- what is waited for stays what stands in the image
heard_awaits : (h : Host) (image bytes : List ℕ) → Awaits h image → Awaits (heard_all h bytes) image
unfolding heard_all heard
heard_awaits h image [] before = before
heard_awaits h image (byte ∷ bytes) before = heard_awaits (heard h byte) image bytes before

turns_await : (h : Host) (image : List ℕ) (heard : List (List ℕ)) → Awaits h image → Awaits (turns_of h image heard) image
unfolding turns_of
turns_await h image [] before = before
turns_await h image (bytes ∷ later) before =
    turns_await (turned (heard_all h bytes) image).host image later (awaits_what_stands (heard_all h bytes) image (heard_awaits h image bytes before))

-- an image has a word at least
length_some : (n : ℕ) → good_length n ≡ true → 4 ≤ n
unfolding good_length
length_some n e = leb-true 4 n (both (multiple n 4) (leb 4 n) (both (multiple n 4 && leb 4 n) (leb n 65536) e).0).1

-- the turns of a host at the greeting, added up
added : (n tries limit pings : ℕ) → 4 ≤ n
    → (pings + 3) * (tries + 2) + ((limit - 0) * (n + 2) + (n - 4)) * (tries + 2) + (tries - 0) + 2 ≡ turns_allowed n tries limit pings
added n tries limit pings some =
    let rest : ℕ = (limit - 0) * (n + 2) + (n - 4) in
    let whole : pings + n + limit * (n + 2) ≡ pings + 3 + rest + 1 = omega (arith, ap (λ (x : ℕ). x * (n + 2)) (sub-zero limit)) in
    let product : turns_allowed n tries limit pings ≡ (pings + 3 + rest + 1) * (tries + 2) = ap (λ (x : ℕ). x * (tries + 2)) whole in
    omega (arith, product, add-mul (pings + 3 + rest) 1 (tries + 2), add-mul (pings + 3) rest (tries + 2))

-- an ended host stays so
turns_ended : (h : Host) (image : List ℕ) (heard : List (List ℕ)) → h.ended ≡ true → (turns_of h image heard).ended ≡ true
unfolding turns_of
turns_ended h image [] ended = ended
turns_ended h image (bytes ∷ later) ended = turns_ended (turned (heard_all h bytes) image).host image later (still_ended h image bytes ended)

module _ (bus : Bus) (dialect : Dialect) (image : List ℕ) (tries limit pings : ℕ) where
  unopened : (q : Verdict) → accepted q ≡ false → Runs image tries limit pings (refused_by q)
  unopened q no_entry =
      record {
        allowed = λ e. absurd (true≢false (sym e ∙ no_entry));
        ends = λ heard enough. turns_ended (refused_by q).host image heard refl;
        awaits = λ heard. turns_await (refused_by q).host image heard tt;
      }

  opened : good_length (length image) ≡ true
      → Runs image tries limit pings (record { refusal = refusal.None; host = at_start bus dialect (length image) tries limit pings false })
  unfolding most_turns pick
  opened good =
      let h : Host = at_start bus dialect (length image) tries limit pings false in
      let lent : is_lent h image ≡ true = rw (good, eq-eqb (length image) (length image) refl) in
      let all : most_turns h ≡ turns_allowed (length image) tries limit pings = added (length image) tries limit pings (length_some (length image) good) in
      record {
        allowed = λ e. all;
        ends = λ heard enough. host_ends h image lent heard (omega arith);
        awaits = λ heard. turns_await h image heard tt;
      }

pub opened_host_ends : OpenedHostEnds
unfolding opened_by
opened_host_ends bus dialect image tries limit pings =
    let Mine : Opened → Type 0 = Runs image tries limit pings in
    let refused : (q : Verdict) → accepted q ≡ false → Mine (refused_by q) = unopened bus dialect image tries limit pings in
    of_choice Mine _ (λ e. refused refusal.Image refl)
    (λ good. of_choice Mine _ (λ e. refused refusal.Magic refl)
    (λ e. of_choice Mine _ (λ e. refused refusal.Tries refl) (λ e. opened bus dialect image tries limit pings (not-false _ good))))

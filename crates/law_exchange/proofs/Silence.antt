-- Once the loader has ended it says nothing more, and the host comes to its end soon: it passes over what is no opcode to send, and then spends the tries of
-- one wait.
use Rattle.std.specs.Prelude.{Some}
use Prim.Native.Nat.{ℕ, zero, suc, ◌+◌, ◌-◌, ◌*◌, ◌≤◌, ◌<◌}
use mathlib.Core.Bool.{true}
use mathlib.Core.List.{List}
use mathlib.Core.Path.{◌≡◌, refl, ap, ◌∙◌}
use native.Mathlib.Omega.{arith}
use native.Mathlib.Nat.{zero-add, suc-add}
use lib.Dec.{leb, ltb}
use lib.ListN.{length}
use borrow.Author.Tests.{le-leb, lt-leb, le-ltb, leb-true, leb-false, ltb-false}
use Rattle.std.specs.declared.result.Result.{Result}
use Rattle.std.specs.declared.result.Result.TheVariants.{Ok, Err}
use Rattle.words.specs.rules.Choice.{pick}
use Rattle.words.proofs.Choice.{chosen, passed, by_test}
use Rattle.opcodes.specs.declared.Command.{Command}
use Rattle.opcodes.specs.declared.Command.TheVariants.{Load, Fill, BootTable, Enable, Disable, Request, StartOver, JumpAndClose, Ping, SequentialRead}
use Rattle.opcodes.specs.declared.Dialect.{Dialect}
use Rattle.opcodes.specs.declared.Event.{Event}
use Rattle.opcodes.specs.rules.Refusals as refusal
use Rattle.opcodes.specs.rules.Opcodes.{with_words}
use Rattle.opcodes.specs.declared.Known.{Known}
use Rattle.reading.specs.rules.Reading.{past_data, read_at}
use Rattle.reading.specs.declared.Unread.{Unread}
use Rattle.flash_session.specs.rules.Opening.{good_length}
use Rattle.machine_answers.specs.rules.Replies.{one_word}
use Rattle.sent.specs.rules.Feeding.{State}
use Rattle.sent.specs.declared.Bus.{Bus}
use Rattle.host_ear.specs.rules.Ear.{nothing_heard, ends_with, ends_with_checksum}
use Rattle.host_answers.specs.rules.Hosts.{stop}
use Rattle.host_answers.specs.rules.Answers as answer
use Rattle.host_answers.specs.rules.Answers.{again, answered_by}
use Rattle.host.specs.rules.Turn.{met, met_to, in_wait, turned}
use Rattle.host_ear.specs.declared.Ear.{Ear}
use Rattle.host_answers.specs.declared.Host.{Host}
use Rattle.host_answers.specs.declared.Sending.TheVariants as sending
use Rattle.host_answers.specs.declared.Wait.{Wait}
use Rattle.host_answers.specs.declared.Wait.TheVariants as wait
use Rattle.law_exchange.proofs.Scenes.{Scene, scene, advance, turns, turns_add, silent_turn, refused_turn, ended_turned}
use Rattle.law_exchange.proofs.Standing.{Role, passes, asks, closes, goes, role_of, host_at, turned_at}

-- a host that has ended stays, and so does all else
pub ended_stays : (image : List ℕ) (n : ℕ) (x : Scene) → x.host.ended ≡ true → turns image n x ≡ x
unfolding turns
ended_stays image zero x over = refl
ended_stays image (suc n) x over =
    ap (turns image n) (refused_turn image x.host x.host x.loader x.events refusal.Ended (ended_turned image x.host over))
    ∙ ended_stays image n x over

-- ended after some turns, it is after more
pub ended_later : (image : List ℕ) (n k : ℕ) (x : Scene) → (turns image n x).host.ended ≡ true → n ≤ k → (turns image k x).host.ended ≡ true
ended_later image n k x over h =
    let more : k ≡ n + (k - n) = omega arith in
    ap (λ (j : ℕ). (turns image j x).host.ended) more
    ∙ ap (λ (y : Scene). y.host.ended) (turns_add image n (k - n) x ∙ ended_stays image _ (turns image n x) over)
    ∙ over

module _ (bus : Bus) (dialect : Dialect) (image : List ℕ) (tries limit pings : ℕ) (good : good_length (length image) ≡ true) where
  abbrev at : ℕ → ℕ → ℕ → Wait → Host
  at retries offset spent wait = host_at bus dialect image tries limit pings retries offset spent wait nothing_heard

  -- the waits in which a host is silent for long
  pub data Long : Wait → Type 0 where
    opcode : (c : Command) (end : ℕ) → Long (wait.Opcode c end)
    closing : Long wait.Closing

  -- nothing was heard, so no right answer was
  unanswered : (r o j : ℕ) (w : Wait) → Long w → in_wait w (at r o j w) image ≡ again (at r o j w) image
  unfolding answered_by pick ends_with ends_with_checksum one_word
  unanswered r o j w (opcode Load end) = refl
  unanswered r o j w (opcode Fill end) = refl
  unanswered r o j w (opcode BootTable end) = refl
  unanswered r o j w (opcode Enable end) = refl
  unanswered r o j w (opcode Disable end) = refl
  unanswered r o j w (opcode Request end) = refl
  unanswered r o j w (opcode StartOver end) = refl
  unanswered r o j w (opcode JumpAndClose end) = refl
  unanswered r o j w (opcode Ping end) = refl
  unanswered r o j w (opcode SequentialRead end) = refl
  unanswered r o j w closing = refl

  module _ (x : State) (es : List Event) (over : x.session.core.ended ≡ true) where
    -- a look that finds nothing: the last, or one try more
    module _ (r o j : ℕ) (w : Wait) (long : Long w) where
      asked : turned (at r o j w) image ≡ again (at r o j w) image
      asked = turned_at bus dialect image tries limit pings good r o j w nothing_heard ∙ unanswered r o j w long

      last_try : tries ≤ j + 1 → advance image (scene (at r o j w) x es) ≡ scene (stop (at r o j w)) x es
      unfolding again
      last_try h = refused_turn image (at r o j w) (stop (at r o j w)) x es refusal.Tries (asked ∙ chosen _ _ _ (le-leb _ _ h))

      one_try_more : j + 1 < tries → advance image (scene (at r o j w) x es) ≡ scene (at r o (j + 1) w) x es
      unfolding again
      one_try_more h = silent_turn image (at r o j w) (at r o (j + 1) w) x es _ (asked ∙ passed _ _ _ (lt-leb _ _ h)) over

    -- the tries of a wait are spent
    pub waits_end : (n r o j : ℕ) (w : Wait) → Long w → tries ≤ j + suc n → (turns image (suc n) (scene (at r o j w) x es)).host.ended ≡ true
    unfolding turns
    waits_end zero r o j w long enough = ap (λ (y : Scene). y.host.ended) (last_try r o j w long (omega (arith, enough)))
    waits_end (suc n) r o j w long enough =
        by_test (leb tries (j + 1))
        (λ last.
        ap (λ (y : Scene). (turns image (suc n) y).host.ended) (last_try r o j w long (leb-true _ _ last))
        ∙ ap (λ (y : Scene). y.host.ended) (ended_stays image (suc n) (scene (stop (at r o j w)) x es) refl))
        (λ more.
        ap (λ (y : Scene). (turns image (suc n) y).host.ended) (one_try_more r o j w long (leb-false _ _ more))
        ∙ waits_end n r o (j + 1) w long (omega (arith, enough)))

    -- a command is met: refused, passed over, or its opcode goes out in vain
    module _ (some : 1 ≤ tries) (r : ℕ) where
      -- whatever was heard before, which no wait for a command looks at
      abbrev before : Ear → ℕ → Host
      before ear o = host_at bus dialect image tries limit pings r o 0 wait.Nothing ear

      abbrev here : Ear → ℕ → Scene
      here ear o = scene (before ear o) x es

      abbrev Ends : ℕ → Scene → Type 0
      Ends n y = (turns image n y).host.ended ≡ true

      -- a turn that ends the host, and one that leads on
      at_once : (ear : Ear) (n o : ℕ) (h : Host) → h.ended ≡ true → advance image (here ear o) ≡ scene h x es → Ends (suc n) (here ear o)
      unfolding turns
      at_once ear n o h ended said =
          ap (λ (y : Scene). (turns image n y).host.ended) said ∙ ap (λ (y : Scene). y.host.ended) (ended_stays image n (scene h x es) ended) ∙ ended

      leads_on : (ear : Ear) (n o : ℕ) (y : Scene) → advance image (here ear o) ≡ y → Ends n y → Ends (suc n) (here ear o)
      unfolding turns
      leads_on ear n o y said rest = ap (λ (z : Scene). (turns image n z).host.ended) said ∙ rest

      -- what the turn is, by what stands there
      by_reading : (ear : Ear) (o : ℕ) (what : Result Known Unread) → read_at image o dialect ≡ what
          → turned (before ear o) image ≡ met (before ear o) image what
      by_reading ear o what e =
          turned_at bus dialect image tries limit pings good r o 0 wait.Nothing ear ∙ ap (met (before ear o) image) e

      whole_there : (ear : Ear) (o words : ℕ) (c : Command) → read_at image o dialect ≡ Ok (with_words c words) → past_data c words image o ≤ length image
          → turned (before ear o) image ≡ met_to (before ear o) image c (past_data c words image o)
      whole_there ear o words c e there = by_reading ear o (Ok (with_words c words)) e ∙ passed _ _ _ (le-ltb _ _ there)

      -- its opcode goes out, and the tries are spent on it
      in_vain : (ear : Ear) (n o end : ℕ) (c : Command) → tries ≤ n → turned (before ear o) image ≡ answer.enters (wait.Opcode c end) (before ear o) image
          → Ends (suc n) (here ear o)
      in_vain ear n o end c enough said =
          leads_on ear n o (scene (at r o 0 (wait.Opcode c end)) x es) (silent_turn image _ (at r o 0 (wait.Opcode c end)) x es _ said over)
          (spent n enough)
        where
          spent : (n : ℕ) → tries ≤ n → Ends n (scene (at r o 0 (wait.Opcode c end)) x es)
          spent zero few = absurd (omega (arith, some, few))
          spent (suc n) few = waits_end n r o 0 (wait.Opcode c end) (opcode c end) (omega (arith, few))

      -- by what the host does with it, given how it ends from the next place on
      by-role : (ear : Ear) (n o end : ℕ) (c : Command) → tries ≤ n → Ends n (here nothing_heard end)
          → turned (before ear o) image ≡ met_to (before ear o) image c end
          → Role c → Ends (suc n) (here ear o)
      by-role ear n o end c enough later said (passes e) =
          leads_on ear n o (here nothing_heard end)
          (silent_turn image _ (before nothing_heard end) x es sending.Nothing
          (said ∙ ap (λ (d : Command). met_to (before ear o) image d end) e) over)
          later
      by-role ear n o end c enough later said (asks e) =
          in_vain ear n o end Request enough (said ∙ ap (λ (d : Command). met_to (before ear o) image d end) e)
      by-role ear n o end c enough later said (closes e) =
          in_vain ear n o end JumpAndClose enough (said ∙ ap (λ (d : Command). met_to (before ear o) image d end) e)
      by-role ear n o end c enough later said (goes e same) = in_vain ear n o end c enough (said ∙ same _ _ _ _)

      one_more : (ear : Ear) (n o : ℕ) → tries ≤ n → ((end : ℕ) → o + 4 ≤ end → end ≤ length image → Ends n (here nothing_heard end))
          → (what : Result Known Unread) → read_at image o dialect ≡ what → Ends (suc n) (here ear o)
      one_more ear n o enough later (Err said) e =
          at_once ear n o (stop (before ear o)) refl (refused_turn image _ _ x es (Some said.refusal) (by_reading ear o (Err said) e))
      one_more ear n o enough later (Ok f) e =
          by_test (ltb (length image) (past_data f.command f.words image o))
          (λ missing. at_once ear n o (stop (before ear o)) refl
          (refused_turn image _ _ x es refusal.Missing (by_reading ear o (Ok f) e ∙ chosen _ _ _ missing)))
          (λ there.
          let inside = ltb-false _ _ there in
          by-role ear n o (past_data f.command f.words image o) f.command enough
          (later (past_data f.command f.words image o) (omega arith) inside) (whole_there ear o f.words f.command e inside)
          (role_of f.command))

      -- the host ends within the words that are left, and the tries of a wait
      pub meets_end : (ear : Ear) (n o : ℕ) → length image ≤ o + 4 * n → Ends (n + 1 + tries) (here ear o)
      meets_end ear zero o few =
          rw (zero-add 1, suc-add 0 tries, zero-add tries)
          (one_more ear tries o (omega arith) (λ end past inside. absurd (omega (arith, few, past, inside))) _ refl)
      meets_end ear (suc n) o few =
          rw (suc-add n 1, suc-add (n + 1) tries)
          (one_more ear (n + 1 + tries) o (omega arith) (λ end past inside. meets_end nothing_heard n end (omega (arith, few, past))) _ refl)

-- Words one after the other, as units. The units of one word do what the word does; so do those of some words of which each but the last is taken in silence;
-- and where the last is refused, what comes after it is absorbed.
use Prim.Native.Nat.{ℕ, ◌^◌, ◌<◌}
use mathlib.Core.Bool.{true, false, true≢false}
use mathlib.Core.List.{List, [], ◌∷◌, ◌++◌, append_assoc, append-nil}
use mathlib.Core.Logic.{◌≢◌}
use mathlib.Core.Path.{◌≡◌, refl, sym, ap, ap₂, subst, ◌∙◌}
use lib.Dec.{eqb}
use lib.ListN.{length, replicate, take}
use borrow.Author.Tests.{eqb-true, eqb-false}
use Rattle.words.proofs.Choice.{by_test}
use Rattle.windows.specs.rules.Window.{sum_of}
use Rattle.opcodes.specs.rules.Answers.{code_of, told, accepted}
use Rattle.opcodes.specs.declared.Event.TheVariants.{Nothing}
use Rattle.opcodes.specs.rules.Refusals as refusal
use Rattle.machine_answers.specs.rules.Answers.{WordOutcome, quiet, ◌leaving◌}
use Rattle.machine.specs.rules.Machine.{word_step}
use Rattle.machine_answers.specs.rules.Replies.{sent_bytes}
use Rattle.machine.specs.claims.Words.{after_words}
use Rattle.machine_answers.specs.declared.Core.{Core}
use Rattle.machine_answers.specs.declared.Taken.{Taken}
use Rattle.machine.proofs.Every.{every_word}
use Rattle.sent.specs.rules.Bus.{units_of, all_units}
use Rattle.sent.specs.rules.Feeding.{State, Heard, fed, answers, replied, events_heard}
use Rattle.sent.specs.claims.Lift.{at_word, refused_by, heard_word, Ready}
use Rattle.sent.specs.declared.Bus.{Bus}
use Rattle.sent.specs.declared.Bus.TheVariants.{Bytes, Halves}
use Rattle.sent.proofs.Feeding.{fed_append, answers_append, replied_append, events_append, none_replied, none_told}
use Rattle.sent.proofs.Lift.{units_are_the_word, absorbed}
use Rattle.law_line.proofs.Stretch.{AllSmall}

-- replies and events of a word
word_replied : (bus : Bus) (t : Taken) → replied (heard_word bus t) ≡ sent_bytes t.reply
unfolding replied
word_replied Bytes t = append-nil (sent_bytes t.reply)
word_replied Halves t = append-nil (sent_bytes t.reply)

word_told : (bus : Bus) (t : Taken) → events_heard (heard_word bus t) ≡ told t.event
unfolding events_heard
word_told Bytes t = append-nil (told t.event)
word_told Halves t = append-nil (told t.event)

-- units that do what a word outcome is: its core, its memory, its reply and its event, and the next word begins where it goes on
pub record Comes (bus : Bus) (x : State) (units : List ℕ) (o : WordOutcome) : Type 0 where
  pub core : (fed bus x units).session.core ≡ o.answer.core
  pub memory : (fed bus x units).memory ≡ o.memory
  pub next : code_of o.answer.refusal ≡ 0 → o.answer.core.ended ≡ false → fed bus x units ≡ at_word o.answer.core o.memory
  pub replies : replied (answers bus x units) ≡ sent_bytes o.answer.reply
  pub tells : events_heard (answers bus x units) ≡ told o.answer.event

-- no units, and those of a word
pub nothing_comes : (bus : Bus) (k : Core) (m : List ℕ) → Comes bus (at_word k m) [] (quiet k leaving m)
unfolding fed answers replied events_heard
nothing_comes bus k m = record { core = refl; memory = refl; next = λ e over. refl; replies = refl; tells = refl }

pub word_comes : (bus : Bus) (k : Core) (m : List ℕ) (word : ℕ) → Ready bus k m word → Comes bus (at_word k m) (units_of bus word) (word_step k m word)
word_comes bus k m word ready =
    let lift = units_are_the_word bus k m word ready in
    let o = word_step k m word in
    record {
      core = by_test (eqb (code_of o.answer.refusal) 0)
          (λ e. ap (λ (z : State). z.session.core) (lift.accepted (eqb-true _ _ e)))
          (λ e. (lift.refused (eqb-false _ _ e)).0);
      memory = by_test (eqb (code_of o.answer.refusal) 0)
          (λ e. ap (λ (z : State). z.memory) (lift.accepted (eqb-true _ _ e)))
          (λ e. (lift.refused (eqb-false _ _ e)).2 ∙ sym ((every_word k m word).untouched (eqb-false _ _ e)));
      next = λ e over. lift.accepted e;
      replies = ap replied lift.hears ∙ word_replied bus o.answer;
      tells = ap events_heard lift.hears ∙ word_told bus o.answer;
    }

-- a word that is taken in silence
pub record Quiet (o : WordOutcome) : Type 0 where
  pub accepted : code_of o.answer.refusal ≡ 0
  pub running : o.answer.core.ended ≡ false
  pub silent : sent_bytes o.answer.reply ≡ []
  pub no_event : o.answer.event ≡ Nothing

-- units after such a one
pub ◌onto◌ : {bus : Bus} {x : State} {us vs : List ℕ} {o p : WordOutcome} → Comes bus x us o × Quiet o
    → Comes bus (at_word o.answer.core o.memory) vs p → Comes bus x (us ++ vs) p
◌onto◌ {bus} {x} {us} {vs} {o} {p} first then =
    let c = first.0 in
    let q = first.1 in
    let here = c.next q.accepted q.running in
    let leads : fed bus x (us ++ vs) ≡ fed bus (at_word o.answer.core o.memory) vs = fed_append bus x us vs ∙ ap (λ (y : State). fed bus y vs) here in
    let hears : answers bus x (us ++ vs) ≡ answers bus x us ++ answers bus (at_word o.answer.core o.memory) vs =
    answers_append bus x us vs ∙ ap (λ (y : State). answers bus x us ++ answers bus y vs) here in
    record {
      core = ap (λ (y : State). y.session.core) leads ∙ then.core;
      memory = ap (λ (y : State). y.memory) leads ∙ then.memory;
      next = λ e over. leads ∙ then.next e over;
      replies = ap replied hears ∙ replied_append _ _ ∙ ap₂ ◌++◌ (c.replies ∙ q.silent) then.replies;
      tells = ap events_heard hears ∙ events_append _ _ ∙ ap₂ ◌++◌ (c.tells ∙ ap told q.no_event) then.tells;
    }

-- units after one that ended the session
pub absorbs : {bus : Bus} {x : State} {us : List ℕ} {o : WordOutcome} → Comes bus x us o → o.answer.core.ended ≡ true → (vs : List ℕ)
    → Comes bus x (us ++ vs) o
absorbs {bus} {x} {us} {o} c over vs =
    let rest = absorbed bus (fed bus x us) vs (ap (λ (k : Core). k.ended) c.core ∙ over) in
    let leads : fed bus x (us ++ vs) ≡ fed bus x us = fed_append bus x us vs ∙ rest.stays in
    let hears : answers bus x (us ++ vs) ≡ answers bus x us ++ replicate (length vs) (refused_by refusal.Ended) =
    answers_append bus x us vs ∙ ap (λ (hs : List Heard). answers bus x us ++ hs) rest.hears in
    record {
      core = ap (λ (y : State). y.session.core) leads ∙ c.core;
      memory = ap (λ (y : State). y.memory) leads ∙ c.memory;
      next = λ e still. absurd (true≢false (sym over ∙ still));
      replies =
          ap replied hears ∙ replied_append _ _ ∙ ap₂ ◌++◌ c.replies (none_replied refusal.Ended (length vs)) ∙ append-nil _;
      tells =
          ap events_heard hears ∙ events_append _ _ ∙ ap₂ ◌++◌ c.tells (none_told refusal.Ended (length vs)) ∙ append-nil _;
    }

-- what holds of a loader that is lent its memory and has begun, whatever the words: a word that is refused ends it, and says nothing
pub record Proper (o : WordOutcome) : Type 0 where
  pub lent : length o.memory ≡ sum_of o.answer.core.windows
  pub begun : o.answer.core.begun ≡ true
  pub ended : code_of o.answer.refusal ≢ 0 → o.answer.core.ended ≡ true
  pub silenced : code_of o.answer.refusal ≢ 0 → sent_bytes o.answer.reply ≡ []

pub proper_word : (k : Core) (m : List ℕ) (word : ℕ) → length m ≡ sum_of k.windows → k.begun ≡ true → Proper (word_step k m word)
proper_word k m word lent begun =
    let every = every_word k m word in
    record {
      lent = every.same_length ∙ lent ∙ ap sum_of (sym every.windows);
      begun = every.begun begun;
      ended = every.ended;
      silenced = λ e. ap (λ (n : ℕ). take n (word_step k m word).answer.reply.bytes) (every.silenced e);
    }

pub proper_after : (ws : List ℕ) {o : WordOutcome} → Proper o → Proper (after_words o ws)
unfolding after_words
proper_after [] p = p
proper_after (w ∷ ws) {o} p = proper_after ws (proper_word o.answer.core o.memory w p.lent p.begun)

-- each word but the last is taken in silence, that before the first too
unfoldable pub Lasting : WordOutcome → List ℕ → Type 0
Lasting o [] = Unit {0}
Lasting o (w ∷ ws) = Quiet o × Lasting (word_step o.answer.core o.memory w) ws

-- a loader that has begun takes any word as a word
ready_for : (bus : Bus) (word : ℕ) {o : WordOutcome} → word < 2 ^ 32 → Quiet o → Proper o → Ready bus o.answer.core o.memory word
ready_for bus word small q p =
    record { running = q.running; lent = p.lent; small = small; plain = λ e. absurd (true≢false (sym p.begun ∙ e)) }

pub words_come : (ws : List ℕ) {bus : Bus} {x : State} {us : List ℕ} {o : WordOutcome} → Comes bus x us o → Proper o → AllSmall ws → Lasting o ws
    → Comes bus x (us ++ all_units bus ws) (after_words o ws)
unfolding after_words Lasting AllSmall
words_come [] {bus} {x} {us} {o} c proper small lasts = subst (λ (l : List ℕ). Comes bus x l o) (sym (append-nil us)) c
words_come (w ∷ ws) {bus} {x} {us} {o} c proper small lasts =
    let k = o.answer.core in
    let here = ◌onto◌ (c, lasts.0) (word_comes bus k o.memory w (ready_for bus w small.0 lasts.0 proper)) in
    subst (λ (l : List ℕ). Comes bus x l (after_words (word_step k o.memory w) ws)) (append_assoc us (units_of bus w) (all_units bus ws))
    (words_come ws here (proper_word k o.memory w proper.lent proper.begun) small.1 lasts.1)

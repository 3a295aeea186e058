-- The session counts what is prescribed. By the law of a call each way of it counts on by the words that the definition names; over any calls that is the sum.
-- The sum is bounded with it: while the session runs it is no more than the image for each retry and the words before the offset, since a call that goes
-- forward moves the offset past each word that it fetches, and one that goes back has a retry counted for them.
use Prim.Native.Nat.{ℕ, ◌+◌, ◌-◌, ◌*◌, ◌/◌, ◌^◌, ◌≤◌, ◌<◌}
use mathlib.Core.Bool.{true, false, ◌&&◌, true≢false}
use mathlib.Core.List.{List}
use mathlib.Core.Logic.{◌≢◌}
use mathlib.Core.Path.{◌≡◌, refl, sym, ap, subst, ◌∙◌}
use native.Mathlib.Nat.{add-mul, mul-le-mul}
use native.Mathlib.Omega.{arith}
use lib.Dec.{eqb, leb}
use lib.ListN.{length}
use borrow.Author.Tests.{eqb-true, ne_eqb, leb-true, not-false}
use Rattle.words.proofs.Choice.{chosen, passed, both, by_test, of_choice}
use Rattle.windows.specs.declared.Window.{Window}
use Rattle.opcodes.specs.rules.Answers.{code_of, accepted}
use Rattle.opcodes.specs.declared.Command.{Command}
use Rattle.opcodes.specs.rules.Refusals.{Verdict}
use Rattle.opcodes.specs.rules.Refusals.{None, Map, Image, Magic, Ended}
use Rattle.ledger.specs.rules.Totals.{from_one}
use Rattle.reading.specs.rules.Reading.{words_from}
use Rattle.commands.specs.rules.Commands.{multiple}
use Rattle.flash_commands.specs.claims.Ways.{met, Reads, Forward, Back, Kept, spares, Way, forward, back, kept, Call}
use Rattle.opcodes.specs.declared.Dialect.{Dialect}
use Rattle.flash_session.specs.rules.Opening.{good_length, opened_by}
use Rattle.flash_laws.specs.claims.Reached.{opened_to, Reached, opened, called}
use Rattle.flash_session.specs.rules.Sessions.{CallOutcome, counted_on, with_totals}
use Rattle.flash.specs.rules.Step.{step_of}
use Rattle.flash_session.specs.declared.Called.{Called}
use Rattle.flash_session.specs.declared.Opened.{Opened}
use Rattle.flash_session.specs.declared.Session.{Session}
use Rattle.flash_commands.proofs.Ways.{counted_none, counted_both, not_over}
use Rattle.flash_laws.proofs.Calls.{every_call}
use Rattle.flash_laws.proofs.Reached.{opened_as}
use Rattle.flash_session.proofs.Lengths.{length_small}
use Rattle.flash.proofs.Cases.{call_ended}
use Rattle.flash_runs.specs.claims.Ceiling.{words_of}
use Rattle.flash_runs.specs.claims.Fetched.{opening_fetches, call_fetches, prescribed, limit_of, CountsAsPrescribed}

-- a call whose image is not of the opening's length is one that spares the session
unspared_lent : (s : Session) (m image : List ℕ) → spares (step_of s m image).answer.refusal ≡ false → length image ≡ s.length
unfolding step_of
unspared_lent s m image =
    let Lent : CallOutcome → Type 0 = λ o. spares o.answer.refusal ≡ false → length image ≡ s.length in
    of_choice Lent _ (λ e h. absurd (true≢false h))
    (λ e. of_choice Lent _ (λ e h. absurd (true≢false h))
    (λ e. of_choice Lent _ (λ e h. absurd (true≢false h))
    (λ sound h. eqb-true _ _ (both (good_length (length image)) _ (not-false _ sound)).1)))

module _ (s : Session) (image : List ℕ) where
  -- what is prescribed, by the way of a call: all words of a command that is accepted
  read_fetches : {c : Command} {words : ℕ} {q : Verdict} → Reads s image c words → q ≡ None → call_fetches s image q ≡ words
  unfolding call_fetches met words_from
  read_fetches {c} {words} {q} reads accepted =
      ap (call_fetches s image) accepted
      ∙ passed _ _ _ refl
      ∙ ap (λ (k : ℕ). met s image + k) (chosen _ _ _ refl)
      ∙ rw reads.row (omega (arith, reads.count, reads.present))

  -- those met where it is refused and the session is ended, none where it is spared
  kept_fetches : (q : Verdict) → spares q ≡ false → code_of q ≢ 0 → call_fetches s image q ≡ met s image
  unfolding call_fetches
  kept_fetches q unspared refused =
      passed _ _ _ unspared ∙ ap (λ (k : ℕ). met s image + k) (passed _ _ _ (ne_eqb _ _ refused)) ∙ omega arith

  spared_fetches : (q : Verdict) → spares q ≡ true → call_fetches s image q ≡ 0
  unfolding call_fetches
  spared_fetches q spare = chosen _ _ _ spare

  -- so each way counts on by what is prescribed
  way_counts : {a : Called} → Way s image a → a.session.fetched ≡ counted_on s.fetched (call_fetches s image a.refusal)
  way_counts (forward f) = f.fetched ∙ ap (counted_on s.fetched) (sym (read_fetches f.reads f.accepted))
  way_counts (back b) = b.fetched ∙ ap (counted_on s.fetched) (sym (read_fetches b.reads b.accepted))
  way_counts {a} (kept k) =
      by_test (spares a.refusal)
      (λ spare.
      ap (λ (t : Session). t.fetched) (k.spared spare)
      ∙ counted_none s.fetched
      ∙ ap (counted_on s.fetched) (sym (spared_fetches a.refusal spare)))
      (λ unspared. k.fetched unspared ∙ ap (counted_on s.fetched) (sym (kept_fetches a.refusal unspared k.refused)))

-- what is prescribed by the four ways of an opening
none_for_map : opening_fetches Map ≡ 0
none_for_map = chosen _ _ _ refl

none_for_image : opening_fetches Image ≡ 0
none_for_image = chosen _ _ _ refl

one_for_magic : opening_fetches Magic ≡ 1
one_for_magic = passed _ _ _ refl

one_where_begun : opening_fetches None ≡ 1
one_where_begun = passed _ _ _ refl

-- the count since the opening is the sum, as far as 32 bits hold it
abbrev Counts : Opened → Type 0
Counts o = o.session.fetched ≡ opening_fetches o.refusal

opened_counts : (dialect : Dialect) (count : ℕ) (windows : List Window) (image : List ℕ) (limit : ℕ)
    → Counts (opened_by dialect count windows image limit)
unfolding opened_by
opened_counts dialect count windows image limit =
    of_choice Counts _ (λ e. sym none_for_map)
    (λ e. of_choice Counts _ (λ e. sym none_for_image) (λ e. of_choice Counts _ (λ e. sym one_for_magic) (λ e. sym one_where_begun)))

pub reached_counts : {s : Session} (reached : Reached s) → s.fetched ≡ counted_on 0 (prescribed reached)
unfolding prescribed counted_on
reached_counts (opened numbers dialect count windows image limit) =
    let few : opening_fetches (opened_to numbers dialect count windows image limit).refusal ≤ 1 =
    of_choice (λ (n : ℕ). n ≤ 1) _ (λ e. omega arith) (λ e. omega arith) in
    opened_as Counts (λ o counts. counts) numbers dialect count windows image limit (opened_counts dialect count windows image limit)
    ∙ omega (arith, few)
reached_counts (called {s} lent before) =
    let more = call_fetches s lent.image (step_of s lent.memory lent.image).answer.refusal in
    way_counts s lent.image (every_call s lent.memory lent.image).way
    ∙ ap (λ (k : ℕ). counted_on k more) (reached_counts before)
    ∙ counted_both 0 (prescribed before) more

-- a session that was opened with a limit on an image of so many words, n words being prescribed since
pub record Going (s : Session) (n limit words : ℕ) : Type 0 where
  pub same_limit : s.limit ≡ limit
  pub same_words : s.length / 4 ≡ words
  pub small : s.length ≤ 65536
  pub within : s.retries ≤ limit
  pub running : s.ended ≡ false → (n ≤ s.retries * words + s.offset / 4) × (s.offset ≤ s.length)
  pub most : n ≤ (s.retries + 1) * words

module _ {s : Session} {image : List ℕ} {a : Called} {n limit words : ℕ} (call : Call s image a) (going : Going s n limit words) where
  -- a call that is no 14 was of a running session
  standing : eqb (code_of a.refusal) 14 ≡ false → s.ended ≡ false
  standing e = sym call.over ∙ e

  forward_going : Forward s image a → Going a.session (n + call_fetches s image a.refusal) limit words
  forward_going f =
      let before = going.running (standing (ap (λ (q : Verdict). eqb (code_of q) 14) f.accepted)) in
      let all = read_fetches s image f.reads f.accepted in
      let same = ap (λ (k : ℕ). k * words) f.retries in
      let lent = f.reads.lent in
      let present = f.reads.present in
      let here = before.0 in
      record {
        same_limit = call.same_limit ∙ going.same_limit;
        same_words = ap (λ (k : ℕ). k / 4) call.same_length ∙ going.same_words;
        small = omega (arith, call.same_length, going.small);
        within = omega (arith, f.retries, going.within);
        running = λ e. (omega (arith, all, same, here, f.offset), omega (arith, f.offset, present, lent, call.same_length));
        most = omega (arith, all, same, here, f.offset, present, lent, going.same_words, add-mul a.session.retries 1 words);
      }

  back_going : Back s image a → Going a.session (n + call_fetches s image a.refusal) limit words
  back_going b =
      let before = going.running (standing (ap (λ (q : Verdict). eqb (code_of q) 14) b.accepted)) in
      let all = read_fetches s image b.reads b.accepted in
      let again = ap (λ (k : ℕ). k * words) b.counted in
      let lent = b.reads.lent in
      let present = b.reads.present in
      let here = before.0 in
      let once = add-mul s.retries 1 words in
      let twice = add-mul a.session.retries 1 words in
      record {
        same_limit = call.same_limit ∙ going.same_limit;
        same_words = ap (λ (k : ℕ). k / 4) call.same_length ∙ going.same_words;
        small = omega (arith, call.same_length, going.small);
        within = omega (arith, b.counted, b.left, going.same_limit);
        running = λ e. (
          omega (arith, all, again, once, here, present, lent, going.same_words),
          omega (arith, b.below, before.1, call.same_length),
        );
        most = omega (arith, all, again, once, twice, here, present, lent, going.same_words);
      }

  -- the words met are some of those from the offset on
  met_few : met s image ≤ (length image - s.offset) / 4
  unfolding met words_from
  met_few = omega arith

  kept_going : (spares a.refusal ≡ false → length image ≡ s.length) → Kept s image a
      → Going a.session (n + call_fetches s image a.refusal) limit words
  kept_going lent k =
      by_test (spares a.refusal)
      (λ spare.
      let none : n ≡ n + call_fetches s image a.refusal = omega (arith, spared_fetches s image a.refusal spare) in
      subst (λ (t : Session). Going t (n + call_fetches s image a.refusal) limit words) (sym (k.spared spare))
      (subst (λ (k : ℕ). Going s k limit words) none going))
      (λ unspared.
      let before = going.running (standing (not_over a.refusal unspared)) in
      let all = kept_fetches s image a.refusal unspared k.refused in
      let here = before.0 in
      let same = ap (λ (k : ℕ). k * words) k.retries in
      record {
        same_limit = call.same_limit ∙ going.same_limit;
        same_words = ap (λ (k : ℕ). k / 4) call.same_length ∙ going.same_words;
        small = omega (arith, call.same_length, going.small);
        within = omega (arith, k.retries, going.within);
        running = λ e. absurd (true≢false (sym (k.ended unspared) ∙ e));
        most = omega (arith, all, here, before.1, same, met_few, lent unspared, going.same_words, add-mul a.session.retries 1 words);
      })

  call_going : (spares a.refusal ≡ false → length image ≡ s.length) → Going a.session (n + call_fetches s image a.refusal) limit words
  call_going lent = go call.way
    where
      go : Way s image a → Going a.session (n + call_fetches s image a.refusal) limit words
      go (forward f) = forward_going f
      go (back b) = back_going b
      go (kept k) = kept_going lent k

-- a session that an opening leads to is such a one; or the opening was refused, the session is ended, and at most one word of the image was fetched
pub data Standing (s : Session) (n limit words : ℕ) : Type 0 where
  going : Going s n limit words → Standing s n limit words
  shut : s.ended ≡ true → n ≤ 1 → n ≤ words → Standing s n limit words

-- an image has a word
length_least : (n : ℕ) → good_length n ≡ true → 4 ≤ n
unfolding good_length
length_least n e = leb-true _ _ (both (multiple n 4) (leb 4 n) (both (multiple n 4 && leb 4 n) (leb n 65536) e).0).1

abbrev Stands : ℕ → ℕ → Opened → Type 0
Stands limit words o = Standing o.session (opening_fetches o.refusal) limit words

opened_standing : (dialect : Dialect) (count : ℕ) (windows : List Window) (image : List ℕ) (limit : ℕ)
    → Stands limit (length image / 4) (opened_by dialect count windows image limit)
unfolding opened_by
opened_standing dialect count windows image limit =
    of_choice (Stands limit (length image / 4)) _ (λ e. shut refl (omega (arith, none_for_map)) (omega (arith, none_for_map)))
    (λ e. of_choice (Stands limit (length image / 4)) _ (λ e. shut refl (omega (arith, none_for_image)) (omega (arith, none_for_image)))
    (λ sound.
    let least = length_least (length image) (not-false _ sound) in
    let small = length_small (length image) (not-false _ sound) in
    of_choice (Stands limit (length image / 4)) _ (λ e. shut refl (omega (arith, one_for_magic)) (omega (arith, one_for_magic, least)))
    (λ e. going
    (record {
      same_limit = refl;
      same_words = refl;
      small = small;
      within = omega arith;
      running = λ e. (omega (arith, one_where_begun), least);
      most = omega (arith, one_where_begun, least);
    }))))

-- whatever its totals are
other_stands : (limit words : ℕ) (o : Opened) → Stands limit words o
    → Stands limit words (record { refusal = o.refusal; session = with_totals o.session (from_one o.session.totals) })
other_stands limit words o (going g) =
    going
    (record {
      same_limit = g.same_limit;
      same_words = g.same_words;
      small = g.small;
      within = g.within;
      running = g.running;
      most = g.most;
    })
other_stands limit words o (shut over few low) = shut over few low

pub reached_standing : {s : Session} (reached : Reached s) → Standing s (prescribed reached) (limit_of reached) (words_of reached)
unfolding prescribed limit_of words_of
reached_standing (opened numbers dialect count windows image limit) =
    opened_as (Stands limit (length image / 4)) (other_stands limit (length image / 4)) numbers dialect count windows image limit
    (opened_standing dialect count windows image limit)
reached_standing (called {s} lent before) = go (reached_standing before)
  where
    go : Standing s (prescribed before) (limit_of before) (words_of before)
        → Standing (step_of s lent.memory lent.image).answer.session
        (prescribed before + call_fetches s lent.image (step_of s lent.memory lent.image).answer.refusal) (limit_of before) (words_of before)
    go (going g) =
        going (call_going (every_call s lent.memory lent.image) g (unspared_lent s lent.memory lent.image))
    go (shut over few low) =
        let none = spared_fetches s lent.image Ended refl in
        subst
        (λ (o : CallOutcome). Standing o.answer.session (prescribed before + call_fetches s lent.image o.answer.refusal) (limit_of before)
        (words_of before))
        (sym (call_ended s lent.memory lent.image over)) (shut over (omega (arith, none, few)) (omega (arith, none, low)))

-- 32 bits hold the sum where the limit is a byte
pub fits : {s : Session} {n limit words : ℕ} → Standing s n limit words → limit < 256 → n < 2 ^ 32
fits {s} {n} {limit} {words} (going g) byte =
    omega (
      arith,
      g.most,
      mul-le-mul {n₁ = s.retries + 1} {m₁ = words} {n₂ = 256} {m₂ = 16384} (omega (arith, g.within, byte)) (omega (arith, g.same_words, g.small)),
    )
fits (shut over few low) byte = omega (arith, few)

pub counts_as_prescribed : CountsAsPrescribed
unfolding counted_on
counts_as_prescribed =
    record {
      call = λ s m image. way_counts s image (every_call s m image).way;
      sum = λ reached byte. reached_counts reached ∙ omega (arith, fits (reached_standing reached) byte);
    }

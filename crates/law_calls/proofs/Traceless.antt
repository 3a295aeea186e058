-- Demand 3 in a call. Feeding goes stretch by stretch: what is before, the attempt, what follows and what is after. From the attempt's close on the session,
-- what is heard of it and its entries are those of the session that never had the attempt; and no unit of the attempt is refused.
use Prim.Native.Nat.{ℕ, ◌+◌, ◌*◌, ◌/◌, ◌%◌, ◌^◌, ◌<◌}
use mathlib.Core.List.{List, [], ◌∷◌, ◌++◌, append_assoc}
use mathlib.Core.Path.{◌≡◌, refl, sym, ap, ap₂, subst, ◌∙◌}
use native.Mathlib.Omega.{arith}
use lib.Dec.{eqb}
use lib.ListN.{length}
use Rattle.words.specs.rules.Choice.{pick}
use Rattle.words.proofs.Choice.{chosen, passed, by_test}
use Rattle.opcodes.specs.rules.Answers.{code_of, accepted}
use Rattle.opcodes.specs.rules.Refusals.{Verdict}
use Rattle.sent.specs.rules.Bus.{all_units, units_fed}
use Rattle.sent.specs.rules.Feeding.{State, Heard, next, fed, answers, replied, first_of, first_refused, NoneRefused}
use Rattle.sent.specs.declared.Bus.{Bus}
use Rattle.sent.proofs.Feeding.{fed_append, answers_append, units_append}
use Rattle.machine_answers.specs.rules.Replies.{sent_bytes}
use Rattle.machine_answers.specs.declared.Reply.{Reply}
use Rattle.bit_choice.specs.rules.Chosen.{chosen_places}
use Rattle.bit_watch.specs.rules.Watched.{entries_after}
use Rattle.bench_sessions.specs.rules.Feeding.{SessionOutcome, fed_from, begun}
use Rattle.bench_sessions.specs.rules.Numbers.{choice_on, line_of, cleared}
use Rattle.law_retries.specs.claims.Entries.{NoEntryLeft}
use Rattle.sent_laws.specs.claims.Lines.{AreWords}
use Rattle.law_retries.specs.claims.Pieces.{Piece, all_words}
use Rattle.law_retries.specs.claims.Retries.{Attempt, attempt_words, attempts_words, NoTrace, Retried}
use Rattle.law_retries.proofs.Beginnings.{beginnings}
use Rattle.law_retries.proofs.Entries.{retries_leave_no_entry, many_retries_leave_no_entry}
use Rattle.law_retries.proofs.EntryWords.{entries_append}
use Rattle.law_retries.proofs.Retries.{retries_leave_no_trace, many_retries_leave_no_trace}
use Rattle.law_calls.specs.claims.Calls.{Call, plain, on_line, numbering, result_of, bus_of, opening_of, Feeds, refusal_in}
use Rattle.law_calls.specs.claims.Traceless.{Lent, fed_around, state_there, Laid, NoTraceInCall, WholeBefore}
use Rattle.law_calls.specs.claims.Traceless.{CallsLeaveNoTrace}
use Rattle.law_calls.proofs.Feeding.{call_fed, numbers_fed, replies_small}
use Rattle.law_calls.proofs.Units.{around_units, are_words, pieces_words, attempt-words, attempts-words}

-- of two stretches that are heard: the replies, and the first refusal
replied_append : (hs gs : List Heard) → replied (hs ++ gs) ≡ replied hs ++ replied gs
unfolding replied
replied_append [] gs = refl
replied_append (h ∷ hs) gs = ap (λ (l : List ℕ). sent_bytes h.reply ++ l) (replied_append hs gs) ∙ sym (append_assoc (sent_bytes h.reply) _ _)

none_first : (code : ℕ) → first_of 0 code ≡ code
unfolding first_of pick
none_first code = refl

first_of_three : (a b c : ℕ) → first_of a (first_of b c) ≡ first_of (first_of a b) c
unfolding first_of
first_of_three a b c =
    by_test (eqb a 0)
    (λ e. chosen _ _ _ e ∙ sym (ap (λ (n : ℕ). pick (eqb n 0) c n) (chosen (eqb a 0) b a e)))
    (λ e. passed _ _ _ e ∙ sym (ap (λ (n : ℕ). pick (eqb n 0) c n) (passed (eqb a 0) b a e) ∙ passed _ _ _ e))

first_append : (hs gs : List Heard) → first_refused (hs ++ gs) ≡ first_of (first_refused hs) (first_refused gs)
unfolding first_refused
first_append [] gs = sym (none_first (first_refused gs))
first_append (h ∷ hs) gs =
    ap (first_of (code_of h.refusal)) (first_append hs gs) ∙ first_of_three (code_of h.refusal) (first_refused hs) (first_refused gs)

-- where none is refused, there is no first
none_refused : (bus : Bus) (x : State) (units : List ℕ) → NoneRefused bus x units → first_refused (answers bus x units) ≡ 0
unfolding NoneRefused answers first_refused
none_refused bus x [] n = refl
none_refused bus x (u ∷ us) n =
    ap₂ (λ (q : Verdict) (code : ℕ). first_of (code_of q) code) n.0 (none_refused bus (next bus x u) us n.1) ∙ none_first 0

-- a number and its parts
quotient : (code count : ℕ) → count < 2 ^ 32 → (code * 2 ^ 32 + count) / 2 ^ 32 ≡ code
quotient code count small = omega (arith, small)

remainder : (code count : ℕ) → count < 2 ^ 32 → (code * 2 ^ 32 + count) % 2 ^ 32 ≡ count
remainder code count small = omega (arith, small)

-- what feeding gives to C, by the replies and the first refusal
module _ (bus : Bus) (opening : Reply) (x : State) (units room : List ℕ) where
  abbrev replies : List ℕ
  replies = sent_bytes opening ++ replied (answers bus x units)

  fed_laid : (told : List ℕ) → replies ≡ told → length replies < 2 ^ 32 → Laid told room (fed_from bus opening x units room)
  unfolding fed_from
  fed_laid told same small =
      subst (λ (rs : List ℕ). Laid rs room (fed_from bus opening x units room)) same
      (record { counted = remainder (first_refused (answers bus x units)) (length replies) small; laid = refl })

  fed_memory : (fed_from bus opening x units room).memory ≡ (fed bus x units).memory
  unfolding fed_from
  fed_memory = refl

  fed_refusal : length replies < 2 ^ 32 → refusal_in (fed_from bus opening x units room) ≡ first_refused (answers bus x units)
  unfolding fed_from
  fed_refusal small = quotient (first_refused (answers bus x units)) (length replies) small

-- stretches of units: before, an attempt and what follows it, and after; with the attempt and without
module _ (bus : Bus) (start : State) (before after attempt following : List ℕ) where
  abbrev there : State
  there = fed bus start before

  abbrev with : List ℕ
  with = before ++ (all_units bus (attempt ++ following) ++ after)

  abbrev without : List ℕ
  without = before ++ (all_units bus following ++ after)

  module _ (traceless : NoTrace bus there attempt following) where
    same_memory : (fed bus start with).memory ≡ (fed bus start without).memory
    same_memory =
        ap (λ (x : State). x.memory)
        (fed_append bus start before _ ∙ fed_append bus there (all_units bus (attempt ++ following)) after
        ∙ ap (λ (x : State). fed bus x after) traceless.same_state
        ∙ sym (fed_append bus start before _ ∙ fed_append bus there (all_units bus following) after))

    -- all that is heard: before, of the attempt, and from its close on
    heard_with : answers bus start with
        ≡ answers bus start before ++ (answers bus there (all_units bus attempt) ++ answers bus there (all_units bus following ++ after))
    heard_with =
        answers_append bus start before _
        ∙ ap (λ (hs : List Heard). answers bus start before ++ hs)
        (ap (answers bus there)
        (ap (λ (us : List ℕ). us ++ after) (units_append bus attempt following) ∙ append_assoc (all_units bus attempt) (all_units bus following) after)
        ∙ answers_append bus there (all_units bus attempt) (all_units bus following ++ after)
        ∙ ap (λ (hs : List Heard). answers bus there (all_units bus attempt) ++ hs) (traceless.same_answers after))

    heard_without : answers bus start without ≡ answers bus start before ++ answers bus there (all_units bus following ++ after)
    heard_without = answers_append bus start before _

    same_first : NoneRefused bus there (all_units bus attempt) → first_refused (answers bus start with) ≡ first_refused (answers bus start without)
    same_first accepted =
        ap first_refused heard_with ∙ first_append (answers bus start before) _
        ∙ ap (first_of (first_refused (answers bus start before)))
        (first_append (answers bus there (all_units bus attempt)) _
        ∙ ap (λ (code : ℕ). first_of code (first_refused (answers bus there (all_units bus following ++ after))))
        (none_refused bus there (all_units bus attempt) accepted) ∙ none_first _)
        ∙ sym (ap first_refused heard_without ∙ first_append (answers bus start before) _)

    -- the replies after an opening's
    replies_with : (opening : Reply) → sent_bytes opening ++ replied (answers bus start with)
        ≡ (sent_bytes opening ++ replied (answers bus start before))
        ++ (replied (answers bus there (all_units bus attempt)) ++ replied (answers bus there (all_units bus following ++ after)))
    replies_with opening =
        ap (λ (rs : List ℕ). sent_bytes opening ++ rs)
        (ap replied heard_with ∙ replied_append (answers bus start before) _
        ∙ ap (λ (rs : List ℕ). replied (answers bus start before) ++ rs) (replied_append (answers bus there (all_units bus attempt)) _))
        ∙ sym (append_assoc (sent_bytes opening) (replied (answers bus start before)) _)

    replies_without : (opening : Reply) → sent_bytes opening ++ replied (answers bus start without)
        ≡ (sent_bytes opening ++ replied (answers bus start before)) ++ replied (answers bus there (all_units bus following ++ after))
    replies_without opening =
        ap (λ (rs : List ℕ). sent_bytes opening ++ rs) (ap replied heard_without ∙ replied_append (answers bus start before) _)
        ∙ sym (append_assoc (sent_bytes opening) (replied (answers bus start before)) _)

  -- the entries
  same_entries : NoEntryLeft bus there attempt following → (places entries : List ℕ)
      → entries_after bus places entries start with ≡ entries_after bus places entries start without
  same_entries kept places entries =
      entries_append bus places entries start before _ ∙ kept places (entries_after bus places entries start before) after
      ∙ sym (entries_append bus places entries start before _)

-- what words that leave no trace in a session leave of it in a call
module _ (lent : Lent) (attempt following : List ℕ) where
  -- the numbers that a call leaves
  numbers_same : (call : Call) (longer shorter : List ℕ) → WholeBefore call lent → AreWords attempt → AreWords following
      → NoEntryLeft (bus_of call) (state_there call lent) attempt following
      → Feeds call lent.map lent.memory (fed_around lent (attempt ++ following)) longer
      → Feeds call lent.map lent.memory (fed_around lent following) shorter
      → (result_of call lent.map lent.memory (fed_around lent (attempt ++ following)) longer).numbers
      ≡ (result_of call lent.map lent.memory (fed_around lent following) shorter).numbers
  numbers_same (plain bus dialect) longer shorter whole small others kept f g = refl
  numbers_same (on_line line dialect) longer shorter whole small others kept f g = refl
  numbers_same (numbering line dialect listed numbers) longer shorter whole small others kept f g =
      let bus = line_of line in
      let places = chosen_places (choice_on lent.map listed).chosen in
      let start = begun (opening_of (numbering line dialect listed numbers) lent.map) lent.memory in
      numbers_fed line dialect listed numbers lent.map lent.memory _ longer f
      ∙ ap (entries_after bus places (cleared numbers) start) (around_units bus lent (attempt ++ following) whole (are_words attempt following small others))
      ∙ same_entries bus start (units_fed bus lent.before) (units_fed bus lent.after) attempt following kept places (cleared numbers)
      ∙ sym (numbers_fed line dialect listed numbers lent.map lent.memory _ shorter g
      ∙ ap (entries_after bus places (cleared numbers) start) (around_units bus lent following whole others))

  no_trace_in_call : (call : Call) → WholeBefore call lent → AreWords attempt → AreWords following
      → NoTrace (bus_of call) (state_there call lent) attempt following → NoEntryLeft (bus_of call) (state_there call lent) attempt following
      → NoneRefused (bus_of call) (state_there call lent) (all_units (bus_of call) attempt) → NoTraceInCall call lent attempt following
  no_trace_in_call call whole small others traceless kept accepted longer shorter f g =
      let bus = bus_of call in
      let o = opening_of call lent.map in
      let start = begun o lent.memory in
      let before = units_fed bus lent.before in
      let after = units_fed bus lent.after in
      let long = around_units bus lent (attempt ++ following) whole (are_words attempt following small others) in
      let short = around_units bus lent following whole others in
      let given =
      call_fed call lent.map lent.memory _ longer f ∙ ap (λ (us : List ℕ). fed_from bus o.reply start us longer) long in
      let plainly =
      call_fed call lent.map lent.memory _ shorter g ∙ ap (λ (us : List ℕ). fed_from bus o.reply start us shorter) short in
      let few =
      subst (λ (us : List ℕ). length (sent_bytes o.reply ++ replied (answers bus start us)) < 2 ^ 32) long
      (replies_small call lent.map lent.memory _ longer f) in
      let fewer =
      subst (λ (us : List ℕ). length (sent_bytes o.reply ++ replied (answers bus start us)) < 2 ^ 32) short
      (replies_small call lent.map lent.memory _ shorter g) in
      record {
        same_memory = ap (λ (r : SessionOutcome). r.memory) given
            ∙ fed_memory bus o.reply start _ longer ∙ same_memory bus start before after attempt following traceless
            ∙ sym (ap (λ (r : SessionOutcome). r.memory) plainly ∙ fed_memory bus o.reply start _ shorter);
        same_numbers = numbers_same call longer shorter whole small others kept f g;
        same_refusal = ap (λ (r : SessionOutcome). refusal_in r) given
            ∙ fed_refusal bus o.reply start _ longer few ∙ same_first bus start before after attempt following traceless accepted
            ∙ sym (ap (λ (r : SessionOutcome). refusal_in r) plainly ∙ fed_refusal bus o.reply start _ shorter fewer);
        with_replies = subst (Laid _ longer) (sym given)
            (fed_laid bus o.reply start _ longer _ (replies_with bus start before after attempt following traceless o.reply) few);
        without_replies = subst (Laid _ shorter) (sym plainly)
            (fed_laid bus o.reply start _ shorter _ (replies_without bus start before after attempt following traceless o.reply) fewer);
      }

-- of an attempt, and of several
one_traceless : (call : Call) (lent : Lent) (a : Attempt) (c : Piece) (cs : List Piece) → WholeBefore call lent
    → Retried (bus_of call) (state_there call lent) (attempt_words a) a.pieces (c ∷ cs) → NoTraceInCall call lent (attempt_words a) (all_words (c ∷ cs))
one_traceless call lent a c cs whole r =
    no_trace_in_call lent (attempt_words a) (all_words (c ∷ cs)) call whole (attempt-words a r.accepted.sendable.0)
    (pieces_words (c ∷ cs) r.accepted.sendable.1) (retries_leave_no_trace (bus_of call) (state_there call lent) a c cs r)
    (retries_leave_no_entry (bus_of call) (state_there call lent) a c cs r) r.accepted.attempt_accepted

pub calls_leave_no_trace : CallsLeaveNoTrace
calls_leave_no_trace =
    record {
      one = one_traceless;
      many = λ call lent attempts c cs whole r.
          no_trace_in_call lent (attempts_words attempts) (all_words (c ∷ cs)) call whole (attempts-words attempts r.accepted.sendable.0)
          (pieces_words (c ∷ cs) r.accepted.sendable.1) (many_retries_leave_no_trace (bus_of call) (state_there call lent) attempts c cs r)
          (many_retries_leave_no_entry (bus_of call) (state_there call lent) attempts c cs r) r.accepted.attempt_accepted;
      since-opening = λ call lent a c cs whole just_after lent-whole other accepted covers.
          one_traceless call lent a c cs whole
          (record {
            begins = (beginnings (bus_of call)).begins (state_there call lent) just_after lent-whole;
            not_alone = other;
            accepted = accepted;
            covered = covers;
          });
    }

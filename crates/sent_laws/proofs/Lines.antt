-- Both lines do the same. A core that has ended, or whose memory has another length, refuses all units of either line. Any other takes the units of a word as
-- the word on both, for its first unit is no start unit; and the rest goes word by word.
use Prim.Native.Nat.{ℕ}
use mathlib.Core.Bool.{Bool, true, false, not, true≢false}
use mathlib.Core.List.{List, [], ◌∷◌, ◌++◌}
use mathlib.Core.Path.{◌≡◌, refl, sym, ap, ap₂, subst₂, ◌∙◌}
use lib.Dec.{eqb}
use lib.ListN.{length, replicate}
use borrow.Author.Tests.{eqb-true, eqb-false}
use Rattle.words.specs.rules.Choice.{pick}
use Rattle.words.proofs.Choice.{passed, by_test}
use Rattle.windows.specs.rules.Window.{sum_of}
use Rattle.opcodes.specs.rules.Answers.{code_of, accepted}
use Rattle.opcodes.specs.rules.Refusals.{Verdict}
use Rattle.opcodes.specs.rules.Refusals as refusal
use Rattle.machine_answers.specs.declared.Core.{Core}
use Rattle.machine_answers.specs.declared.Phase.TheVariants.{Opcode}
use Rattle.machine_answers.specs.declared.Taken.{Taken}
use Rattle.machine.specs.rules.Machine.{word_step}
use Rattle.machine.proofs.Every.{every_word}
use Rattle.sent.specs.claims.Lift.{at_word, refused_by, heard_word, Plain, Absorbed}
use Rattle.sent.specs.rules.Bus.{start_unit, units_of, all_units}
use Rattle.sent.specs.rules.Feeding.{State, Heard, fed, answers, replied, events_heard, first_of, first_refused}
use Rattle.sent.specs.rules.Line.{UnitOutcome}
use Rattle.sent.specs.declared.Bus.{Bus}
use Rattle.sent.specs.declared.Bus.TheVariants.{Bytes, Halves}
use Rattle.sent.specs.declared.Session.{Session}
use Rattle.sent.proofs.Cases.{start_again, unit_start}
use Rattle.sent.proofs.Feeding.{fed_append, answers_append, replied_append, events_append, none_replied, none_told}
use Rattle.sent.proofs.Lift.{units_are_the_word, absorbed, unlent}
use Rattle.sent_laws.specs.claims.Lines.{AreWords, Runs, NoneStarts, EitherLine, SameOf, StartAnswered, BothLines}
use Rattle.sent_laws.specs.claims.Reached.{Reached}
use Rattle.sent_laws.proofs.Reached.{stays_sound}

-- the first refusal of two stretches
first_both : (a b c : ℕ) → first_of a (first_of b c) ≡ first_of (first_of a b) c
unfolding first_of pick
first_both a b c =
    by_test (eqb a 0)
    (λ e. ap (λ (t : Bool). pick t (first_of b c) a) e ∙ sym (ap (λ (t : Bool). first_of (pick t b a) c) e))
    (λ e. passed _ _ _ e ∙ sym (ap (λ (t : Bool). first_of (pick t b a) c) e ∙ passed _ _ _ e))

first_append : (hs gs : List Heard) → first_refused (hs ++ gs) ≡ first_of (first_refused hs) (first_refused gs)
unfolding first_refused first_of pick
first_append [] gs = refl
first_append (h ∷ hs) gs = ap (first_of (code_of h.refusal)) (first_append hs gs) ∙ first_both (code_of h.refusal) (first_refused hs) (first_refused gs)

-- of units that are all refused: their refusal where there is one, by bytes as by halves
refused_alike : (words : List ℕ) (q : Verdict) → eqb (code_of q) 0 ≡ false
    → first_refused (replicate (length (all_units Bytes words)) (refused_by q)) ≡ first_refused (replicate (length (all_units Halves words)) (refused_by q))
unfolding first_refused first_of
refused_alike [] q e = refl
refused_alike (word ∷ words) q e = passed _ _ _ e ∙ sym (passed _ _ _ e)

-- two sessions with the same core and the same memory, which refuse all
refused_either : (x y : State) (words : List ℕ) (q : Verdict) → eqb (code_of q) 0 ≡ false → x.session.core ≡ y.session.core → x.memory ≡ y.memory
    → Absorbed Bytes x (all_units Bytes words) q → Absorbed Halves y (all_units Halves words) q → EitherLine x y words
refused_either x y words q e core memory left right =
    record {
      same_core = ap (λ (z : State). z.session.core) left.stays ∙ core ∙ sym (ap (λ (z : State). z.session.core) right.stays);
      same_memory = ap (λ (z : State). z.memory) left.stays ∙ memory ∙ sym (ap (λ (z : State). z.memory) right.stays);
      same_replies =
          ap replied left.hears ∙ none_replied q (length (all_units Bytes words))
          ∙ sym (ap replied right.hears ∙ none_replied q (length (all_units Halves words)));
      same_events =
          ap events_heard left.hears ∙ none_told q (length (all_units Bytes words))
          ∙ sym (ap events_heard right.hears ∙ none_told q (length (all_units Halves words)));
      same_refusal = ap first_refused left.hears ∙ refused_alike words q e ∙ sym (ap first_refused right.hears);
    }

ended_either : (x y : State) (words : List ℕ) → x.session.core ≡ y.session.core → x.memory ≡ y.memory → x.session.core.ended ≡ true
    → EitherLine x y words
ended_either x y words core memory over =
    refused_either x y words refusal.Ended refl core memory (absorbed Bytes x (all_units Bytes words) over)
    (absorbed Halves y (all_units Halves words) (sym (ap (λ (k : Core). k.ended) core) ∙ over))

-- the same is heard of some units on one line and of others on the other
record SameHeard (hs gs : List Heard) : Type 0 where
  replies : replied hs ≡ replied gs
  events : events_heard hs ≡ events_heard gs
  refused : first_refused hs ≡ first_refused gs

-- the last answer is the only one that is not silent
same_word : (t : Taken) → SameHeard (heard_word Bytes t) (heard_word Halves t)
unfolding replied events_heard first_refused first_of pick
same_word t = record { replies = refl; events = refl; refused = refl }

-- a word of which the same is heard on both lines, and those after it
word_either : (x y : State) (word : ℕ) (words : List ℕ) → SameHeard (answers Bytes x (units_of Bytes word)) (answers Halves y (units_of Halves word))
    → EitherLine (fed Bytes x (units_of Bytes word)) (fed Halves y (units_of Halves word)) words → EitherLine x y (word ∷ words)
word_either x y word words same rest =
    let leads : (bus : Bus) (z : State) → fed bus z (all_units bus (word ∷ words)) ≡ fed bus (fed bus z (units_of bus word)) (all_units bus words) =
    λ bus z. fed_append bus z (units_of bus word) (all_units bus words) in
    let says : (bus : Bus) (z : State) → answers bus z (all_units bus (word ∷ words))
    ≡ answers bus z (units_of bus word) ++ answers bus (fed bus z (units_of bus word)) (all_units bus words) =
    λ bus z. answers_append bus z (units_of bus word) (all_units bus words) in
    record {
      same_core = ap (λ (z : State). z.session.core) (leads Bytes x) ∙ rest.same_core ∙ sym (ap (λ (z : State). z.session.core) (leads Halves y));
      same_memory = ap (λ (z : State). z.memory) (leads Bytes x) ∙ rest.same_memory ∙ sym (ap (λ (z : State). z.memory) (leads Halves y));
      same_replies =
          ap replied (says Bytes x) ∙ replied_append _ _ ∙ ap₂ ◌++◌ same.replies rest.same_replies
          ∙ sym (ap replied (says Halves y) ∙ replied_append _ _);
      same_events =
          ap events_heard (says Bytes x) ∙ events_append _ _ ∙ ap₂ ◌++◌ same.events rest.same_events
          ∙ sym (ap events_heard (says Halves y) ∙ events_append _ _);
      same_refusal =
          ap first_refused (says Bytes x) ∙ first_append _ _ ∙ ap₂ first_of same.refused rest.same_refusal
          ∙ sym (ap first_refused (says Halves y) ∙ first_append _ _);
    }

words_either : (words : List ℕ) (k : Core) (m : List ℕ) → AreWords words → NoneStarts Bytes k m words → NoneStarts Halves k m words → SameOf k m words
unfolding NoneStarts fed answers
words_either [] k m small left right = record { same_core = refl; same_memory = refl; same_replies = refl; same_events = refl; same_refusal = refl }
words_either (word ∷ words) k m small left right =
    by_test k.ended (λ over. ended_either (at_word k m) (at_word k m) (word ∷ words) refl refl over)
    (λ running.
    by_test (eqb (length m) (sum_of k.windows))
    (λ long.
    let runs : Runs k m = record { running = running; lent = eqb-true _ _ long } in
    let plain = left runs in
    let also = right runs in
    let bytes = units_are_the_word Bytes k m word (record { running = running; lent = runs.lent; small = small.0; plain = plain.0 }) in
    let halves = units_are_the_word Halves k m word (record { running = running; lent = runs.lent; small = small.0; plain = also.0 }) in
    let o = word_step k m word in
    let same = same_word o.answer in
    word_either (at_word k m) (at_word k m) word words
    (record {
      replies = ap replied bytes.hears ∙ same.replies ∙ sym (ap replied halves.hears);
      events = ap events_heard bytes.hears ∙ same.events ∙ sym (ap events_heard halves.hears);
      refused = ap first_refused bytes.hears ∙ same.refused ∙ sym (ap first_refused halves.hears);
    })
    (by_test (eqb (code_of o.answer.refusal) 0)
    (λ e.
    let accepted = eqb-true _ _ e in
    subst₂ (λ (x y : State). EitherLine x y words) (sym (bytes.accepted accepted)) (sym (halves.accepted accepted))
    (words_either words o.answer.core o.memory small.1 plain.1 also.1))
    (λ e.
    let stopped = eqb-false _ _ e in
    let l = bytes.refused stopped in
    let r = halves.refused stopped in
    ended_either _ _ words (l.0 ∙ sym r.0) (l.2 ∙ sym r.2) (ap (λ (c : Core). c.ended) l.0 ∙ l.1))))
    (λ short.
    let other = eqb-false _ _ short in
    refused_either (at_word k m) (at_word k m) (word ∷ words) refusal.Memory refl refl refl
    (unlent Bytes (at_word k m) (all_units Bytes (word ∷ words)) running other)
    (unlent Halves (at_word k m) (all_units Halves (word ∷ words)) running other)))

-- no word meets the exception once an opcode has been acknowledged, nor where the core has ended
none_begun : (bus : Bus) (words : List ℕ) (k : Core) (m : List ℕ) → k.begun ≡ true → NoneStarts bus k m words
unfolding NoneStarts
none_begun bus [] k m since = tt
none_begun bus (word ∷ words) k m since =
    λ runs. (
      λ e. absurd (true≢false (sym since ∙ e)),
      none_begun bus words (word_step k m word).answer.core (word_step k m word).memory ((every_word k m word).begun since),
    )

none_ended : (bus : Bus) (words : List ℕ) (k : Core) (m : List ℕ) → k.ended ≡ true → NoneStarts bus k m words
unfolding NoneStarts
none_ended bus [] k m over = tt
none_ended bus (word ∷ words) k m over = λ runs. absurd (true≢false (sym over ∙ runs.running))

-- where an opcode is awaited, the word after the first finds one acknowledged or the core ended
none_first : (bus : Bus) (word : ℕ) (words : List ℕ) (k : Core) (m : List ℕ) → k.stage.phase ≡ Opcode → Plain bus k word
    → NoneStarts bus k m (word ∷ words)
unfolding NoneStarts
none_first bus word words k m awaits plain =
    λ runs.
    let every = every_word k m word in
    let o = word_step k m word in (
      plain,
      by_test o.answer.core.begun (λ since. none_begun bus words o.answer.core o.memory since)
          (λ e. none_ended bus words o.answer.core o.memory (ap (λ (c : Core). c.ended) (every.unbegun awaits e))),
    )

none_reached : {line : Bus} {s : Session} → Reached line s → (bus : Bus) (m : List ℕ) (word : ℕ) (words : List ℕ) → Plain bus s.core word
    → NoneStarts bus s.core m (word ∷ words)
none_reached {line} {s} reached bus m word words plain =
    by_test s.core.begun (λ since. none_begun bus (word ∷ words) s.core m since)
    (λ before. none_first bus word words s.core m ((stays_sound line s reached).unbegun before).1 plain)

-- the start unit
start_answered : (bus : Bus) (k : Core) (m : List ℕ) → Runs k m → k.begun ≡ false → StartAnswered bus k m
start_answered bus k m runs before =
    let step =
    unit_start bus (at_word k m).session m (start_unit bus) runs.running runs.lent
    (start_again bus (at_word k m).session (start_unit bus) refl refl refl ∙ ap not before) in
    record {
      hears = ap (λ (o : UnitOutcome). record { refusal = o.answer.refusal; reply = o.answer.reply; event = o.answer.event }) step;
      stays = ap (λ (o : UnitOutcome). record { session = o.answer.session; memory = o.memory }) step;
    }

pub both_lines : BothLines
both_lines =
    record {
      either = λ k m words small left right. words_either words k m small left right;
      reached = λ {bus} {s} reached m word words small left right.
          words_either (word ∷ words) s.core m small (none_reached reached Bytes m word words left) (none_reached reached Halves m word words right);
      start = start_answered;
    }

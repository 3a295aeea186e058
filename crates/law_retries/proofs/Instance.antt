-- The worked instance on either line, by computing and by the theorem; and the counterexamples, by computing.
use Prim.Native.Nat.{ℕ, zero, suc, ◌<◌, ◌^◌}
use mathlib.Core.Bool.{Bool, true, false, ◌&&◌, ◌||◌, true≢false, false≢true}
use mathlib.Core.List.{List, [], ◌∷◌, ◌++◌, map}
use mathlib.Core.Path.{◌≡◌, refl, sym, ap, subst, ◌∙◌}
use lib.Dec.{eqb, ltb, lit<}
use lib.ListN.{length, get_or, replicate}
use borrow.Author.Tests.{eqb-false, ltb-true}
use Rattle.law_effects.specs.claims.Effects.{some_writes}
use Rattle.opcodes.specs.declared.Dialect.{Dialect}
use Rattle.opcodes.specs.declared.Dialect.TheVariants.{Am17xx, Dm648}
use Rattle.opcodes.specs.declared.Event.TheVariants.{Nothing}
use Rattle.opcodes.specs.rules.Refusals.{Verdict}
use Rattle.opcodes.specs.rules.Refusals.{None, Memory}
use Rattle.words.specs.rules.Bits.{bit, join, with_field, within}
use Rattle.words.specs.rules.Bytes.{byte, number, bytes_at, put, fits, field_fits, field_written}
use Rattle.words.specs.rules.Choice.{pick}
use Rattle.words.proofs.Choice.{chosen, both}
use Rattle.checksum.specs.rules.Checksum as feeding
use Rattle.windows.specs.rules.Window.{has_right, inside, grants_range, place_from, place_of, sum_of}
use Rattle.windows.specs.rules.Map.{sound_window, all_sound, rising, good_map, kept_of}
use Rattle.opcodes.specs.rules.Opcodes.{rows, row_serves, found_in, looked_up}
use Rattle.ledger.specs.claims.Attempts.{Level}
use Rattle.ledger.specs.rules.Totals.{is_past, following}
use Rattle.commands.specs.rules.Commands.{multiple, range_judged, load_judged, unit_of, units_judged, field_shape, shape_of, too_wide, setting_done}
use Rattle.commands.specs.rules.Commands.{setting_memory}
use Rattle.stores.specs.rules.Stores.{loaded}
use Rattle.sent.specs.rules.Bus.{start_unit, all_units, pushed}
use Rattle.sent.specs.rules.Feeding.{State, Heard, checksum, totals, next, heard, fed, answers, NoneRefused}
use Rattle.words.specs.rules.Bytes.{AreBytes}
use Rattle.sent.specs.rules.Line.{carried, is_start, unit_step}
use Rattle.machine_answers.specs.rules.Answers.{after as after_command}
use Rattle.machine_loads.specs.rules.Loads.{awaited}
use Rattle.machine.specs.rules.Machine.{acknowledging, word_step}
use Rattle.sent.specs.rules.Opening.{opened_by, numbering_from}
use Rattle.machine_answers.specs.rules.Replies.{silence}
use Rattle.sent.specs.rules.Line.{start_answer}
use Rattle.sent.specs.declared.Bus.{Bus}
use Rattle.sent.specs.declared.Bus.TheVariants.{Bytes, Halves}
use Rattle.sent.proofs.Feeding.{none_refused_by}
use Rattle.sent_laws.specs.claims.Reached.{opened_to, Reached, opened, stepped, fed_reached}
use Rattle.law_retries.specs.claims.Example.{windows, before, started_to, start_to, start, sent, abandoned, repeated, one_load, fourth, tried, meant}
use Rattle.law_retries.specs.claims.Example.{Worked, twice, WorkedTwice, missing}
use Rattle.law_retries.specs.claims.Example.{OneBitMissed, middle, nothing, InTheMiddle, requested, StartOverAlone, unmarked, NotLevel, set_once}
use Rattle.law_retries.specs.claims.Example.{NumberNotLevel, started, NothingFollows, shorter, short, MemoryTooShort}
use Rattle.law_retries.specs.claims.Example.{since_opening, elsewhere, LentOtherwise}
use Rattle.law_retries.specs.claims.Pieces.{all_words, AllSendable, effect_of, any_writes}
use Rattle.law_retries.specs.claims.Retries.{after, Awaits, LentWhole, Idle, AtStart, JustAfter, after-start, attempt_words}
use Rattle.law_retries.specs.claims.Retries.{attempts_words, attempts_pieces, NotAlone, Retried}
use Rattle.law_retries.proofs.Beginnings.{beginnings}
use Rattle.law_retries.proofs.Retries.{retries_leave_no_trace, many_retries_leave_no_trace}

-- bytes by a test
unfoldable all_small : List ℕ → Bool
all_small [] = true
all_small (b ∷ bs) = ltb b 256 && all_small bs

bytes_by : (bs : List ℕ) → all_small bs ≡ true → AreBytes bs
unfolding all_small
bytes_by [] e i = lit< tt
bytes_by (b ∷ bs) e zero = ltb-true b 256 (both _ _ e).0
bytes_by (b ∷ bs) e (suc i) = bytes_by bs (both (ltb b 256) _ e).1 i

-- what is sent can be sent
sendable : (field low high word : ℕ) → field < 2 ^ 32 → low < 2 ^ 32 → high < 2 ^ 32 → word < 2 ^ 32 → AllSendable (sent field low high word)
unfolding AllSendable
sendable field low high word field< low< high< word< = (
  ((lit< tt, (field<, (lit< tt, (low<, (lit< tt, tt))))), tt),
  (
    ((lit< tt, (lit< tt, (lit< tt, (high<, (lit< tt, tt))))), tt),
    (((lit< tt, (lit< tt, (lit< tt, (word<, tt)))), refl), tt),
  ),
)

-- what is refused of the units of words, and no refusal
abbrev refusals : Bus → State → List ℕ → List Verdict
refusals bus x words = map (λ (h : Heard). h.refusal) (answers bus x (all_units bus words))

abbrev quiet : Bus → List ℕ → List Verdict
quiet bus words = replicate (length (all_units bus words)) None

-- memory and map are eight bytes long
eight : {a b : ℕ} → a ≡ 8 → b ≡ 8 → a ≡ b
eight e f = cc

-- the bits that the attempt writes, and that both attempts write: two fields and three bytes
abbrev bits_once : ℕ → Bool
bits_once p = within 4 3 p || (within 8 4 p || (within 32 24 p || false))

abbrev bits_twice : ℕ → Bool
bits_twice p = within 4 3 p || (within 8 4 p || (within 32 24 p || (within 4 3 p || false)))

no_more : (a b c : Bool) → (a || (b || (c || (a || false)))) ≡ (a || (b || (c || false)))
no_more true b c = refl
no_more false true c = refl
no_more false false true = refl
no_more false false false = refl

-- all that is computed of the instance
record Computed (numbers : Bool) (bus : Bus) (dialect : Dialect) : Type 0 where
  answered : (heard bus (since_opening numbers bus dialect before []) (start_unit bus)).reply ≡ start_answer bus
  idle : Idle (started_to numbers bus dialect)
  started_memory : (started_to numbers bus dialect).memory ≡ before
  started_map : sum_of (started_to numbers bus dialect).session.core.windows ≡ 8
  refused_tried : refusals bus (start_to numbers bus dialect) (attempt_words abandoned) ≡ quiet bus (attempt_words abandoned)
  after_tried : refusals bus (after bus (start_to numbers bus dialect) (attempt_words abandoned)) (all_words repeated) ≡ quiet bus (all_words repeated)
  attempt_bits : (p : ℕ) → any_writes (start_to numbers bus dialect).session.core.windows abandoned.pieces p ≡ bits_once p
  repeat_bits : (p : ℕ) → any_writes (start_to numbers bus dialect).session.core.windows repeated p ≡ bits_once p
  after_attempt : (after bus (start_to numbers bus dialect) (attempt_words abandoned)).memory ≡ tried
  after_repeat : (after bus (start_to numbers bus dialect) (attempt_words abandoned ++ all_words repeated)).memory ≡ meant
  never_tried : (after bus (start_to numbers bus dialect) (all_words repeated)).memory ≡ meant
  counted : (totals (after bus (start_to numbers bus dialect) (all_words repeated))).now ≡ one_load dialect
  numbered : (totals (after bus (start_to numbers bus dialect) (all_words repeated))).next ≡ fourth numbers
  unasked : (totals (start_to numbers bus dialect)).asked ≡ false
  start_map : sum_of (start_to numbers bus dialect).session.core.windows ≡ 8
  untouched : (start_to numbers bus dialect).memory ≡ before

computed : (numbers : Bool) (bus : Bus) (dialect : Dialect) → Computed numbers bus dialect
unfolding bit join with_field within byte number bytes_at put fits field_fits field_written pick feeding.shifted feeding.fed_bit feeding.fed
    feeding.fed_words has_right inside grants_range place_from place_of sum_of sound_window all_sound rising good_map kept_of rows row_serves found_in
    looked_up multiple range_judged load_judged loaded unit_of units_judged field_shape shape_of too_wide setting_done setting_memory is_past pushed carried
    is_start
    unit_step
    after_command awaited acknowledging word_step opened_by numbering_from following start_answer start_to fed all_words answers started_to effect_of
    some_writes
computed true Bytes Am17xx = search
computed true Bytes Dm648 = search
computed true Halves Am17xx = search
computed true Halves Dm648 = search
computed false Bytes Am17xx = search
computed false Bytes Dm648 = search
computed false Halves Am17xx = search
computed false Halves Dm648 = search

-- and of two attempts
record ComputedTwice (bus : Bus) (dialect : Dialect) : Type 0 where
  refused_twice : refusals bus (start bus dialect) (attempts_words twice) ≡ quiet bus (attempts_words twice)
  after_twice : refusals bus (after bus (start bus dialect) (attempts_words twice)) (all_words repeated) ≡ quiet bus (all_words repeated)
  twice_bits : (p : ℕ) → any_writes (start bus dialect).session.core.windows (attempts_pieces twice) p ≡ bits_twice p
  after_both : (after bus (start bus dialect) (attempts_words twice)).memory ≡ 0x4F ∷ 0x0F ∷ 0 ∷ 0 ∷ 1 ∷ 2 ∷ 3 ∷ 0xAA ∷ []

computed_twice : (bus : Bus) (dialect : Dialect) → ComputedTwice bus dialect
unfolding bit join with_field within byte number bytes_at put fits field_fits field_written pick feeding.shifted feeding.fed_bit feeding.fed
    feeding.fed_words has_right inside grants_range place_from place_of sum_of sound_window all_sound rising good_map kept_of rows row_serves found_in
    looked_up multiple range_judged load_judged loaded unit_of units_judged field_shape shape_of too_wide setting_done setting_memory is_past pushed carried
    is_start
    unit_step
    after_command awaited acknowledging word_step opened_by numbering_from following start_answer start_to fed all_words attempts_words attempts_pieces answers
    started_to
    effect_of some_writes
computed_twice Bytes Am17xx = search
computed_twice Bytes Dm648 = search
computed_twice Halves Am17xx = search
computed_twice Halves Dm648 = search

-- how many sections were counted
abbrev sections_of : State → ℕ
sections_of x = (totals x).now.sections.0

-- and of the counterexamples, under one opening of the definitions
record Against : Type 0 where
  after_missing : refusals Bytes (after Bytes (start Bytes Am17xx) (attempt_words abandoned)) (all_words missing) ≡ quiet Bytes (all_words missing)
  bit_left : eqb (get_or (after Bytes (start Bytes Am17xx) (attempt_words abandoned ++ all_words missing)).memory 0 0)
      (get_or (after Bytes (start Bytes Am17xx) (all_words missing)).memory 0 0) ≡ false
  awaits_middle : Awaits middle
  register_middle : eqb (checksum middle) 0 ≡ false
  level_middle : Level (totals middle)
  unnumbered_middle : (totals middle).next ≡ 0
  settled_middle : (totals middle).asked ≡ false
  middle_tried : refusals Bytes middle (attempt_words nothing) ≡ quiet Bytes (attempt_words nothing)
  after_middle : refusals Bytes (after Bytes middle (attempt_words nothing)) (all_words repeated) ≡ quiet Bytes (all_words repeated)
  register_lost : eqb (checksum (after Bytes middle (attempt_words nothing ++ all_words repeated))) (checksum (after Bytes middle (all_words repeated))) ≡ false
  requested_tried : refusals Bytes requested (attempt_words nothing) ≡ quiet Bytes (attempt_words nothing)
  after_requested : refusals Bytes (after Bytes requested (attempt_words nothing)) (all_words repeated) ≡ quiet Bytes (all_words repeated)
  awaits_requested : Awaits requested
  rewound_requested : checksum requested ≡ 0
  level_requested : Level (totals requested)
  total_lost : eqb (sections_of (after Bytes requested (attempt_words nothing
      ++ all_words repeated))) (sections_of (after Bytes requested (all_words repeated)))
      ≡ false
  awaits_unmarked : Awaits unmarked
  rewound_unmarked : checksum unmarked ≡ 0
  settled_unmarked : (totals unmarked).asked ≡ false
  unmarked_tried : refusals Bytes unmarked (attempt_words nothing) ≡ quiet Bytes (attempt_words nothing)
  after_unmarked : refusals Bytes (after Bytes unmarked (attempt_words nothing)) (all_words repeated) ≡ quiet Bytes (all_words repeated)
  mark_lost : eqb (sections_of (after Bytes unmarked (attempt_words nothing ++ all_words repeated))) (sections_of (after Bytes unmarked (all_words repeated)))
      ≡ false
  awaits_set : Awaits set_once
  rewound_set : checksum set_once ≡ 0
  settled_set : (totals set_once).asked ≡ false
  marked_set : (totals set_once).now ≡ (totals set_once).mark
  set_tried : refusals Bytes set_once (attempt_words nothing) ≡ quiet Bytes (attempt_words nothing)
  after_set : refusals Bytes (after Bytes set_once (attempt_words nothing)) (all_words repeated) ≡ quiet Bytes (all_words repeated)
  number_lost : eqb (totals (after Bytes set_once (attempt_words nothing ++ all_words repeated))).next (totals (after Bytes set_once (all_words repeated))).next
      ≡ false
  settled_started : (totals (started Bytes Am17xx)).asked ≡ false
  started_tried : refusals Bytes (started Bytes Am17xx) (attempt_words nothing) ≡ quiet Bytes (attempt_words nothing)
  acknowledged_one : (after Bytes (started Bytes Am17xx) (attempt_words nothing ++ [])).session.core.begun ≡ true
  acknowledged_none : (after Bytes (started Bytes Am17xx) []).session.core.begun ≡ false
  short_at_start : AtStart short
  short_refused : heard Bytes short (start_unit Bytes) ≡ record { refusal = Memory; reply = silence; event = Nothing }

against : Against
unfolding bit join with_field within byte number bytes_at put fits field_fits field_written pick feeding.shifted feeding.fed_bit feeding.fed
    feeding.fed_words has_right inside grants_range place_from place_of sum_of sound_window all_sound rising good_map kept_of rows row_serves found_in
    looked_up multiple range_judged load_judged loaded unit_of units_judged field_shape shape_of too_wide setting_done setting_memory is_past pushed carried
    is_start
    unit_step
    after_command awaited acknowledging word_step opened_by numbering_from following start_to fed all_words answers middle requested unmarked set_once
    started_to
    short all_small
against = record {
  after_missing = refl;
  bit_left = refl;
  awaits_middle = record {
    running = refl;
    lent = eight refl refl;
    bytes = bytes_by (0x7F ∷ 0 ∷ 0 ∷ 0 ∷ 1 ∷ 2 ∷ 3 ∷ 0xAA ∷ []) refl;
    started = refl;
    fresh = (refl, refl);
    opcode = refl;
  };
  register_middle = refl;
  level_middle = (refl, refl);
  unnumbered_middle = refl;
  settled_middle = refl;
  middle_tried = refl;
  after_middle = refl;
  register_lost = refl;
  requested_tried = refl;
  after_requested = refl;
  awaits_requested = record {
    running = refl;
    lent = eight refl refl;
    bytes = bytes_by (0x7F ∷ 0 ∷ 0 ∷ 0 ∷ 1 ∷ 2 ∷ 3 ∷ 0xAA ∷ []) refl;
    started = refl;
    fresh = (refl, refl);
    opcode = refl;
  };
  rewound_requested = refl;
  level_requested = (refl, refl);
  total_lost = refl;
  awaits_unmarked = record {
    running = refl;
    lent = eight refl refl;
    bytes = bytes_by (0x7F ∷ 0 ∷ 0 ∷ 0 ∷ 1 ∷ 2 ∷ 3 ∷ 0xAA ∷ []) refl;
    started = refl;
    fresh = (refl, refl);
    opcode = refl;
  };
  rewound_unmarked = refl;
  settled_unmarked = refl;
  unmarked_tried = refl;
  after_unmarked = refl;
  mark_lost = refl;
  awaits_set = record {
    running = refl;
    lent = eight refl refl;
    bytes = bytes_by (0x2F ∷ 0 ∷ 0 ∷ 0 ∷ 0xAA ∷ 0xAA ∷ 0xAA ∷ 0xAA ∷ []) refl;
    started = refl;
    fresh = (refl, refl);
    opcode = refl;
  };
  rewound_set = refl;
  settled_set = refl;
  marked_set = refl;
  set_tried = refl;
  after_set = refl;
  number_lost = refl;
  settled_started = refl;
  started_tried = refl;
  acknowledged_one = refl;
  acknowledged_none = refl;
  short_at_start = record { running = refl; before = refl; fresh = refl };
  short_refused = refl;
}

-- units lead there from an opening, and the attempts begin just after the start unit and just after an Enable
reached : (numbers : Bool) (bus : Bus) (dialect : Dialect) (m units : List ℕ) → Reached bus (since_opening numbers bus dialect m units).session
reached numbers bus dialect m units =
    fed_reached bus (record { session = (opened_to numbers bus dialect 1 windows).session; memory = m }) units (opened numbers dialect 1 windows)

started_after : (bus : Bus) (dialect : Dialect) → JustAfter bus (started bus dialect).session
unfolding started_to fed
started_after bus dialect = after-start before (start_unit bus) (opened true dialect 1 windows) (computed true bus dialect).answered

-- on eight bytes
before_bytes : AreBytes before
unfolding all_small
before_bytes = bytes_by before refl

eight_whole : (x : State) → x.memory ≡ before → sum_of x.session.core.windows ≡ 8 → LentWhole x
eight_whole x same long = record { lent = eight (ap length same) long; bytes = subst AreBytes (sym same) before_bytes }

started_whole : (numbers : Bool) (bus : Bus) (dialect : Dialect) → LentWhole (started_to numbers bus dialect)
started_whole numbers bus dialect =
    eight_whole (started_to numbers bus dialect) (computed numbers bus dialect).started_memory (computed numbers bus dialect).started_map

pub start_whole : (numbers : Bool) (bus : Bus) (dialect : Dialect) → LentWhole (start_to numbers bus dialect)
start_whole numbers bus dialect = eight_whole (start_to numbers bus dialect) (computed numbers bus dialect).untouched (computed numbers bus dialect).start_map

pub start_after : (numbers : Bool) (bus : Bus) (dialect : Dialect) → JustAfter bus (start_to numbers bus dialect).session
unfolding start_to started_to fed
start_after numbers bus dialect =
    ((beginnings bus).sent_whole (started_to numbers bus dialect) (reached numbers bus dialect before (start_unit bus ∷ [])) (started_whole numbers bus dialect)
    (computed numbers bus dialect).idle).0

-- the attempts, and what follows
abandoned_sendable : AllSendable abandoned.pieces
abandoned_sendable = sendable 0x00060403 2 0xF 0xEE030201 (lit< tt) (lit< tt) (lit< tt) (lit< tt)

twice_sendable : AllSendable (attempts_pieces twice)
unfolding attempts_pieces AllSendable
twice_sendable = (
  abandoned_sendable.0,
  (abandoned_sendable.1.0, (abandoned_sendable.1.1.0, (((lit< tt, (lit< tt, (lit< tt, (lit< tt, (lit< tt, tt))))), tt), tt))),
)

repeat_sendable : (field : ℕ) → field < 2 ^ 32 → AllSendable (sent field 1 2 0xEE332211)
repeat_sendable field h = sendable field 1 2 0xEE332211 h (lit< tt) (lit< tt) (lit< tt)

-- no Request stands where the attempts begin
begins_unasked : (numbers : Bool) (bus : Bus) (dialect : Dialect) (attempt : List ℕ) → NotAlone (start_to numbers bus dialect) attempt
begins_unasked numbers bus dialect attempt stands = absurd (true≢false (sym stands ∙ (computed numbers bus dialect).unasked))

-- the attempt and its repeat write the same bits
pub worked : (numbers : Bool) (bus : Bus) (dialect : Dialect) → Worked numbers bus dialect
worked numbers bus dialect =
    let x = start_to numbers bus dialect in
    let by = computed numbers bus dialect in
    let retried : Retried bus x (attempt_words abandoned) abandoned.pieces repeated =
    record {
      begins = (beginnings bus).begins x (start_after numbers bus dialect) (start_whole numbers bus dialect);
      not_alone = begins_unasked numbers bus dialect (attempt_words abandoned);
      accepted = record {
        sendable = (abandoned_sendable, repeat_sendable 0x00060403 (lit< tt));
        attempt_accepted = none_refused_by bus x (all_units bus (attempt_words abandoned)) by.refused_tried;
        following_accepted = none_refused_by bus (after bus x (attempt_words abandoned)) (all_units bus (all_words repeated)) by.after_tried;
      };
      covered = λ p h. by.repeat_bits p ∙ sym (by.attempt_bits p) ∙ h;
    } in
    let no_trace = retries_leave_no_trace bus x abandoned _ _ retried in
    record {
      just_after = start_after numbers bus dialect;
      whole = start_whole numbers bus dialect;
      retried = retried;
      no_trace = no_trace;
      after_attempt = by.after_attempt;
      after_repeat = by.after_repeat;
      never_tried = by.never_tried;
      counted = ap (λ (y : State). (totals y).now) no_trace.same_state ∙ by.counted;
      numbered = ap (λ (y : State). (totals y).next) no_trace.same_state ∙ by.numbered;
    }

-- so do both attempts
pub worked_twice : (bus : Bus) (dialect : Dialect) → WorkedTwice bus dialect
worked_twice bus dialect =
    let x = start bus dialect in
    let by = computed true bus dialect in
    let again = computed_twice bus dialect in
    let retried : Retried bus x (attempts_words twice) (attempts_pieces twice) repeated =
    record {
      begins = (beginnings bus).begins x (start_after true bus dialect) (start_whole true bus dialect);
      not_alone = begins_unasked true bus dialect (attempts_words twice);
      accepted = record {
        sendable = (twice_sendable, repeat_sendable 0x00060403 (lit< tt));
        attempt_accepted = none_refused_by bus x (all_units bus (attempts_words twice)) again.refused_twice;
        following_accepted = none_refused_by bus (after bus x (attempts_words twice)) (all_units bus (all_words repeated)) again.after_twice;
      };
      covered = λ p h. by.repeat_bits p ∙ sym (no_more (within 4 3 p) (within 8 4 p) (within 32 24 p)) ∙ sym (again.twice_bits p) ∙ h;
    } in
    let no_trace = many_retries_leave_no_trace bus x twice _ _ retried in
    record {
      retried = retried;
      no_trace = no_trace;
      after_attempts = again.after_both;
      after_repeat = ap (λ (y : State). y.memory) no_trace.same_state ∙ by.never_tried;
      counted = ap (λ (y : State). (totals y).now) no_trace.same_state ∙ by.counted;
      numbered = ap (λ (y : State). (totals y).next) no_trace.same_state ∙ by.numbered ∙ chosen _ _ _ refl;
    }

-- bit 6 of the first byte
pub one_bit_missed : OneBitMissed
one_bit_missed =
    record {
      begins = (beginnings Bytes).begins (start Bytes Am17xx) (start_after true Bytes Am17xx) (start_whole true Bytes Am17xx);
      not_alone = begins_unasked true Bytes Am17xx (attempt_words abandoned);
      accepted = record {
        sendable = (abandoned_sendable, repeat_sendable 0x00050403 (lit< tt));
        attempt_accepted = none_refused_by Bytes (start Bytes Am17xx) (all_units Bytes (attempt_words abandoned)) (computed true Bytes Am17xx).refused_tried;
        following_accepted = none_refused_by Bytes (after Bytes (start Bytes Am17xx) (attempt_words abandoned)) (all_units Bytes (all_words missing))
            against.after_missing;
      };
      trace = λ none. eqb-false _ _ against.bit_left (ap (λ (x : State). get_or x.memory 0 0) none.same_state);
    }

-- the checksum
pub in_the_middle : InTheMiddle
unfolding AllSendable some_writes
in_the_middle =
    record {
      awaits = against.awaits_middle;
      not_rewound = eqb-false _ _ against.register_middle;
      level = against.level_middle;
      unnumbered = against.unnumbered_middle;
      not_alone = λ stands. absurd (true≢false (sym stands ∙ against.settled_middle));
      accepted = record {
        sendable = (tt, repeat_sendable 0x00060403 (lit< tt));
        attempt_accepted = none_refused_by Bytes middle (all_units Bytes (attempt_words nothing)) against.middle_tried;
        following_accepted = none_refused_by Bytes (after Bytes middle (attempt_words nothing)) (all_units Bytes (all_words repeated)) against.after_middle;
      };
      covered = λ p h. absurd (false≢true h);
      trace = λ none. eqb-false _ _ against.register_lost (ap checksum none.same_state);
    }

-- a section
pub start_over_alone : StartOverAlone
unfolding AllSendable some_writes
start_over_alone =
    record {
      begins = record { awaits = against.awaits_requested; rewound = against.rewound_requested; level = against.level_requested };
      accepted = record {
        sendable = (tt, repeat_sendable 0x00060403 (lit< tt));
        attempt_accepted = none_refused_by Bytes requested (all_units Bytes (attempt_words nothing)) against.requested_tried;
        following_accepted = none_refused_by Bytes (after Bytes requested (attempt_words nothing)) (all_units Bytes (all_words repeated))
            against.after_requested;
      };
      covered = λ p h. absurd (false≢true h);
      trace = λ none. eqb-false _ _ against.total_lost (ap sections_of none.same_state);
    }

pub not_level : NotLevel
unfolding AllSendable some_writes
not_level =
    record {
      awaits = against.awaits_unmarked;
      rewound = against.rewound_unmarked;
      settled = against.settled_unmarked;
      accepted = record {
        sendable = (tt, repeat_sendable 0x00060403 (lit< tt));
        attempt_accepted = none_refused_by Bytes unmarked (all_units Bytes (attempt_words nothing)) against.unmarked_tried;
        following_accepted = none_refused_by Bytes (after Bytes unmarked (attempt_words nothing)) (all_units Bytes (all_words repeated)) against.after_unmarked;
      };
      covered = λ p h. absurd (false≢true h);
      trace = λ none. eqb-false _ _ against.mark_lost (ap sections_of none.same_state);
    }

-- a number
pub number_not_level : NumberNotLevel
unfolding AllSendable some_writes
number_not_level =
    record {
      awaits = against.awaits_set;
      rewound = against.rewound_set;
      settled = against.settled_set;
      marked = against.marked_set;
      accepted = record {
        sendable = (tt, repeat_sendable 0x00060403 (lit< tt));
        attempt_accepted = none_refused_by Bytes set_once (all_units Bytes (attempt_words nothing)) against.set_tried;
        following_accepted = none_refused_by Bytes (after Bytes set_once (attempt_words nothing)) (all_units Bytes (all_words repeated)) against.after_set;
      };
      covered = λ p h. absurd (false≢true h);
      trace = λ none. eqb-false _ _ against.number_lost (ap (λ (x : State). (totals x).next) none.same_state);
    }

-- whether an opcode has been acknowledged
pub nothing_follows : NothingFollows
unfolding AllSendable all_words NoneRefused some_writes
nothing_follows =
    record {
      just_after = started_after Bytes Am17xx;
      begins = (beginnings Bytes).begins (started Bytes Am17xx) (started_after Bytes Am17xx) (started_whole true Bytes Am17xx);
      not_alone = λ stands. absurd (true≢false (sym stands ∙ against.settled_started));
      accepted = record {
        sendable = (tt, tt);
        attempt_accepted = none_refused_by Bytes (started Bytes Am17xx) (all_units Bytes (attempt_words nothing)) against.started_tried;
        following_accepted = tt;
      };
      covered = λ p h. absurd (false≢true h);
      trace = λ none.
          false≢true
          (sym against.acknowledged_none ∙ sym (ap (λ (x : State). x.session.core.begun) none.same_state) ∙ against.acknowledged_one);
    }

-- the length of memory
pub memory_too_short : MemoryTooShort
unfolding short fed
memory_too_short = record { reached = opened true Am17xx 1 windows; at-start = against.short_at_start; refused = against.short_refused }

-- the memory before the attempt: the start unit is refused, then answered on zeros
unfoldable answered_there : State
answered_there = fed Bytes (record { session = (next Bytes short (start_unit Bytes)).session; memory = replicate 8 0 }) (start_unit Bytes ∷ [])

answered_reached : Reached Bytes answered_there.session
unfolding answered_there short fed
answered_reached =
    fed_reached Bytes (record { session = (next Bytes short (start_unit Bytes)).session; memory = replicate 8 0 }) (start_unit Bytes ∷ [])
    (stepped shorter (start_unit Bytes) (opened true Am17xx 1 windows))

record Elsewhere : Type 0 where
  idle : Idle answered_there
  whole : LentWhole answered_there
  same_session : elsewhere.session ≡ (start Bytes Am17xx).session
  other_memory : elsewhere.memory ≡ replicate 8 0

elsewhere_computed : Elsewhere
unfolding byte pick sum_of sound_window all_sound rising good_map kept_of rows row_serves found_in looked_up pushed carried is_start unit_step acknowledging
    word_step
    opened_by numbering_from start_to fed short elsewhere answered_there all_small
elsewhere_computed = record {
  idle = record { running = refl; started = refl; fresh = refl; opcode = refl };
  whole = record { lent = eight refl refl; bytes = bytes_by (replicate 8 0) refl };
  same_session = refl;
  other_memory = refl;
}

pub lent_otherwise : LentOtherwise
unfolding elsewhere answered_there fed
lent_otherwise =
    record {
      just_after = ((beginnings Bytes).sent_whole answered_there answered_reached elsewhere_computed.whole elsewhere_computed.idle).0;
      same_session = elsewhere_computed.same_session;
      other_memory = elsewhere_computed.other_memory;
    }

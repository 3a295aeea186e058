-- The worked instance of each call: what the calls come to is computed, and that the premises are met is that of the session's own instance, for the session
-- of the call is that one.
use Prim.Native.Nat.{ℕ}
use mathlib.Core.Bool.{Bool, true, false}
use mathlib.Core.List.{List, ◌++◌}
use mathlib.Core.Path.{◌≡◌, refl, sym, subst}
use lib.Dec.{eqb, lit≤}
use lib.ListN.{length}
use borrow.Author.Tests.{eqb-false}
use Rattle.words.specs.rules.Bits.{bit, join, with_field, within}
use Rattle.words.specs.rules.Bytes.{byte, number, bytes_at, word_at, put, fits, field_fits, field_written}
use Rattle.words.specs.rules.Choice.{pick}
use Rattle.checksum.specs.rules.Checksum as feeding
use Rattle.windows.specs.rules.Map.{sound_window, all_sound, rising, good_map, kept_of}
use Rattle.windows.specs.rules.Window.{has_right, inside, grants_range, place_from, place_of, sum_of, some}
use Rattle.opcodes.specs.rules.Answers.{accepted}
use Rattle.opcodes.specs.rules.Opcodes.{rows, row_serves, found_in, looked_up}
use Rattle.opcodes.specs.declared.Dialect.{Dialect}
use Rattle.opcodes.specs.declared.Dialect.TheVariants.{Am17xx, Dm648}
use Rattle.ledger.specs.rules.Totals.{is_past, following}
use Rattle.commands.specs.rules.Commands.{multiple, range_judged, load_judged, unit_of, units_judged, field_shape, shape_of, too_wide, setting_done}
use Rattle.commands.specs.rules.Commands.{setting_memory}
use Rattle.stores.specs.rules.Stores.{loaded}
use Rattle.bit_stamps.specs.rules.Stamps.{is_told, stamped_from, entry_at}
use Rattle.bit_choice.specs.rules.Chosen.{addresses_from, may_be_chosen, among, all_fit, good_choice, word_place, places_of, choice_of}
use Rattle.sent.specs.rules.Bus.{all_units, halves_of, units_fed, pushed}
use Rattle.sent.specs.rules.Feeding.{State, fed, answers, replied, first_of, first_refused}
use Rattle.sent.specs.rules.Line.{carried, start_answer, is_start, unit_step}
use Rattle.sent.specs.rules.Opening.{opened_by, numbering_from}
use Rattle.sent.specs.declared.Bus.TheVariants.{Bytes, Halves}
use Rattle.machine_answers.specs.rules.Answers.{after as after_command}
use Rattle.machine_answers.specs.rules.Replies.{one_word, word_then, acknowledged}
use Rattle.machine_loads.specs.rules.Loads.{awaited}
use Rattle.machine.specs.rules.Machine.{acknowledging, word_step}
use Rattle.bit_watch.specs.rules.Watched.{entries_after}
use Rattle.bench_sessions.specs.rules.Feeding.{fed_from, roomy, refused_before, session_from, line_session}
use Rattle.bench_sessions.specs.rules.Map.{window_at, windows_of, count_of}
use Rattle.bench_sessions.specs.rules.Numbers.{numbers_from, choice_on, barred, watched_from, line_of, dialect_of, numbered_opening, bits_session}
use Rattle.law_retries.specs.claims.Example.{before, start_to, abandoned, repeated, meant}
use Rattle.law_retries.specs.claims.Pieces.{all_words}
use Rattle.law_retries.specs.claims.Retries.{attempt_words, Retried}
use Rattle.law_retries.proofs.Instance.{worked}
use Rattle.law_calls.specs.claims.Calls.{Call, plain, on_line, result_of, bus_of, opening_of, Taken, Feeds, count_in}
use Rattle.law_calls.specs.claims.Traceless.{fed_around, state_there, replies_before, replies_to, WholeBefore}
use Rattle.law_calls.specs.claims.Worked.{map, first_word, earlier, lent_to, room_for, worked_of, trying_first, at_once, said, last_said, with_numbers}
use Rattle.law_calls.specs.claims.Worked.{CallWorked, CallsWorked, stray, stray_room, StrayByte}
use Rattle.law_calls.proofs.Traceless.{calls_leave_no_trace}

-- what is computed of a call
record Computed (call : Call) (numbers : Bool) (dialect : Dialect) (with without number : ℕ) : Type 0 where
  there : state_there call (lent_to (bus_of call)) ≡ start_to numbers (bus_of call) dialect
  whole : WholeBefore call (lent_to (bus_of call))
  begins : accepted (refused_before (bus_of call) (opening_of call map) (length before) (length (fed_around (lent_to (bus_of call)) trying_first))
      (length (room_for (bus_of call) trying_first))) ≡ true
  begins_at_once : accepted (refused_before (bus_of call) (opening_of call map) (length before) (length (fed_around (lent_to (bus_of call)) at_once))
      (length (room_for (bus_of call) at_once))) ≡ true
  value : (worked_of call trying_first).session.value ≡ with
  value_at_once : (worked_of call at_once).session.value ≡ without
  memory : (worked_of call trying_first).session.memory ≡ meant
  memory_at_once : (worked_of call at_once).session.memory ≡ meant
  replies : last_said with (worked_of call trying_first).session ≡ said
  replies_at_once : last_said without (worked_of call at_once).session ≡ said
  numbered : entry_at (worked_of call trying_first).numbers 0 6 ≡ number
  numbered_at_once : entry_at (worked_of call at_once).numbers 0 6 ≡ number

-- that nothing bars a session with numbers
abbrev Unbarred : ℕ → ℕ → Type 0
Unbarred line dialect =
    accepted (barred (numbered_opening line dialect map).refusal (choice_on map first_word) (length earlier) (length before)
    (sum_of (numbered_opening line dialect map).session.core.windows)) ≡ true

-- the replies that there would be in spite of a stray byte
abbrev stray_replies : List ℕ
stray_replies =
    replies_before (plain Halves Am17xx) stray
    ++ (replies_to Halves (state_there (plain Halves Am17xx) stray) (all_units Halves (attempt_words abandoned))
    ++ replies_to Halves (state_there (plain Halves Am17xx) stray) (all_units Halves (all_words repeated) ++ units_fed Halves stray.after))

-- and of all calls
record AllComputed : Type 0 where
  by_bytes : Computed (plain Bytes Am17xx) false Am17xx 55 31 0
  by_halves : Computed (plain Halves Am17xx) false Am17xx 50 26 0
  dm648_by_bytes : Computed (on_line 0 Dm648) false Dm648 55 31 0
  dm648_by_halves : Computed (on_line 1 Dm648) false Dm648 50 26 0
  numbers_by_bytes : Computed (with_numbers 0 0) true Am17xx 55 31 1
  numbers_by_halves : Computed (with_numbers 1 0) true Am17xx 50 26 1
  dm648_numbers_by_bytes : Computed (with_numbers 0 1) true Dm648 55 31 1
  dm648_numbers_by_halves : Computed (with_numbers 1 1) true Dm648 50 26 1
  unbarred : Unbarred 0 0 × Unbarred 1 0 × Unbarred 0 1 × Unbarred 1 1
  stray_there : state_there (plain Halves Am17xx) stray ≡ start_to false Halves Am17xx
  stray_begins : accepted (refused_before Halves (opening_of (plain Halves Am17xx) map) (length before) (length (fed_around stray trying_first))
      (length (stray_room trying_first))) ≡ true
  stray_at_once : accepted (refused_before Halves (opening_of (plain Halves Am17xx) map) (length before) (length (fed_around stray at_once))
      (length (stray_room at_once))) ≡ true
  unacknowledged : eqb (count_in (result_of (plain Halves Am17xx) map before (fed_around stray trying_first) (stray_room trying_first)).session)
      (length stray_replies) ≡ false

all_computed : AllComputed
unfolding bit join with_field within byte number bytes_at word_at put fits field_fits field_written pick feeding.shifted feeding.fed_bit feeding.fed
    feeding.fed_words has_right inside grants_range place_from place_of sum_of sound_window all_sound rising good_map kept_of rows row_serves found_in
    looked_up multiple
    range_judged load_judged loaded unit_of units_judged field_shape shape_of too_wide setting_done setting_memory is_past following is_told stamped_from
    entry_at
    addresses_from some may_be_chosen among all_fit good_choice word_place places_of choice_of halves_of pushed carried start_answer is_start unit_step
    after_command
    awaited one_word word_then acknowledged acknowledging word_step opened_by numbering_from fed answers replied first_of first_refused entries_after fed_from
    roomy
    refused_before session_from line_session window_at windows_of count_of numbers_from barred watched_from line_of dialect_of bits_session start_to all_words
all_computed =
    record {
      by_bytes = search;
      by_halves = search;
      dm648_by_bytes = search;
      dm648_by_halves = search;
      numbers_by_bytes = search;
      numbers_by_halves = search;
      dm648_numbers_by_bytes = search;
      dm648_numbers_by_halves = search;
      unbarred = (refl, refl, refl, refl);
      stray_there = refl;
      stray_begins = refl;
      stray_at_once = refl;
      unacknowledged = refl;
    }

-- the premises of the session's own instance
worked_by : {call : Call} {numbers : Bool} {dialect : Dialect} {with without number : ℕ} → Taken call map before
    → Computed call numbers dialect with without number → CallWorked call with without number
worked_by {call} {numbers} {dialect} taken c =
    let bus = bus_of call in
    let retried : Retried bus (state_there call (lent_to bus)) (attempt_words abandoned) abandoned.pieces repeated =
    subst (λ (x : State). Retried bus x (attempt_words abandoned) abandoned.pieces repeated) (sym c.there) (worked numbers bus dialect).retried in
    record {
      retried = retried;
      feeds = record { taken = taken; begins = c.begins };
      feeds_at_once = record { taken = taken; begins = c.begins_at_once };
      no_trace = calls_leave_no_trace.one call (lent_to bus) abandoned _ _ c.whole retried;
      value = c.value;
      value_at_once = c.value_at_once;
      memory = c.memory;
      memory_at_once = c.memory_at_once;
      replies = c.replies;
      replies_at_once = c.replies_at_once;
      numbered = c.numbered;
      numbered_at_once = c.numbered_at_once;
    }

pub calls_worked : CallsWorked
calls_worked =
    record {
      by_bytes = worked_by tt all_computed.by_bytes;
      by_halves = worked_by tt all_computed.by_halves;
      dm648_by_bytes = worked_by (lit≤ tt) all_computed.dm648_by_bytes;
      dm648_by_halves = worked_by (lit≤ tt) all_computed.dm648_by_halves;
      numbers_by_bytes = worked_by (lit≤ tt, lit≤ tt, all_computed.unbarred.0) all_computed.numbers_by_bytes;
      numbers_by_halves = worked_by (lit≤ tt, lit≤ tt, all_computed.unbarred.1) all_computed.numbers_by_halves;
      dm648_numbers_by_bytes = worked_by (lit≤ tt, lit≤ tt, all_computed.unbarred.2) all_computed.dm648_numbers_by_bytes;
      dm648_numbers_by_halves = worked_by (lit≤ tt, lit≤ tt, all_computed.unbarred.3) all_computed.dm648_numbers_by_halves;
    }

-- the count of replies
pub stray_byte : StrayByte
stray_byte =
    let feeds : Feeds (plain Halves Am17xx) map before (fed_around stray trying_first) (stray_room trying_first) =
    record { taken = tt; begins = all_computed.stray_begins } in
    let feeds_at_once : Feeds (plain Halves Am17xx) map before (fed_around stray at_once) (stray_room at_once) =
    record { taken = tt; begins = all_computed.stray_at_once } in
    record {
      retried = subst (λ (x : State). Retried Halves x (attempt_words abandoned) abandoned.pieces repeated) (sym all_computed.stray_there)
          (worked false Halves Am17xx).retried;
      feeds = feeds;
      feeds_at_once = feeds_at_once;
      trace = λ none.
          eqb-false _ _ all_computed.unacknowledged (none (stray_room trying_first) (stray_room at_once) feeds feeds_at_once).with_replies.counted;
    }

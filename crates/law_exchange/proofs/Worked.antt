-- The instances, by computing the flash run and by the course; and the counterexamples, by computing up to where one of the two has ended.
use Prim.Native.Nat.{ℕ}
use mathlib.Core.Bool.{true}
use mathlib.Core.List.{List, [], ◌∷◌}
use mathlib.Core.Path.{◌≡◌, refl, ap, ◌∙◌}
use native.Mathlib.Omega.{arith}
use lib.Dec.{lit<, lit≤}
use Rattle.words.specs.rules.Bits.{bit, join}
use Rattle.words.specs.rules.Bytes.{byte, number, bytes_at, word_at, put}
use Rattle.words.specs.rules.Choice.{pick}
use Rattle.checksum.specs.rules.Checksum as feeding
use Rattle.windows.specs.rules.Map.{sound_window, all_sound, rising, good_map, kept_of}
use Rattle.windows.specs.rules.Window.{has_right, inside, grants_range, place_from, place_of, sum_of}
use Rattle.opcodes.specs.rules.Opcodes.{rows, row_serves, found_in, looked_up}
use Rattle.opcodes.specs.declared.Dialect.{Dialect}
use Rattle.opcodes.specs.declared.Dialect.TheVariants.{Am17xx, Dm648}
use Rattle.opcodes.specs.declared.Event.TheVariants.{Enter}
use Rattle.ledger.specs.rules.Totals.{is_past, is_other, following}
use Rattle.reading.specs.rules.Reading.{present, words_from, argument, read_at}
use Rattle.commands.specs.rules.Commands.{multiple, range_judged, load_judged, unit_of, units_judged, fill_judged, fill_done, entry_judged, close_done, target}
use Rattle.commands.specs.rules.Commands.{fill_memory, sought_from}
use Rattle.stores.specs.rules.Stores.{loaded, words_fed, load_fed, filled}
use Rattle.flash_session.specs.rules.Opening.{good_length, opened_by}
use Rattle.flash_session.specs.rules.Sessions.{counted_on, after}
use Rattle.flash.specs.rules.Step.{load_at, step_of}
use Rattle.flash_commands.specs.rules.Commands.{requested}
use Rattle.flash_runs.specs.rules.Events.{events_on, run_events, events_from}
use Rattle.flash_runs.specs.rules.Run.{goes_on, carried_on, run_of, ran_from}
use Rattle.machine_answers.specs.rules.Answers as machine
use Rattle.machine_commands.specs.rules.Performed.{echoing}
use Rattle.machine.specs.rules.Machine.{acknowledging, word_step}
use Rattle.machine_answers.specs.rules.Replies.{one_word, word_then, acknowledged}
use Rattle.sent.specs.rules.Bus.{pushed}
use Rattle.sent.specs.rules.Feeding.{fed, answers, replied, events_heard, first_of}
use Rattle.sent.specs.rules.Line.{start_answer, is_start, unit_step, carried}
use Rattle.sent.specs.rules.Opening as sent
use Rattle.sent.specs.declared.Bus.{Bus}
use Rattle.host_ear.specs.rules.Ear.{hearing, newest, ends_with, ends_with_checksum}
use Rattle.host_answers.specs.rules.Hosts as host
use Rattle.host_answers.specs.rules.Hosts.{heard, heard_all}
use Rattle.host_answers.specs.rules.Sendings.{is_part}
use Rattle.host_answers.specs.rules.Answers.{again, answered_by}
use Rattle.host_commands.specs.rules.Commands.{words_to}
use Rattle.host.specs.rules.Turn.{echo_heard, turned}
use Rattle.host_laws.proofs.HearingLaws.{all_small, bytes_by}
use Rattle.exchange.specs.rules.Exchange.{Talk, first_but_ended, onward, talked}
use Rattle.law_line.specs.claims.Line.{OnTheLine}
use Rattle.law_exchange.specs.claims.Course.{Premises, exchange_turns}
use Rattle.law_exchange.specs.claims.Worked.{windows, memory, image, Worked, entering, FlashEntersIt, begun, losing, unheard, another, Needed}
use Rattle.law_exchange.proofs.Course.{same_course}
use Rattle.law_exchange.proofs.Levels.{Over, host_over, loader_over, over_stays}
use Rattle.law_exchange.proofs.Scenes.{Scene, seen, seen_turns}

all-small : (dialect : Dialect) → all_small (image dialect) ≡ true
unfolding all_small byte
all-small Am17xx = refl
all-small Dm648 = refl

flash_it : FlashEntersIt
unfolding pick join number bytes_at word_at byte has_right inside grants_range place_from place_of sum_of sound_window all_sound rising good_map kept_of rows
    row_serves
    found_in looked_up is_past is_other multiple range_judged unit_of units_judged entry_judged close_done good_length counted_on present argument read_at
    after step_of
    opened_by goes_on carried_on run_of ran_from
flash_it = refl

-- the flash run of the instance
record Runs (dialect : Dialect) : Type 0 where
  retried : (ran_from (opened_by dialect 1 windows (image dialect) 1) memory (image dialect)).answer.session.retries ≡ 1
  events : events_from (opened_by dialect 1 windows (image dialect) 1) memory (image dialect) ≡ Enter 0x10800000 ∷ []
  loads : bytes_at (ran_from (opened_by dialect 1 windows (image dialect) 1) memory (image dialect)).memory 0x40 12
      ≡ 10 ∷ 0 ∷ 0 ∷ 0 ∷ 11 ∷ 0 ∷ 0 ∷ 0 ∷ 12 ∷ 0 ∷ 0 ∷ 0 ∷ []

runs : (dialect : Dialect) → Runs dialect
unfolding pick join number bytes_at word_at byte put has_right inside grants_range place_from place_of sum_of sound_window all_sound rising good_map kept_of
    rows row_serves
    found_in looked_up is_past is_other following multiple range_judged load_judged unit_of units_judged fill_judged fill_done entry_judged close_done target
    sought_from
    loaded good_length counted_on present words_from argument read_at after load_at requested step_of opened_by goes_on carried_on run_of ran_from events_on
    run_events
    events_from feeding.shifted feeding.fed_bit feeding.fed feeding.fed_words words_fed load_fed filled fill_memory bit
runs Am17xx = record { retried = refl; events = refl; loads = refl }
runs Dm648 = record { retried = refl; events = refl; loads = refl }

meets : (bus : Bus) (dialect : Dialect) → Premises bus dialect 1 windows memory (image dialect) 3 1 2
unfolding sound_window all_sound rising good_map kept_of sum_of pick
meets bus dialect =
    record { map = refl; lent = refl; bytes = bytes_by (image dialect) (all-small dialect); some = lit≤ tt; most = lit≤ tt; word = lit< tt }

pub worked : OnTheLine → (bus : Bus) (dialect : Dialect) → Worked bus dialect
worked line bus dialect =
    let ran = runs dialect in
    let enough_Turns = exchange_turns bus dialect 1 windows memory (image dialect) 3 1 2 in
    let course = same_course line bus dialect 1 windows memory (image dialect) 3 1 2 (meets bus dialect) enough_Turns (omega arith) in
    record {
      premises = meets bus dialect;
      retried = ran.retried;
      enters = course.events ∙ ran.events;
      loads = ap (λ (m : List ℕ). bytes_at m 0x40 12) course.memory ∙ ran.loads;
    }

-- a talk whose host has ended, or whose loader has, tells no more
over_tells : (lent : List ℕ) (t : Talk) → Over (seen t) → (n : ℕ) → (talked n t lent).events ≡ t.events
over_tells lent t over n = ap (λ (x : Scene). x.events) (seen_turns lent n t) ∙ (over_stays lent n (seen t) over).1

-- the talks of the counterexamples, as far as they go
record Spoiled : Type 0 where
  no_tries : (begun 0).host.ended ≡ true
  too_many : (begun 1001).host.ended ≡ true
  lost_ended : (losing (talked 5 (begun 3) entering)).host.ended ≡ true
  lost_events : (losing (talked 5 (begun 3) entering)).events ≡ []
  late_ended : (onward (unheard (talked 4 (begun 3) entering)) entering).loader.session.core.ended ≡ true
  late_events : (onward (unheard (talked 4 (begun 3) entering)) entering).events ≡ []
  changed_ended : (onward (talked 5 (begun 3) entering) another).host.ended ≡ true
  changed_events : (onward (talked 5 (begun 3) entering) another).events ≡ Enter 0x10800004 ∷ []

spoiled : Spoiled
unfolding pick join number bytes_at word_at byte has_right inside grants_range place_from place_of sum_of sound_window all_sound rising good_map kept_of rows
    row_serves
    found_in looked_up is_past is_other multiple range_judged unit_of units_judged entry_judged close_done good_length present argument read_at
    sent.opened_by start_answer is_start unit_step carried pushed fed answers replied events_heard first_of word_step machine.after machine.entered
    acknowledging
    echoing one_word word_then acknowledged hearing newest ends_with ends_with_checksum heard heard_all host.opened_by is_part again answered_by echo_heard
    words_to
    turned first_but_ended onward talked
spoiled =
    record {
      no_tries = refl;
      too_many = refl;
      lost_ended = refl;
      lost_events = refl;
      late_ended = refl;
      late_events = refl;
      changed_ended = refl;
      changed_events = refl;
    }

pub needed : Needed
needed =
    let s = spoiled in
    record {
      flash = flash_it;
      no_tries = λ n. over_tells entering (begun 0) (host_over s.no_tries) n;
      too_many = λ n. over_tells entering (begun 1001) (host_over s.too_many) n;
      lost = λ n. over_tells entering _ (host_over s.lost_ended) n ∙ s.lost_events;
      late = λ n. over_tells entering _ (loader_over s.late_ended) n ∙ s.late_events;
      changed = λ n. over_tells another _ (host_over s.changed_ended) n ∙ s.changed_events;
    }

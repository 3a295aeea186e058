-- The examples, by computing the flash runs and by the course of the exchange.
use Prim.Native.Nat.{ℕ, zero, suc, ◌+◌, ◌*◌, ◌≤◌, ◌<◌}
use mathlib.Core.Bool.{Bool, true, false, not, ◌&&◌, true≢false}
use mathlib.Core.List.{List, [], ◌∷◌}
use mathlib.Core.Logic.{◌≢◌}
use mathlib.Core.Path.{◌≡◌, refl, sym, ap, ◌∙◌, subst}
use native.Mathlib.Omega.{arith}
use lib.Dec.{ltb, leb, lit<, lit≤}
use lib.ListN.{length, get_or}
use borrow.Author.Tests.{lt-leb, ltb-true, ltb-false}
use Rattle.std.specs.declared.result.Result.{Result}
use Rattle.std.specs.declared.result.Result.TheVariants.{Ok, Err}
use Rattle.words.specs.rules.Bits.{bit, join, with_field}
use Rattle.words.specs.rules.Bytes.{byte, number, bytes_at, word_at, put, fits, field_fits, field_written}
use Rattle.words.specs.rules.Choice.{pick}
use Rattle.words.proofs.Choice.{chosen, by_test, both}
use Rattle.checksum.specs.rules.Checksum as feeding
use Rattle.windows.specs.rules.Map.{sound_window, all_sound, rising, good_map, kept_of}
use Rattle.windows.specs.rules.Window.{has_right, inside, grants_range, place_from, place_of, sum_of}
use Rattle.opcodes.specs.rules.Opcodes.{rows, row_serves, found_in, looked_up, with_words}
use Rattle.opcodes.specs.declared.Command.TheVariants.{SequentialRead}
use Rattle.opcodes.specs.declared.Dialect.{Dialect}
use Rattle.opcodes.specs.declared.Dialect.TheVariants.{Am17xx, Dm648}
use Rattle.opcodes.specs.declared.Event.TheVariants.{Wait, Enter}
use Rattle.opcodes.specs.declared.Mode.TheVariants.{Flash}
use Rattle.opcodes.specs.declared.Refusal.TheVariants as why
use Rattle.opcodes.specs.declared.Known.{Known}
use Rattle.ledger.specs.rules.Totals.{is_past, is_other, following}
use Rattle.reading.specs.rules.Reading.{present, words_from, argument, read_as, read_at, unread}
use Rattle.reading.specs.declared.Unread.{Unread}
use Rattle.commands.specs.rules.Commands.{multiple, range_judged, load_judged, unit_of, units_judged, fill_judged, fill_done, entry_judged, close_done, target}
use Rattle.commands.specs.rules.Commands.{fill_memory, sought_from, field_shape, shape_of, too_wide, setting_done, setting_memory}
use Rattle.stores.specs.rules.Stores.{loaded, words_fed, load_fed, filled}
use Rattle.flash_session.specs.rules.Opening.{good_length, opened_by}
use Rattle.flash_session.specs.rules.Sessions.{counted_on, after}
use Rattle.flash.specs.rules.Step.{load_at, step_of}
use Rattle.flash_commands.specs.rules.Commands.{requested}
use Rattle.flash_runs.specs.rules.Events.{events_on, run_events, events_from}
use Rattle.flash_runs.specs.rules.Run.{goes_on, carried_on, run_of, ran_from}
use Rattle.sent.specs.declared.Bus.{Bus}
use Rattle.sent.specs.declared.Bus.TheVariants.{Bytes}
use Rattle.host_commands.specs.rules.Commands.{by_role}
use Rattle.host_laws.proofs.HearingLaws.{all_small, bytes_by}
use Rattle.law_exchange.specs.claims.Commissioning.{plain, beyond, Agreed, elsewhere, ones, Kept}
use Rattle.law_exchange.specs.claims.Course.{Premises, exchange_turns}
use Rattle.law_exchange.specs.claims.Worked.{windows, memory, entering}
use Rattle.law_exchange.proofs.Exchange.{same_course}

-- the flash runs of the examples
record Runs (dialect : Dialect) : Type 0 where
  enters : (ran_from (opened_by dialect 1 windows (plain dialect) 0) memory (plain dialect)).answer.event ≡ Enter 0x10800000
  no_mismatch : (ran_from (opened_by dialect 1 windows (plain dialect) 0) memory (plain dialect)).answer.session.retries ≡ 0
  retried : (ran_from (opened_by dialect 1 windows (beyond dialect) 1) memory (beyond dialect)).answer.session.retries ≡ 1
  waits : events_from (opened_by dialect 1 windows (beyond dialect) 1) memory (beyond dialect) ≡ Wait 100 ∷ Wait 200 ∷ Enter 0x10800000 ∷ []
  set : bytes_at (ran_from (opened_by dialect 1 windows (beyond dialect) 1) memory (beyond dialect)).memory 0x20 4 ≡ 0xA5 ∷ 0 ∷ 0 ∷ 0 ∷ []
  plain_bytes : all_small (plain dialect) ≡ true
  beyond_bytes : all_small (beyond dialect) ≡ true

runs : (dialect : Dialect) → Runs dialect
unfolding pick join with_field number bytes_at word_at byte put fits field_fits field_written has_right inside grants_range place_from place_of sum_of
    sound_window
    all_sound rising good_map kept_of rows row_serves found_in looked_up is_past is_other following multiple range_judged load_judged unit_of units_judged
    fill_judged
    fill_done entry_judged close_done target sought_from field_shape shape_of too_wide setting_done setting_memory loaded good_length counted_on present
    words_from argument
    read_at after load_at requested step_of opened_by goes_on carried_on run_of ran_from events_on run_events events_from feeding.shifted feeding.fed_bit
    feeding.fed
    feeding.fed_words words_fed load_fed filled fill_memory bit all_small
runs Am17xx = record { enters = refl; no_mismatch = refl; retried = refl; waits = refl; set = refl; plain_bytes = refl; beyond_bytes = refl }
runs Dm648 = record { enters = refl; no_mismatch = refl; retried = refl; waits = refl; set = refl; plain_bytes = refl; beyond_bytes = refl }

-- is a command passed over by the host, as a Sequential Read is?
abbrev is_passed : Result Known Unread → Bool
is_passed (Err said) = false
is_passed (Ok f) = by_role f.command true false false false

-- none of the first n words of an image begins one
unfoldable none_of : ℕ → Dialect → List ℕ → Bool
none_of zero dialect image = true
none_of (suc n) dialect image = not (is_passed (read_at image (4 * n) dialect)) && none_of n dialect image

none_there : (n k : ℕ) (dialect : Dialect) (image : List ℕ) → k < n → none_of n dialect image ≡ true → is_passed (read_at image (4 * k) dialect) ≡ false
unfolding none_of
none_there zero k dialect image small e = absurd (omega arith)
none_there (suc n) k dialect image small e =
    let parts = both (not (is_passed (read_at image (4 * n) dialect))) (none_of n dialect image) e in
    by_test (ltb k n) (λ t. none_there n k dialect image (ltb-true k n t) parts.1)
    (λ t. subst (λ (j : ℕ). is_passed (read_at image (4 * j) dialect) ≡ false) (last t) (unsaid (is_passed (read_at image (4 * n) dialect)) parts.0))
  where
    last : ltb k n ≡ false → n ≡ k
    last t = same (ltb-false k n t)
      where
        same : n ≤ k → n ≡ k
        same above = omega arith

    unsaid : (t : Bool) → not t ≡ true → t ≡ false
    unsaid false e = refl
    unsaid true e = sym e

-- past its end an image has no command
past_end : (k n : ℕ) (dialect : Dialect) (image : List ℕ) → length image ≡ 4 * n → n ≤ k → is_passed (read_at image (4 * k) dialect) ≡ false
unfolding read_at present
past_end k n dialect image long past =
    ap is_passed (chosen (not (leb (4 * k + 4 * 1) (length image))) (Err (unread why.Missing 0))
    (read_as image (4 * k) (looked_up (word_at image (4 * k)) Flash dialect))
    (ap not (lt-leb (4 * k + 4 * 1) (length image) (omega arith))))

none_at_all : (n : ℕ) (dialect : Dialect) (image : List ℕ) → length image ≡ 4 * n → none_of n dialect image ≡ true
    → (k words : ℕ) → read_at image (4 * k) dialect ≢ Ok (with_words SequentialRead words)
none_at_all n dialect image long none k words e =
    true≢false
    (ap is_passed (sym e) ∙ by_test (ltb k n) (λ t. none_there n k dialect image (ltb-true k n t) none)
    (λ t. past_end k n dialect image long (ltb-false k n t)))

-- how many words the plain image has
abbrev words_in : Dialect → ℕ
words_in Am17xx = 17
words_in Dm648 = 19

record Plain (dialect : Dialect) : Type 0 where
  long : length (plain dialect) ≡ 4 * words_in dialect
  none : none_of (words_in dialect) dialect (plain dialect) ≡ true

plain_so : (dialect : Dialect) → Plain dialect
unfolding pick join number bytes_at word_at byte rows row_serves found_in looked_up present words_from read_at none_of
plain_so Am17xx = record { long = refl; none = refl }
plain_so Dm648 = record { long = refl; none = refl }

-- the premises of the exchange
meets : (bus : Bus) (dialect : Dialect) (image : List ℕ) (limit : ℕ) → all_small image ≡ true → Premises bus dialect 1 windows memory image 3 limit 2
unfolding sound_window all_sound rising good_map kept_of sum_of pick
meets bus dialect image limit small =
    record { map = refl; lent = refl; bytes = bytes_by image small; some = lit≤ tt; most = lit≤ tt; word = lit< tt }

pub agreed : (bus : Bus) (dialect : Dialect) → Agreed bus dialect
agreed bus dialect =
    let ran = runs dialect in
    let so = plain_so dialect in
    let premises = meets bus dialect (beyond dialect) 1 ran.beyond_bytes in
    let turns = exchange_turns bus dialect 1 windows memory (beyond dialect) 3 1 2 in
    let course = same_course bus dialect 1 windows memory (beyond dialect) 3 1 2 premises turns (omega arith) in
    record {
      commissioned =
          record {
            premises = meets bus dialect (plain dialect) 0 ran.plain_bytes;
            enters = ran.enters;
            no_mismatch = ran.no_mismatch;
            no_sequential_read = none_at_all (words_in dialect) dialect (plain dialect) so.long so.none;
          };
      premises = premises;
      retried = ran.retried;
      waits = course.events ∙ ran.waits;
      set = ap (λ (m : List ℕ). bytes_at m 0x20 4) course.memory ∙ ran.set;
    }

-- the flash runs of the image that enters at once
record Entries : Type 0 where
  enters : events_from (opened_by Am17xx 1 windows entering 0) memory entering ≡ Enter 0x10800000 ∷ []
  keeps : (ran_from (opened_by Am17xx 1 windows entering 0) memory entering).memory ≡ memory
  enters_not : events_from (opened_by Am17xx 1 elsewhere entering 0) memory entering ≡ []
  keeps_ones : (ran_from (opened_by Am17xx 1 windows entering 0) ones entering).memory ≡ ones
  small : all_small entering ≡ true

entries : Entries
unfolding pick join number bytes_at word_at byte has_right inside grants_range place_from place_of sum_of sound_window all_sound rising good_map kept_of rows
    row_serves
    found_in looked_up is_past is_other multiple range_judged unit_of units_judged entry_judged close_done good_length counted_on present words_from argument
    read_at after
    step_of opened_by goes_on carried_on run_of ran_from events_on run_events events_from all_small
entries = record { enters = refl; keeps = refl; enters_not = refl; keeps_ones = refl; small = refl }

meets_elsewhere : all_small entering ≡ true → Premises Bytes Am17xx 1 elsewhere memory entering 3 0 0
unfolding sound_window all_sound rising good_map kept_of sum_of pick
meets_elsewhere small = record { map = refl; lent = refl; bytes = bytes_by entering small; some = lit≤ tt; most = lit≤ tt; word = lit< tt }

meets_ones : all_small entering ≡ true → Premises Bytes Am17xx 1 windows ones entering 3 0 0
unfolding sound_window all_sound rising good_map kept_of sum_of pick
meets_ones small = record { map = refl; lent = refl; bytes = bytes_by entering small; some = lit≤ tt; most = lit≤ tt; word = lit< tt }

pub kept : Kept
kept =
    let e = entries in
    record {
      flash_enters = e.enters;
      another_map = λ n enough. (same_course Bytes Am17xx 1 elsewhere memory entering 3 0 0 (meets_elsewhere e.small) n enough).events ∙ e.enters_not;
      flash-memory = e.keeps;
      another_memory = λ n enough. (same_course Bytes Am17xx 1 windows ones entering 3 0 0 (meets_ones e.small) n enough).memory ∙ e.keeps_ones;
      differ = λ same. zero_one (ap (λ (m : List ℕ). get_or m 0 0) same);
    }
  where
    zero_one : ◌≢◌ {A = ℕ} 0 1
    zero_one e = absurd (omega (arith, e))

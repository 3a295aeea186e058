-- Two results that meet one contract coincide, and so do two memories at exit: the contract gives each as a value of the arguments.
-- `Post` of a function is what it is proved to meet, of lifetimes, arguments, result and parameters at exit; it computes to the `ensures`.
use Prim.Native.Nat.{ℕ}
use mathlib.Core.Path.{◌≡◌, sym, ◌∙◌}
use mathlib.Core.List.{List}
use Rattle.words.proofs.Unit.size.Reads as size
use Rattle.words.proofs.bit_of.Reads as bit-of
use Rattle.words.proofs.byte_of.Reads as byte_of
use Rattle.words.proofs.is_inside.Reads as is-inside
use Rattle.words.proofs.number_of.Reads as number_of_lem
use Rattle.words.proofs.put_byte.Reads as put_byte
use Rattle.words.proofs.word_at.Reads as word_at
use Rattle.words.proofs.write.Reads as write
use Rattle.words.proofs.write_field.Reads as write-field
use Rattle.checksum.proofs.feed_word.Reads as feed-word
use Rattle.checksum.proofs.feed.Reads as feed
use Rattle.windows.proofs.grants.Reads as grants
use Rattle.windows.proofs.locate.Reads as locate
use Rattle.windows.proofs.sum.Reads as sum
use Rattle.windows.proofs.kept.Reads as kept
use Rattle.windows.proofs.is_good.Reads as is-good
use Rattle.opcodes.proofs.Refusal.code.Reads as number
use Rattle.opcodes.proofs.code_of.Reads as verdict-number
use Rattle.opcodes.proofs.Event.kind.Reads as kind
use Rattle.opcodes.proofs.Event.value.Reads as value
use Rattle.opcodes.proofs.look_up.Reads as look_up
use Rattle.ledger.proofs.Totals.zero.Reads as totals-zero
use Rattle.ledger.proofs.Totals.anew.Reads as totals-anew
use Rattle.ledger.proofs.Totals.from_one.Reads as totals-from-one
use Rattle.ledger.proofs.Totals.is_spent.Reads as totals-is-spent
use Rattle.ledger.proofs.Totals.number.Reads as totals-number
use Rattle.ledger.proofs.Totals.would_pass.Reads as totals-would-pass
use Rattle.ledger.proofs.Totals.differ.Reads as totals-differ
use Rattle.ledger.proofs.Totals.count.Reads as totals-count
use Rattle.ledger.proofs.Totals.mark.Reads as totals-mark
use Rattle.ledger.proofs.Totals.settle.Reads as totals-settle
use Rattle.ledger.proofs.Totals.ask.Reads as totals-ask
use Rattle.ledger.proofs.Totals.put_back.Reads as totals-put-back
use Rattle.ledger.proofs.Totals.turn.Reads as totals-turn
use Rattle.ledger.proofs.Totals.happen.Reads as totals-happen
use Rattle.reading.proofs.read_at.Reads as read_at
use Rattle.reading.proofs.argument_at.Reads as argument_at
use Rattle.reading.proofs.data_words.Reads as words-of-data
use Rattle.reading.proofs.has_data.Reads as data-there
use Rattle.reading.proofs.data_size.Reads as size-of-data
use Rattle.reading.proofs.end_of.Reads as end-of-command
use Rattle.commands.proofs.bar.Reads as bar
use Rattle.commands.proofs.judge_load.Reads as judge-load
use Rattle.commands.proofs.judge_fill.Reads as judge-fill
use Rattle.commands.proofs.judge_setting.Reads as judge-setting
use Rattle.commands.proofs.judge_entry.Reads as judge-entry
use Rattle.stores.proofs.load.Reads as load
use Rattle.stores.proofs.fill_bytes.Reads as fill-bytes
use Rattle.commands.proofs.fill.Reads as fill
use Rattle.commands.proofs.boot_table.Reads as boot-table
use Rattle.commands.proofs.jump_and_close.Reads as jump_and_close
use Rattle.commands.proofs.wrote_none.Reads as Wrote-none
use Rattle.commands.proofs.wrote_bytes.Reads as wrote-bytes
use Rattle.commands.proofs.wrote_setting.Reads as wrote-setting
use Rattle.commands.proofs.seek.Reads as seek
use Rattle.flash_runs.proofs.run_plain.Reads as run-plain
use Rattle.checking.proofs.check.Reads as check
use Rattle.checking.proofs.Report.code.Reads as report-code
use Rattle.checking.proofs.Report.entry.Reads as report-entry
use Rattle.checking.proofs.one_window.Reads as one-window
use Rattle.checking.proofs.count_fetches.Reads as count-fetches
use Rattle.checking.proofs.limit_of.Reads as limit-of
use Rattle.checking.proofs.«open».Reads as check-opening
use Rattle.checking.proofs.windows.Reads as check-windows
use Rattle.survey.proofs.Image.absent.Reads as image-absent
use Rattle.survey.proofs.Image.of.Reads as image-of
use Rattle.survey.proofs.Survey.begin.Reads as survey-begin
use Rattle.survey.proofs.Survey.is_full.Reads as survey-is-full
use Rattle.survey.proofs.Survey.line.Reads as survey-line
use Rattle.survey.proofs.Survey.including.Reads as survey-including
use Rattle.survey.proofs.Survey.totals.Reads as survey-totals
use Rattle.sent.proofs.Session.«open».Reads as sent-opening
use Rattle.sent.proofs.Session.open_halves.Reads as half-opening
use Rattle.sent.proofs.open_on.Reads as Opening-on
use Rattle.sent.proofs.open_numbering.Reads as sent-numbering
use Rattle.sent.proofs.Session.step.Reads as sent-step
use Rattle.sent.proofs.Session.step_half.Reads as half_step
use Rattle.sent.proofs.Session.step_at.Reads as step-at
use Rattle.machine_answers.proofs.silent.Reads as silent
use Rattle.machine_answers.proofs.acknowledgement.Reads as acknowledgement
use Rattle.machine_answers.proofs.reply_word.Reads as reply-word
use Rattle.machine_answers.proofs.moved.Reads as moved
use Rattle.machine_answers.proofs.refuse.Reads as refuse
use Rattle.machine_answers.proofs.say.Reads as say
use Rattle.machine_answers.proofs.tell_wrote.Reads as tell-wrote
use Rattle.machine_answers.proofs.finish.Reads as finish
use Rattle.machine_answers.proofs.enter.Reads as enter
use Rattle.machine_answers.proofs.counts.judge_number.Reads as judge-number
use Rattle.machine_answers.proofs.counts.judge_count.Reads as judge-count
use Rattle.machine_answers.proofs.counts.count_on.Reads as count-on
use Rattle.machine_answers.proofs.counts.less_one.Reads as less_one
use Rattle.machine_answers.proofs.counts.four_at_most.Reads as four-at-most
use Rattle.machine_loads.proofs.begin_load.Reads as begin-load
use Rattle.machine_loads.proofs.take_data.Reads as take-data
use Rattle.machine_commands.proofs.echo.Reads as echo
use Rattle.machine_commands.proofs.perform.Reads as perform
use Rattle.machine.proofs.take_word.Reads as take-word
use Rattle.sent.specs.rules.Line.{UnitOutcome}
use Rattle.sent.specs.declared.Session.{Session}
use Rattle.port.specs.rules.Port.{is_given}
use Rattle.bench_sessions.proofs.maps.count_of.Reads as count_of
use Rattle.bench_sessions.proofs.only_refusal.Reads as only-refusal
use Rattle.bench_sessions.proofs.maps.windows_of.Reads as windows-of
use Rattle.bench.proofs.ais_flash_fetched.Reads as ais-flash-fetched
use Rattle.digits.proofs.decimal.Reads as decimal
use Rattle.digits.proofs.hexadecimal.Reads as hexadecimal
use Rattle.digits.proofs.given.Reads as given
use Rattle.digits.proofs.last_digit.Reads as last-digit
use Rattle.hex_text.proofs.read.Reads as read
use Rattle.hex_text.proofs.write.Reads as written
use Rattle.bench.proofs.ais_dm648_run.Reads as ais-dm648-run
use Rattle.bench.proofs.ais_flash_run.Reads as ais-flash-run
use Rattle.bench.proofs.ais_hex_read.Reads as ais-hex-read
use Rattle.bench.proofs.ais_hex_write.Reads as ais-hex-write
use Rattle.hex_text.proofs.conversions.to_text.Reads as to-text
use Rattle.hex_text.proofs.conversions.to_image.Reads as to-image
use Rattle.port.specs.declared.Told.{Told}

module _ {K : Type 0} {A R E : K → Type 0} (Post : (κs : K) → A κs → R κs → E κs → Type 0) where
  -- any two outcomes that a contract allows at the same arguments agree
  abbrev pub Coincide : ((κs : K) → R κs → R κs → E κs → E κs → Type 0) → Type 0
  Coincide Agree = (κs : K) (a : A κs) (r s : R κs) (e f : E κs) → Post κs a r e → Post κs a s f → Agree κs r s e f

  -- in the result; in a memory at exit; in both
  abbrev pub OneResult : Type 0
  OneResult = Coincide (λ κs r s e f. r ≡ s)

  abbrev pub OneMemory : ((κs : K) → E κs → List ℕ) → Type 0
  OneMemory memory = Coincide (λ κs r s e f. memory κs e ≡ memory κs f)

  abbrev pub OneResultAndMemory : ((κs : K) → E κs → List ℕ) → Type 0
  OneResultAndMemory memory = Coincide (λ κs r s e f. (r ≡ s) × (memory κs e ≡ memory κs f))

-- two that are one value are equal
pub same : {T : Type 0} {x y z : T} → x ≡ z → y ≡ z → x ≡ y
same p q = p ∙ sym q

pub both_same : {T U : Type 0} {x y z : T} {k m n : U} → (x ≡ z) × (k ≡ n) → (y ≡ z) × (m ≡ n) → (x ≡ y) × (k ≡ m)
both_same p q = (same p.0 q.0, same p.1 q.1)

-- words
pub size_unique : OneResult size.Post
size_unique κs a r s e f = same

pub bit_of_unique : OneResult bit-of.Post
bit_of_unique κs a r s e f = same

pub byte_of_unique : OneResult byte_of.Post
byte_of_unique κs a r s e f = same

pub is_inside_unique : OneResult is-inside.Post
is_inside_unique κs a r s e f = same

pub number_of_unique : OneResult number_of_lem.Post
number_of_unique κs a r s e f = same

pub word_at_unique : OneResult word_at.Post
word_at_unique κs a r s e f = same

pub put_byte_unique : OneMemory put_byte.Post (λ κs e. e.0.now)
put_byte_unique κs a r s e f = same

pub write_unique : OneResultAndMemory write.Post (λ κs e. e.0.now)
write_unique κs a r s e f = both_same

pub write_field_unique : OneResultAndMemory write-field.Post (λ κs e. e.0.now)
write_field_unique κs a r s e f = both_same

-- checksum
pub feed_word_unique : OneResult feed-word.Post
feed_word_unique κs a r s e f = same

pub feed_unique : OneResult feed.Post
feed_unique κs a r s e f = same

-- windows
pub grants_unique : OneResult grants.Post
grants_unique κs a r s e f = same

pub locate_unique : OneResult locate.Post
locate_unique κs a r s e f = same

pub sum_unique : OneResult sum.Post
sum_unique κs a r s e f = same

pub kept_unique : OneResult kept.Post
kept_unique κs a r s e f = same

pub is_good_unique : OneResult is-good.Post
is_good_unique κs a r s e f = same

-- script
pub number_unique : OneResult number.Post
number_unique κs a r s e f = same

pub verdict_number_unique : OneResult verdict-number.Post
verdict_number_unique κs a r s e f = same

pub kind_unique : OneResult kind.Post
kind_unique κs a r s e f = same

pub value_unique : OneResult value.Post
value_unique κs a r s e f = same

pub look_up_unique : OneResult look_up.Post
look_up_unique κs a r s e f = same

-- totals
pub totals_zero_unique : OneResult totals-zero.Post
totals_zero_unique κs a r s e f = same

pub totals_anew_unique : OneResult totals-anew.Post
totals_anew_unique κs a r s e f = same

pub totals_from_one_unique : OneResult totals-from-one.Post
totals_from_one_unique κs a r s e f = same

pub totals_is_spent_unique : OneResult totals-is-spent.Post
totals_is_spent_unique κs a r s e f = same

pub totals_number_unique : OneResult totals-number.Post
totals_number_unique κs a r s e f = same

pub totals_would_pass_unique : OneResult totals-would-pass.Post
totals_would_pass_unique κs a r s e f = same

pub totals_differ_unique : OneResult totals-differ.Post
totals_differ_unique κs a r s e f = same

pub totals_count_unique : OneResult totals-count.Post
totals_count_unique κs a r s e f = same

pub totals_mark_unique : OneResult totals-mark.Post
totals_mark_unique κs a r s e f = same

pub totals_settle_unique : OneResult totals-settle.Post
totals_settle_unique κs a r s e f = same

pub totals_ask_unique : OneResult totals-ask.Post
totals_ask_unique κs a r s e f = same

pub totals_put_back_unique : OneResult totals-put-back.Post
totals_put_back_unique κs a r s e f = same

pub totals_turn_unique : OneResult totals-turn.Post
totals_turn_unique κs a r s e f = same

pub totals_happen_unique : OneResult totals-happen.Post
totals_happen_unique κs a r s e f = same

-- reading
pub read_at_unique : OneResult read_at.Post
read_at_unique κs a r s e f = same

pub argument_at_unique : OneResult argument_at.Post
argument_at_unique κs a r s e f = same

pub data_words_unique : OneResult words-of-data.Post
data_words_unique κs a r s e f = same

pub has_data_unique : OneResult data-there.Post
has_data_unique κs a r s e f = same

pub data_size_unique : OneResult size-of-data.Post
data_size_unique κs a r s e f = same

pub end_of_unique : OneResult end-of-command.Post
end_of_unique κs a r s e f = same

-- commands
pub bar_unique : OneResult bar.Post
bar_unique κs a r s e f = same

pub judge_fill_unique : OneResult judge-fill.Post
judge_fill_unique κs a r s e f = same

pub judge_setting_unique : OneResult judge-setting.Post
judge_setting_unique κs a r s e f = same

pub judge_entry_unique : OneResult judge-entry.Post
judge_entry_unique κs a r s e f = same

pub wrote_none_unique : OneResult Wrote-none.Post
wrote_none_unique κs a r s e f = same

pub wrote_bytes_unique : OneResult wrote-bytes.Post
wrote_bytes_unique κs a r s e f = same

pub wrote_setting_unique : OneResult wrote-setting.Post
wrote_setting_unique κs a r s e f = same

pub judge_load_unique : OneResult judge-load.Post
judge_load_unique κs a r s e f = same

pub fill_bytes_unique : OneMemory fill-bytes.Post (λ κs e. e.0.now)
fill_bytes_unique κs a r s e f = same

pub load_unique : OneResultAndMemory load.Post (λ κs e. e.0.now)
load_unique κs a r s e f = both_same

pub fill_unique : OneResultAndMemory fill.Post (λ κs e. e.0.now)
fill_unique κs a r s e f = both_same

pub boot_table_unique : OneResultAndMemory boot-table.Post (λ κs e. e.0.now)
boot_table_unique κs a r s e f = both_same

pub jump_and_close_unique : OneResult jump_and_close.Post
jump_and_close_unique κs a r s e f = same

pub seek_unique : OneResult seek.Post
seek_unique κs a r s e f = same

-- runs
pub run_plain_unique : OneResultAndMemory run-plain.Post (λ κs e. e.1.0.now)
run_plain_unique κs a r s e f = both_same

-- checking
pub check_unique : OneResult check.Post
check_unique κs a r s e f = same

pub count_fetches_unique : OneResult count-fetches.Post
count_fetches_unique κs a r s e f = same

pub limit_of_unique : OneResult limit-of.Post
limit_of_unique κs a r s e f = same

pub check_open_unique : OneResult check-opening.Post
check_open_unique κs a r s e f = same

pub check_windows_unique : OneResult check-windows.Post
check_windows_unique κs a r s e f = same

pub one_window_unique : OneResult one-window.Post
one_window_unique κs a r s e f = same

pub report_code_unique : OneResult report-code.Post
report_code_unique κs a r s e f = same

pub report_entry_unique : OneResult report-entry.Post
report_entry_unique κs a r s e f = same

-- survey
pub image_absent_unique : OneResult image-absent.Post
image_absent_unique κs a r s e f = same

pub image_of_unique : OneResult image-of.Post
image_of_unique κs a r s e f = same

pub survey_begin_unique : OneResult survey-begin.Post
survey_begin_unique κs a r s e f = same

pub survey_is_full_unique : OneResult survey-is-full.Post
survey_is_full_unique κs a r s e f = same

pub survey_line_unique : OneResult survey-line.Post
survey_line_unique κs a r s e f = same

pub survey_including_unique : OneResult survey-including.Post
survey_including_unique κs a r s e f = same

pub survey_totals_unique : OneResult survey-totals.Post
survey_totals_unique κs a r s e f = same

-- sent
pub sent_open_unique : OneResult sent-opening.Post
sent_open_unique κs a r s e f = same

pub half_open_unique : OneResult half-opening.Post
half_open_unique κs a r s e f = same

pub open_on_unique : OneResult Opening-on.Post
open_on_unique κs a r s e f = same

pub sent_open_numbering_unique : OneResult sent-numbering.Post
sent_open_numbering_unique κs a r s e f = same

pub sent_step_unique : OneResultAndMemory sent-step.Post (λ κs e. e.1.0.now)
sent_step_unique κs a r s e f = both_same

pub half_step_unique : OneResultAndMemory half_step.Post (λ κs e. e.1.0.now)
half_step_unique κs a r s e f = both_same

pub step_at_unique : OneResultAndMemory step-at.Post (λ κs e. e.1.0.now)
step_at_unique κs a r s e f = both_same

-- machine_answers
pub silent_unique : OneResult silent.Post
silent_unique κs a r s e f = same

pub acknowledgement_unique : OneResult acknowledgement.Post
acknowledgement_unique κs a r s e f = same

pub reply_word_unique : OneResult reply-word.Post
reply_word_unique κs a r s e f = same

pub moved_unique : OneResult moved.Post
moved_unique κs a r s e f = same

pub refuse_unique : OneResult refuse.Post
refuse_unique κs a r s e f = same

pub say_unique : OneResult say.Post
say_unique κs a r s e f = same

pub tell_wrote_unique : OneResult tell-wrote.Post
tell_wrote_unique κs a r s e f = same

pub finish_unique : OneResult finish.Post
finish_unique κs a r s e f = same

pub enter_unique : OneResult enter.Post
enter_unique κs a r s e f = same

pub judge_number_unique : OneResult judge-number.Post
judge_number_unique κs a r s e f = same

pub judge_count_unique : OneResult judge-count.Post
judge_count_unique κs a r s e f = same

pub count_on_unique : OneResult count-on.Post
count_on_unique κs a r s e f = same

pub less_one_unique : OneResult less_one.Post
less_one_unique κs a r s e f = same

pub four_at_most_unique : OneResult four-at-most.Post
four_at_most_unique κs a r s e f = same

-- machine_loads
pub begin_load_unique : OneResult begin-load.Post
begin_load_unique κs a r s e f = same

pub take_data_unique : OneResultAndMemory take-data.Post (λ κs e. e.1.0.now)
take_data_unique κs a r s e f = both_same

-- machine_commands
pub echo_unique : OneResult echo.Post
echo_unique κs a r s e f = same

pub perform_unique : OneResultAndMemory perform.Post (λ κs e. e.1.0.now)
perform_unique κs a r s e f = both_same

-- machine
pub take_word_unique : OneResultAndMemory take-word.Post (λ κs e. e.1.0.now)
take_word_unique κs a r s e f = both_same

-- port: the contract of the routine over a lent session is read as it stands in the source
pub port_feed_unique : (o : UnitOutcome) {s t : Session} {r q : Told} {m n : List ℕ} → is_given o s r m → is_given o t q n
    → (s ≡ t) × (r ≡ q) × (m ≡ n)
port_feed_unique o a b = (same a.0 b.0, same a.1 b.1, same a.2 b.2)

-- maps
pub count_of_unique : OneResult count_of.Post
count_of_unique κs a r s e f = same

pub windows_of_unique : OneResult windows-of.Post
windows_of_unique κs a r s e f = same

-- digits
pub decimal_unique : OneResult decimal.Post
decimal_unique κs a r s e f = same

pub hexadecimal_unique : OneResult hexadecimal.Post
hexadecimal_unique κs a r s e f = same

pub given_unique : OneResult given.Post
given_unique κs a r s e f = same

pub last_digit_unique : OneResult last-digit.Post
last_digit_unique κs a r s e f = same

-- hex
pub hex_read_unique : OneResultAndMemory read.Post (λ κs e. e.1.0.now)
hex_read_unique κs a r s e f = both_same

pub only_refusal_unique : OneResult only-refusal.Post
only_refusal_unique κs a r s e f = same

pub hex_write_unique : OneResultAndMemory written.Post (λ κs e. e.1.0.now)
hex_write_unique κs a r s e f = both_same

-- bench: the flash entries and the text entries; the sent ones are in `FeedingUniqueness`
pub ais_flash_run_unique : OneResultAndMemory ais-flash-run.Post (λ κs e. e.1.0.now)
ais_flash_run_unique κs a r s e f = both_same

pub ais_flash_fetched_unique : OneResultAndMemory ais-flash-fetched.Post (λ κs e. e.1.0.now)
ais_flash_fetched_unique κs a r s e f = both_same

pub ais_dm648_run_unique : OneResultAndMemory ais-dm648-run.Post (λ κs e. e.1.0.now)
ais_dm648_run_unique κs a r s e f = both_same

pub ais_hex_read_unique : OneResultAndMemory ais-hex-read.Post (λ κs e. e.1.0.now)
ais_hex_read_unique κs a r s e f = both_same

pub ais_hex_write_unique : OneResultAndMemory ais-hex-write.Post (λ κs e. e.1.0.now)
ais_hex_write_unique κs a r s e f = both_same

-- conversions: besides result and room they promise that the one lies in the other
pub to_text_unique : OneResultAndMemory to-text.Post (λ κs e. e.1.0.now)
to_text_unique κs a r s e f p q = (same p.0 q.0, same p.1.1 q.1.1)

pub to_image_unique : OneResultAndMemory to-image.Post (λ κs e. e.1.0.now)
to_image_unique κs a r s e f p q = (same p.0 q.0, same p.1.1 q.1.1)

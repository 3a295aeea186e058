-- The instance and the exception, by computing.
use mathlib.Core.Bool.{false, true≢false, false≢true}
use mathlib.Core.Path.{◌≡◌, refl, ap}
use lib.Dec.{lit<}
use borrow.Author.Tests.{eqb-false}
use Rattle.words.specs.rules.Bits.{bit, join, within}
use Rattle.words.specs.rules.Bytes.{byte, number, bytes_at, put}
use Rattle.words.specs.rules.Choice.{pick}
use Rattle.windows.specs.rules.Map.{sound_window, all_sound, rising, good_map, kept_of}
use Rattle.windows.specs.rules.Window.{has_right, inside, grants_range, place_from, place_of, sum_of}
use Rattle.opcodes.specs.rules.Opcodes.{rows, row_serves, found_in, looked_up}
use Rattle.opcodes.specs.declared.Dialect.TheVariants.{Am17xx}
use Rattle.ledger.specs.rules.Totals.{following}
use Rattle.commands.specs.rules.Commands.{range_judged, load_judged}
use Rattle.stores.specs.rules.Stores.{loaded}
use Rattle.machine_answers.specs.rules.Answers.{after}
use Rattle.machine_answers.specs.declared.Core.{Core}
use Rattle.machine_loads.specs.rules.Loads.{awaited}
use Rattle.machine.specs.rules.Machine.{acknowledging, word_step}
use Rattle.sent.specs.claims.Lift.{at_word}
use Rattle.sent.specs.rules.Bus.{all_units, pushed}
use Rattle.sent.specs.rules.Feeding.{fed, answers, replied, first_of, first_refused}
use Rattle.sent.specs.rules.Line.{carried, is_start, start_answer, unit_step}
use Rattle.sent.specs.rules.Opening.{opened_by}
use Rattle.sent.specs.declared.Bus.{Bus}
use Rattle.sent.specs.declared.Bus.TheVariants.{Bytes, Halves}
use Rattle.sent_laws.specs.claims.Example.{windows, fresh, zeros, loading, loaded_bytes, TakenAsData, StartByteFirst, StartHalfFirst}
use Rattle.sent_laws.specs.claims.Reached.{opened}
use Rattle.sent_laws.proofs.Lines.{both_lines}

loads : (bus : Bus) → (fed bus (at_word fresh zeros) (all_units bus loading)).memory ≡ loaded_bytes
unfolding bit join within byte number bytes_at put pick has_right inside grants_range place_from place_of sum_of sound_window all_sound rising good_map
    kept_of rows
    row_serves found_in looked_up range_judged load_judged loaded following after awaited acknowledging word_step pushed carried is_start unit_step opened_by
    fed fresh
loads Bytes = refl
loads Halves = refl

pub taken_as_data : TakenAsData
unfolding byte pick fresh
taken_as_data =
    record {
      same =
          both_lines.reached {bus = Bytes} (opened false Am17xx 1 windows) zeros _ _ (lit< tt, (lit< tt, (lit< tt, (lit< tt, (lit< tt, tt)))))
          (λ e. eqb-false _ _ refl) (λ e. eqb-false _ _ refl);
      loads = loads;
    }

-- what each line makes of a word that is sent first
pub start-byte-first : StartByteFirst
unfolding byte pick sum_of sound_window all_sound rising good_map kept_of rows row_serves found_in looked_up acknowledging word_step pushed carried is_start
    unit_step
    start_answer opened_by fed answers replied first_of first_refused fresh
start-byte-first =
    record {
      a_word = λ e. eqb-false _ _ refl;
      answered = refl;
      refused = refl;
      differ = λ same. false≢true (ap (λ (k : Core). k.ended) same.same_core);
    }

pub start-half-first : StartHalfFirst
unfolding byte pick sum_of sound_window all_sound rising good_map kept_of rows row_serves found_in looked_up acknowledging word_step pushed carried is_start
    unit_step
    start_answer opened_by fed answers replied first_of first_refused fresh
start-half-first =
    record {
      a_word = λ e. eqb-false _ _ refl;
      answered = refl;
      refused = refl;
      differ = λ same. true≢false (ap (λ (k : Core). k.ended) same.same_core);
    }

-- By computing.
use mathlib.Core.Path.{refl}
use Rattle.words.specs.rules.Bits.{join}
use Rattle.words.specs.rules.Bytes.{byte, number, bytes_at, word_at, put}
use Rattle.words.specs.rules.Choice.{pick}
use Rattle.windows.specs.rules.Map.{sound_window, all_sound, rising, good_map, kept_of}
use Rattle.windows.specs.rules.Window.{has_right, inside, grants_range, place_from, place_of, sum_of}
use Rattle.opcodes.specs.rules.Opcodes.{rows, row_serves, found_in, looked_up}
use Rattle.ledger.specs.rules.Totals.{is_past, is_other, following}
use Rattle.ledger.specs.claims.Account.{account, numbers_told}
use Rattle.reading.specs.rules.Reading.{present, argument, read_at}
use Rattle.commands.specs.rules.Commands.{multiple, range_judged, unit_of, units_judged, fill_judged, fill_done, fill_memory, entry_judged, close_done, target}
use Rattle.commands.specs.rules.Commands.{sought_from}
use Rattle.stores.specs.rules.Stores.{filled}
use Rattle.flash_session.specs.rules.Opening as flash_opening
use Rattle.flash_session.specs.rules.Opening.{good_length}
use Rattle.flash_session.specs.rules.Sessions.{counted_on, after}
use Rattle.flash_commands.specs.rules.Commands.{requested}
use Rattle.flash.specs.rules.Step.{step_of}
use Rattle.machine_answers.specs.rules.Answers.{after as after_command}
use Rattle.machine_commands.specs.rules.Performed.{echoing}
use Rattle.machine.specs.rules.Machine.{acknowledging, word_step}
use Rattle.sent.specs.rules.Bus.{pushed}
use Rattle.sent.specs.rules.Feeding.{fed}
use Rattle.sent.specs.rules.Line.{carried, is_start, unit_step}
use Rattle.sent.specs.rules.Opening.{opened_by, numbering_from}
use Rattle.sent.specs.declared.Bus.{Bus}
use Rattle.sent.specs.declared.Bus.TheVariants.{Bytes, Halves}
use Rattle.sent_laws.specs.claims.Reached.{fed_reached}
use Rattle.bit_history.specs.claims.UnitHistory.{ends_word}
use Rattle.law_counting.specs.claims.Example.{WorkedOnLine, Worked}
use Rattle.law_counting.specs.claims.InFlash as flash
use Rattle.law_counting.specs.claims.OnLine as line

worked_on_line : (bus : Bus) → WorkedOnLine bus
unfolding join byte number bytes_at put pick has_right inside grants_range place_from place_of sum_of sound_window all_sound rising good_map kept_of rows
    row_serves
    found_in looked_up multiple range_judged unit_of units_judged fill_judged fill_done fill_memory filled is_past following pushed carried is_start unit_step
    after_command
    echoing acknowledging word_step opened_by numbering_from fed ends_word line.word_acts line.acts_of fed_reached
worked_on_line Bytes = record { acts = refl; stands = refl; next_number = refl }
worked_on_line Halves = record { acts = refl; stands = refl; next_number = refl }

pub worked : Worked
unfolding pick join number bytes_at word_at has_right inside grants_range place_from place_of sum_of rows row_serves found_in looked_up is_past is_other
    multiple range_judged unit_of units_judged fill_judged fill_done entry_judged close_done target sought_from good_length counted_on present argument
    read_at after
    requested step_of account numbers_told sound_window all_sound rising good_map kept_of flash_opening.opened_by flash_opening.numbering_from
    flash.call_acts flash.acts_of
worked = record { account_now = refl; account_numbers = refl; on_line = worked_on_line; in-flash = refl; flash_now = refl }

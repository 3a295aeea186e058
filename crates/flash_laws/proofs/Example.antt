-- The definitions compute.
use mathlib.Core.Path.{refl}
use Rattle.words.specs.rules.Bits.{join}
use Rattle.words.specs.rules.Bytes.{number, bytes_at, word_at}
use Rattle.words.specs.rules.Choice.{pick}
use Rattle.windows.specs.rules.Map.{sound_window, all_sound, rising, good_map, kept_of}
use Rattle.windows.specs.rules.Window.{has_right, inside, grants_range, place_from, place_of, sum_of}
use Rattle.opcodes.specs.rules.Opcodes.{rows, row_serves, found_in, looked_up}
use Rattle.ledger.specs.rules.Totals.{is_past, is_other, following}
use Rattle.reading.specs.rules.Reading.{present, argument, read_at}
use Rattle.commands.specs.rules.Commands.{multiple, range_judged, unit_of, units_judged, fill_judged, fill_done, entry_judged, close_done, target, sought_from}
use Rattle.flash_laws.specs.claims.Example.{TotalsWorked}
use Rattle.flash_session.specs.rules.Opening.{good_length, opened_by, numbering_from}
use Rattle.flash_session.specs.rules.Sessions.{counted_on, after}
use Rattle.flash_commands.specs.rules.Commands.{requested}
use Rattle.flash.specs.rules.Step.{step_of}
use Rattle.flash_laws.specs.claims.Totals.{accepted_in}

pub totals_worked : TotalsWorked
unfolding pick join number bytes_at word_at has_right inside grants_range place_from place_of sum_of sound_window all_sound rising good_map kept_of
    rows row_serves found_in looked_up is_past is_other following multiple range_judged unit_of units_judged
    fill_judged fill_done entry_judged close_done target sought_from good_length
    opened_by numbering_from counted_on present argument read_at after requested step_of accepted_in
totals_worked = record { counted = refl; enters = refl; accepted = refl; retried = refl; back = refl }

-- The story, computed.
use mathlib.Core.Path.{refl}
use Rattle.words.specs.rules.Bits.{join}
use Rattle.words.specs.rules.Bytes.{byte, number, bytes_at, word_at}
use Rattle.words.specs.rules.Choice.{pick}
use Rattle.opcodes.specs.rules.Opcodes.{rows, row_serves, found_in as row_in, looked_up}
use Rattle.commands.specs.rules.Commands.{unit_of, field_shape, shape_of}
use Rattle.field_lines.specs.rules.Clashes.{lasts, in_force, has_bit}
use Rattle.field_lines.specs.rules.Text.{same, padded}
use Rattle.field_register.specs.rules.Questions.{is_about, answers, found_in}
use Rattle.field_register.specs.rules.Reading.{kept, lines_in}
use Rattle.bit_report.specs.rules.Deeds.{spread, bytes_deed, setting_deed, deed_at}
use Rattle.bit_report.specs.rules.Fields.{has_other, reaches_out, has_cut, two_fields, cut_field}
use Rattle.bit_report.specs.rules.Lowest.{lowest}
use Rattle.bit_report.specs.rules.Parts.{same_field}
use Rattle.bit_report.specs.claims.Story.{TheStory}

pub the_story : TheStory
unfolding
    join
    byte
    number
    bytes_at
    word_at
    pick
    rows
    row_serves
    row_in
    looked_up
    unit_of
    field_shape
    shape_of
    lasts
    in_force
    has_bit
    same
    padded
    is_about
    answers
    found_in
    kept
    lines_in
    spread
    bytes_deed
    setting_deed
    deed_at
    has_other
    reaches_out
    has_cut
    two_fields
    cut_field
    lowest
    same_field
the_story =
    record {
      setting = refl;
      fault = refl;
      no_cut = refl;
      unnamed = record { one = refl; whole = refl };
      low_part = refl;
      third_bit = refl;
      own_2 = record { one = refl; whole = refl };
      own_priority_2 = record { one = refl; whole = refl };
      own_3 = record { one = refl; whole = refl };
      own_priority_3 = record { one = refl; whole = refl };
    }

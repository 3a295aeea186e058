-- The story, computed from its text; that its lines are well-formed is the law of what was read.
use Prim.Native.Nat.{ℕ, zero, suc, ◌<◌}
use mathlib.Core.Path.{refl}
use native.Mathlib.Omega.{arith}
use lib.Dec.{lit<}
use lib.ListN.{length}
use Rattle.words.specs.rules.Bits.{within}
use Rattle.words.specs.rules.Choice.{pick}
use Rattle.digits.specs.rules.Digits.{digit_value}
use Rattle.digits.specs.rules.Numbers.{are_digits, number_of}
use Rattle.commands.specs.rules.Commands.{too_wide}
use Rattle.field_lines.specs.rules.Clashes.{lasts, in_force, has_bit, share_release, share_bit, clash}
use Rattle.field_lines.specs.rules.Lines.{in_order, parsed_if, line_at}
use Rattle.field_lines.specs.rules.Pairs.{index_of, stands, closed_at, value_at}
use Rattle.field_lines.specs.rules.Text.{same, zero_leads, is_decimal, is_address, are_letters, is_name, padded, name_of}
use Rattle.field_register.specs.rules.Commands.{type_word, words_for, command_of}
use Rattle.field_register.specs.rules.Questions.{is_about, answers, found_in}
use Rattle.field_register.specs.rules.Reading.{kept, lines_in, clashes, read_from}
use Rattle.field_laws.specs.claims.Meanings.{lines_of, nth}
use Rattle.field_laws.specs.claims.Story.{story, TheStory}
use Rattle.field_laws.proofs.TextsRead.{reads_well_formed}

-- no line names a release after 3
later_than_three : (i : ℕ) → i < length (lines_of story) → ((nth (lines_of story) i).since < 4) × ((nth (lines_of story) i).until < 4)
unfolding index_of pick lasts in_force has_bit share_release share_bit clash in_order parsed_if line_at stands closed_at value_at same
    digit_value within are_digits
    number_of zero_leads is_decimal is_address are_letters is_name padded name_of kept lines_in clashes read_from
later_than_three zero h = (lit< tt, lit< tt)
later_than_three (suc zero) h = (lit< tt, lit< tt)
later_than_three (suc (suc zero)) h = (lit< tt, lit< tt)
later_than_three (suc (suc (suc zero))) h = (lit< tt, lit< tt)
later_than_three (suc (suc (suc (suc i)))) h = absurd (omega arith)

pub the_story : TheStory
unfolding index_of pick too_wide lasts in_force has_bit share_release share_bit clash in_order parsed_if line_at stands closed_at value_at same within
    digit_value are_digits
    number_of zero_leads is_decimal is_address are_letters is_name padded name_of type_word words_for command_of is_about answers found_in kept lines_in
    clashes read_from
the_story =
    record {
      good = refl;
      well_formed = reads_well_formed.text_written story refl;
      later = later_than_three;
      urgent = refl;
      longer = refl;
      still = refl;
      before = record { made = refl };
      after = record { made = refl };
      too_long = refl;
    }

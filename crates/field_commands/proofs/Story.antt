-- The premises by computing, what comes of them by the law, and the byte by computing the call.
use Rattle.std.specs.Prelude.{Some}
use Prim.Native.Nat.{ℕ}
use mathlib.Core.List.{List}
use mathlib.Core.Path.{◌≡◌, refl}
use lib.Dec.{lit≤}
use lib.ListN.{get_or}
use Rattle.words.specs.rules.Bits.{join, with_field}
use Rattle.words.specs.rules.Bytes.{byte, number, bytes_at, word_at, put, fits, field_fits, field_written}
use Rattle.words.specs.rules.Choice.{pick}
use Rattle.windows.specs.rules.Window.{has_right, inside, place_from, place_of, sum_of}
use Rattle.windows.specs.declared.Right.TheVariants.{Set}
use Rattle.opcodes.specs.rules.Opcodes.{rows, row_serves, found_in, looked_up}
use Rattle.reading.specs.rules.Reading.{present, argument, read_at}
use Rattle.commands.specs.rules.Commands.{multiple, range_judged, unit_of, units_judged, field_shape, shape_of, too_wide, setting_memory}
use Rattle.flash_session.specs.rules.Opening.{good_length}
use Rattle.flash.specs.rules.Step.{step_of}
use Rattle.law_modes.specs.claims.Modes.{words_at}
use Rattle.field_laws.specs.claims.Meanings.{address_in, Made}
use Rattle.field_laws.specs.claims.Story.{story}
use Rattle.field_laws.proofs.Story.{the_story}
use Rattle.field_lines.specs.rules.Text.{bytes_of}
use Rattle.field_commands.specs.claims.CarriedOut.{StandsAt, Awaits}
use Rattle.field_commands.specs.claims.Story.{board, cleared, in_two, in_three, image_of, in_flash, on_line, Urgent, StoryCarriedOut}
use Rattle.field_commands.proofs.CarriedOut.{commands_carried_out}

stands_two : StandsAt (in_flash in_two) cleared (image_of in_two) in_two
unfolding good_length multiple words_at word_at bytes_at number join byte sum_of
stands_two = record { running = refl; lent = refl; sound = refl; inside = lit≤ tt; there = refl }

stands_three : StandsAt (in_flash in_three) cleared (image_of in_three) in_three
unfolding good_length multiple words_at word_at bytes_at number join byte sum_of
stands_three = record { running = refl; lent = refl; sound = refl; inside = lit≤ tt; there = refl }

awaiting : Awaits on_line cleared
unfolding sum_of
awaiting = record { opcode = refl; lent = refl }

-- the option word lies in the window
over_word : place_of board Set 0x80000010 4 ≡ Some 16
unfolding place_of place_from has_right inside pick
over_word = refl

urgent : (release : ℕ) (words : List ℕ) (becomes : ℕ) → Made story (bytes_of "priority") release 1 words → place_of board Set (address_in words) 4 ≡ Some 16
    → StandsAt (in_flash words) cleared (image_of words) words → get_or (step_of (in_flash words) cleared (image_of words)).memory 16 0 ≡ becomes
    → Urgent release words becomes
urgent release words becomes made over stands byte-is =
    let name : List ℕ = bytes_of "priority" in
    record {
      made = made;
      over = over;
      stands = stands;
      awaits = awaiting;
      numbers = (refl, refl);
      called = (commands_carried_out.by_call story name release 1 words made (in_flash words) cleared (image_of words) stands).carried_out.sets 16 over refl;
      sent = (commands_carried_out.by_words story name release 1 words made on_line cleared awaiting).carried_out.sets 16 over refl;
      by_units = λ bus. commands_carried_out.by_units story name release 1 words made bus on_line cleared awaiting refl;
      option = byte-is;
    }

pub story_carried_out : StoryCarriedOut
unfolding step_of read_at present argument looked_up rows row_serves found_in pick good_length multiple sum_of place_of place_from has_right inside
    range_judged unit_of
    units_judged field_shape shape_of too_wide setting_memory field_written field_fits fits put with_field word_at bytes_at number join byte
story_carried_out =
    record {
      before = urgent 2 in_two 0x40 the_story.before over_word stands_two refl;
      after = urgent 3 in_three 0x80 the_story.after over_word stands_three refl;
    }

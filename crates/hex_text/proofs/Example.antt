-- The example holds by computing.
use Rattle.std.proofs.Common.{refl}
use Rattle.words.specs.rules.Bits.{join, within}
use Rattle.words.specs.rules.Bytes.{byte, number}
use Rattle.words.specs.rules.Choice.{pick}
use Rattle.digits.specs.rules.Digits.{digit_value, digit_of}
use Rattle.digits.specs.rules.Numbers.{are_digits, number_of}
use Rattle.hex_text.specs.rules.Digits.{digit_at, digits_of, bytes_of}
use Rattle.hex_text.specs.claims.Example.{Example}
use Rattle.hex_text.specs.rules.Text.{each_word, image_of, text_of, read_answer, write_answer, laid, left_by}

pub example : Example
unfolding join within byte number pick digit_value digit_of digit_at digits_of number_of bytes_of each_word image_of text_of are_digits read_answer
    write_answer laid left_by
example =
    record {
      is_written = (refl, refl);
      is_read = (refl, refl);
      small_is_read = (refl, refl);
      no_byte = refl;
    }

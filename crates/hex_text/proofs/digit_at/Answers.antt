-- `hex_text::digit_at` meets its contract: the four bits at their place are the last digit of what lies from there on.
use Rattle.hex_text.specs.rules.Digits.{digit_at}
use Rattle.hex_text.proofs.digit_at.Goals as goal

pub returns : goal.returns
unfolding digit_at
returns c = c.last_digit.ensures

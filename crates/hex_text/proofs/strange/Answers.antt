-- `hex_text::strange` meets its contract: a character outside all three ranges is no digit.
use Rattle.hex_text.proofs.Digits.{strange_by_ranges}
use Rattle.hex_text.proofs.strange.Goals as goal

pub returns : goal.returns
returns c =
    rw (
      c.min.ensures,
      c.outside-3.ensures,
      c.min-letter.ensures,
      c.outside-2.ensures,
      c.outside.ensures,
    )
    (strange_by_ranges c.args.character)

-- `hex_text::put_digits` meets its contract: eight stores in a row are the eight digits, and nothing of what stood there is left.
use Rattle.std.proofs.Common.{refl, ◌∙◌, sym}
use Rattle.hex_text.specs.rules.Digits.{digits_of}
use Rattle.hex_text.proofs.Turning.{digits_length, all_stored}
use Rattle.hex_text.proofs.put_digits.Goals as goal

pub returns : goal.returns
unfolding digits_of
returns c =
    all_stored c.args.place.now (digits_of c.args.word) _ (digits_length c.args.word ∙ sym c.requires)
    (rw (
      c.digit_at-8.ensures,
      c.digit_at-7.ensures,
      c.digit_at-6.ensures,
      c.digit_at-5.ensures,
      c.digit_at-4.ensures,
      c.digit_at-3.ensures,
      c.digit_at-2.ensures,
      c.digit_at.ensures,
    )
    refl)

-- `hex_text::word_of` meets its contract: one digit more is sixteen times the number so far and its value, and so many digits fit a word.
use Rattle.std.proofs.Common.{arith}
use Rattle.std.proofs.Common.{rules}
use Rattle.digits.specs.rules.Numbers.{number_of}
use Rattle.digits.proofs.Numbers.{digit_in}
use Rattle.hex_text.proofs.Texts.{digit_more, digits_fit}
use Rattle.hex_text.proofs.word_of.Goals as goal

pub loop-digit-init : goal.loop-digit-init
unfolding number_of
loop-digit-init c = search rules

pub overflow_mul-word : goal.overflow_mul-word
overflow_mul-word c =
    let l = c.loop-digit in
    let small = digits_fit c.args.digits.now l.digit-index c.requires.0 (omega arith) in
    omega (arith, l.invariant)

pub value-requires : goal.value-requires
value-requires c = digit_in 16 _ _ c.requires.0 (omega arith)

pub overflow_add-word : goal.overflow_add-word
overflow_add-word c =
    let l = c.loop-digit in
    let small = digits_fit c.args.digits.now l.digit-index c.requires.0 (omega arith) in
    omega (arith, l.invariant)

pub loop-digit-preserved : goal.loop-digit-preserved
loop-digit-preserved c =
    let l = c.loop-digit in
    let more = digit_more c.args.digits.now l.digit-index (omega arith) in
    omega (arith, l.invariant)

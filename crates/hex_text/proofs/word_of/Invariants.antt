-- What each turn keeps: the number of the digits so far.
use Rattle.std.proofs.Common.{◌≡◌, take}
use Rattle.hex_text.specs.rules.Digits.{word_of}
use Rattle.hex_text.proofs.word_of.Given as goal

abbrev pub invariant-loop-digit : goal.invariant-loop-digit
invariant-loop-digit l = l.word ≡ word_of (take l.digit-index l.digits)

-- What each turn keeps.
use Rattle.std.proofs.Common.{◌≡◌, ◌&&◌, eqb, drop}
use Rattle.hex_text.specs.rules.Text.{all_digits}
use Rattle.hex_text.proofs.is_text.Given as goal

abbrev pub invariant-loop-character : goal.invariant-loop-character
invariant-loop-character l = all_digits l.text ≡ (eqb l.strangest 0 && all_digits (drop l.character-index l.text))

-- `hex_text::is_text` meets its contract: the text is digits where nothing strange was met so far and what is left is digits.
use Rattle.std.proofs.Common.{ℕ, ◌<◌, ◌≤◌, ◌&&◌, eqb, List, length, get_or, sym, refl, ap, ◌∙◌, add-one, arith, drop_of_length-le, drop-cons}
use mathlib.Core.Bool.{and-true}
use Rattle.digits.specs.rules.Numbers.{are_digits}
use Rattle.hex_text.specs.rules.Text.{all_digits}
use Rattle.hex_text.proofs.Texts.{looked}
use Rattle.hex_text.proofs.is_text.Goals as goal

pub loop-character-init : goal.loop-character-init
loop-character-init c = refl

pub loop-character-preserved : goal.loop-character-preserved
unfolding are_digits
loop-character-preserved c =
    let l = c.loop-character in
    let text = c.args.text.now in
    let i = l.character-index in
    let inside : i < length text = omega arith in
    l.invariant
    ∙ ap (λ (rest : List ℕ). eqb l.strangest 0 && all_digits rest) (drop-cons text i 0 inside)
    ∙ looked l.strangest (get_or text i 0) _
    ∙ rw (c.max-strangest.ensures, c.strange.ensures, add-one)

pub returns : goal.returns
unfolding are_digits
returns c =
    let l = c.loop-character in
    let text = c.args.text.now in
    let past : length text ≤ l.character-index = omega arith in
    sym (l.invariant ∙ ap (λ (rest : List ℕ). eqb l.strangest 0 && all_digits rest) (drop_of_length-le text past) ∙ and-true _)

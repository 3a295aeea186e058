-- `hex_text::write_words` meets its contract: after i turns the first i words are laid into the room, and the next one makes it i + 1.
use Rattle.std.proofs.Common.{◌≡◌, ◌*◌, ◌/◌, length, refl, ap, ◌∙◌, arith, length-drop, take_all, ◌≤◌}
use Rattle.words.specs.rules.Bytes.{number}
use Rattle.hex_text.specs.rules.Digits.{digits_of}
use Rattle.hex_text.specs.rules.Text.{each_word, text_of, laid}
use Rattle.hex_text.proofs.Turning.{text_length, word_written}
use Rattle.hex_text.proofs.WordByWord.{word_taken}
use Rattle.hex_text.proofs.write_words.Goals as goal

pub loop-i-init : goal.loop-i-init
unfolding laid each_word
loop-i-init c =
    let none : c.into_iter-i-iterator.result.count ≡ 0 = cc in
    record { size = cc; rest = rw none (cc); counted = omega arith; laid_so_far = rw none refl }

pub slice_bounds-put_digits-end : goal.slice_bounds-put_digits-end
slice_bounds-put_digits-end c =
    let l = c.loop-i in
    let s = c.in-Some.ensures.steps in
    let taken = word_taken 4 _ _ _ _ _ l.invariant.rest s.0.1.0 (s.0.1.1 ∙ l.invariant.size) l.invariant.counted in
    let whole = text_length c.args.image.now in
    omega (arith, c.requires, l.auto.room)

pub loop-i-preserved : goal.loop-i-preserved
loop-i-preserved c =
    let l = c.loop-i in
    let s = c.in-Some.ensures.steps in
    let size = s.0.1.1 ∙ l.invariant.size in
    let taken = word_taken 4 _ _ _ _ _ l.invariant.rest s.0.1.0 size l.invariant.counted in
    let all : length c.in-Some.bytes.now ≤ 4 = omega arith in
    let word = c.number_of.ensures ∙ ap number (take_all 4 _ all ∙ taken.0) in
    let digits = c.put_digits.ensures ∙ ap digits_of word in
    record {
      size = s.0.0 ∙ l.invariant.size;
      rest = rw s.2 taken.1;
      counted = rw s.2 taken.2;
      laid_so_far =
          rw (digits, s.2, l.invariant.laid_so_far)
          (word_written c.args.image.now c.args.room.now l.i-iterator.count _ _ (omega (arith, s.1)) (omega arith));
    }

pub returns : goal.returns
unfolding text_of
returns c =
    let l = c.loop-i in
    let s = c.in-None.ensures.steps in
    let all : l.i-iterator.count ≡ length c.args.image.now / 4 =
    omega (arith, s.0.1.0, ap length l.invariant.rest ∙ length-drop (4 * l.i-iterator.count) c.args.image.now) in
    rw (← all) l.invariant.laid_so_far

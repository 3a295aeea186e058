-- `hex_text::read_words` meets its contract: after i turns the first i words are laid into the room, and the next one makes it i + 1.
use Rattle.std.proofs.Common.{◌≡◌, ◌*◌, ◌/◌, length, refl, ap, ◌∙◌, arith, length-drop}
use Rattle.digits.proofs.Numbers.{digits_drop, digits_take}
use Rattle.hex_text.specs.rules.Digits.{bytes_of, word_of}
use Rattle.hex_text.specs.rules.Text.{each_word, image_of, laid}
use Rattle.hex_text.proofs.Turning.{image_length, little_endian, word_read}
use Rattle.hex_text.proofs.WordByWord.{word_taken}
use Rattle.hex_text.proofs.read_words.Goals as goal

pub loop-i-init : goal.loop-i-init
unfolding laid each_word
loop-i-init c =
    let none : c.into_iter-i-iterator.result.count ≡ 0 = cc in
    record { size = cc; rest = rw none (cc); counted = omega arith; laid_so_far = rw none refl }

pub slice_bounds-copy_from_slice-end : goal.slice_bounds-copy_from_slice-end
slice_bounds-copy_from_slice-end c =
    let l = c.loop-i in
    let s = c.in-Some.ensures.steps in
    let taken = word_taken 8 _ _ _ _ _ l.invariant.rest s.0.1.0 (s.0.1.1 ∙ l.invariant.size) l.invariant.counted in
    let whole = image_length c.args.text.now in
    omega (arith, c.requires.1, l.auto.room)

pub word_of-requires : goal.word_of-requires
word_of-requires c =
    let l = c.loop-i in
    let s = c.in-Some.ensures.steps in
    let taken = word_taken 8 _ _ _ _ _ l.invariant.rest s.0.1.0 (s.0.1.1 ∙ l.invariant.size) l.invariant.counted in
    (rw taken.0 (digits_take 16 8 _ (digits_drop 16 (8 * l.i-iterator.count) _ c.requires.0)), omega arith)

pub loop-i-preserved : goal.loop-i-preserved
loop-i-preserved c =
    let l = c.loop-i in
    let s = c.in-Some.ensures.steps in
    let taken = word_taken 8 _ _ _ _ _ l.invariant.rest s.0.1.0 (s.0.1.1 ∙ l.invariant.size) l.invariant.counted in
    let word = c.word_of.ensures ∙ ap word_of taken.0 in
    let bytes = c.copy_from_slice.ensures.after ∙ c.to_le_bytes.ensures ∙ little_endian _ ∙ ap bytes_of word in
    record {
      size = s.0.0 ∙ l.invariant.size;
      rest = rw s.2 taken.1;
      counted = rw s.2 taken.2;
      laid_so_far =
          rw (bytes, s.2, l.invariant.laid_so_far)
          (word_read c.args.text.now c.args.room.now l.i-iterator.count _ _ (omega (arith, s.1)) (omega arith));
    }

pub returns : goal.returns
unfolding image_of
returns c =
    let l = c.loop-i in
    let s = c.in-None.ensures.steps in
    let all : l.i-iterator.count ≡ length c.args.text.now / 8 =
    omega (arith, s.0.1.0, ap length l.invariant.rest ∙ length-drop (8 * l.i-iterator.count) c.args.text.now) in
    rw (← all) l.invariant.laid_so_far

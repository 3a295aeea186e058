-- What each turn keeps: the words so far are laid into the room, and the rest of the image is left.
use Rattle.std.proofs.Common.{◌≡◌, ◌*◌, ◌≤◌, length, drop}
use Rattle.hex_text.specs.rules.Text.{each_word, written_word, laid}
use Rattle.hex_text.proofs.write_words.Given as goal

abbrev pub invariant-loop-i : goal.invariant-loop-i
invariant-loop-i l = record {
  size : l.i-iterator.iter.size ≡ 4;
  rest : l.i-iterator.iter.rest.now ≡ drop (4 * l.i-iterator.count) l.image;
  counted : 4 * l.i-iterator.count ≤ length l.image;
  laid_so_far : l.room ≡ laid (each_word 4 written_word l.i-iterator.count l.image) l.initial.room;
}
